-- What is printed is the summaries of the live runs among those so far.
use Rattle.std.proofs.Common.{◌≡◌, take}
use Rattle.std.specs.List.{flat_map}
use Rattle.rulebook.specs.Campaign.{runs}
use Rattle.rulebook.specs.Reports.Scores.{summary_lines}
use Rattle.campaign_core.proofs.Entries.Runs.LiveRunLists.{live_of}
use Rattle.campaign_core.proofs.pages.score_pages.table_reply.Given as goal

abbrev pub invariant-loop-number : goal.invariant-loop-number
invariant-loop-number l =
    l.out.items ≡ flat_map (summary_lines l.fn.campaign.history.items) (live_of l.fn.campaign.history.items (take l.number (runs l.fn.campaign.history.items)))
