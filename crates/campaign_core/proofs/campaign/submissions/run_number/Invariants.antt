-- No run so far has the name.
use Rattle.std.proofs.Common.{◌≡◌, false, take}
use Rattle.std.specs.List.{list_any}
use Rattle.std.specs.Str.{bytes_eq}
use Rattle.rulebook.specs.Campaign.{runs}
use Rattle.campaign_core.proofs.campaign.submissions.run_number.Given as goal

abbrev pub invariant-loop-number : goal.invariant-loop-number
invariant-loop-number l = list_any (λ run. bytes_eq run.name l.name) (take l.number (runs l.history)) ≡ false
