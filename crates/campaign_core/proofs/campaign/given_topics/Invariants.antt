-- The entries that were passed give no topics: those of the entries left are the history's.
use Rattle.std.proofs.Common.{◌≡◌, drop}
use Rattle.rulebook.specs.Campaign.{topics}
use Rattle.campaign_core.proofs.campaign.given_topics.Given as goal

abbrev pub invariant-loop-entry : goal.invariant-loop-entry
invariant-loop-entry l = topics (drop l.entry-index l.history) ≡ topics l.history
