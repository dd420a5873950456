use Rattle.std.proofs.Common.{false}
use Rattle.campaign_core.specs.Numbering.Submissions.{with_withdrawal}
use Rattle.assessment.proofs.ListFacts.{set-at_place}
use Rattle.campaign_core.proofs.campaign.submissions.note_withdrawal.Goals as goal

pub returns : goal.returns
returns c = rw c.from.ensures (set-at_place with_withdrawal c.args.submissions.now c.args.run.0 (record { place = 0; is_withdrawn = false }))
