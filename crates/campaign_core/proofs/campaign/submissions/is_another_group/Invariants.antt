-- The submissions that are left tell what all of them do, whether the caller submitted the run.
use Rattle.std.proofs.Common.{◌≡◌, drop, map}
use Rattle.campaign_core.specs.Numbering.Submissions.{any_at, entry_place, is_submitted_by}
use Rattle.campaign_core.proofs.campaign.submissions.is_another_group.Given as goal

abbrev pub invariant-loop-submission : goal.invariant-loop-submission
invariant-loop-submission l = any_at (is_submitted_by l.who.name l.name) l.history (drop l.submission-index (map entry_place l.submissions))
    ≡ any_at (is_submitted_by l.who.name l.name) l.history (map entry_place l.submissions)
