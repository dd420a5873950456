-- The rows are those of the topics so far.
use Rattle.std.proofs.Common.{◌≡◌, take}
use Rattle.std.specs.List.{filter_map}
use Rattle.rulebook.specs.Reports.Pages.{topics_in_order}
use Rattle.leave_out.specs.Agreement.{agreed_on}
use Rattle.leave_out.proofs.assessors.agreement.Given as goal

abbrev pub invariant-loop-topic : goal.invariant-loop-topic
invariant-loop-topic l = l.rows.items ≡ filter_map (agreed_on l.state.history) (take l.topic-index (topics_in_order l.state.history))
