-- The runs so far are of the group: whether those to come are is whether all are.
use Rattle.std.proofs.Common.{◌≡◌, drop}
use Rattle.std.specs.List.{list_all}
use Rattle.std.specs.Str.{bytes_eq}
use Rattle.campaign_core.specs.Views.Groups.{group_of}
use Rattle.leave_out.proofs.own_docs.are_of.Given as goal

abbrev pub invariant-loop-run : goal.invariant-loop-run
invariant-loop-run l =
    list_all (λ run. bytes_eq (group_of l.state.history run.0) l.group) (drop l.run-index l.runs)
    ≡ list_all (λ run. bytes_eq (group_of l.state.history run.0) l.group) l.runs
