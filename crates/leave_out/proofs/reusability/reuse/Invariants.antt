-- The rows are those of the runs so far, and their means are at most 1; the reduced judgements are those of their groups.
use Rattle.std.proofs.Common.{◌≡◌, map, take}
use Rattle.std.specs.Prelude.{All, IsTrue}
use Rattle.std.specs.List.{list_all}
use Rattle.rulebook.specs.Campaign.{numbered_runs}
use Rattle.leave_out.specs.ReducedJudgements.{AreOfGroup}
use Rattle.leave_out.specs.Reuse.{are_reused_means, reuse_of}
use Rattle.leave_out.proofs.reusability.reuse.Given as goal

abbrev pub invariant-loop-place : goal.invariant-loop-place
invariant-loop-place l = record {
  rows : l.rows.items ≡ map (reuse_of l.state.history) (take l.place (numbered_runs l.state.history));
  means : IsTrue (list_all are_reused_means l.rows.items);
  reduced : All (AreOfGroup l.state.history) l.groups.items;
}
