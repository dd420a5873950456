-- The lines of the documents so far are appended behind what stood before.
use Rattle.std.proofs.Common.{◌≡◌, ◌++◌, length, take}
use Rattle.std.specs.List.{flat_map}
use Rattle.qrels_view.specs.declared.grades.Placed.{Placed}
use Rattle.qrels_view.specs.Lines.{qrels_line}
use Rattle.qrels_view.proofs.text.write_lines.Given as goal

abbrev pub invariant-loop-one : goal.invariant-loop-one
invariant-loop-one l = record {
  lines : l.out.items ≡ l.initial.out.items ++ flat_map (λ (one : Placed). qrels_line l.topic l.names one.graded) (take l.one-index l.placed);
  before : l.before ≡ length l.initial.out.items;
}
