-- The lines of the names so far are appended.
use Rattle.std.proofs.Common.{◌≡◌, ◌++◌, map}
use Rattle.measures.proofs.ValueLines.{lines_to}
use Rattle.measures.proofs.score_lines.write_values.Given as goal

abbrev pub invariant-loop-place : goal.invariant-loop-place
invariant-loop-place l = l.page.items ≡ l.fn.page.items ++ lines_to l.run l.topic (map (λ name. name.now) l.names) l.values l.place
