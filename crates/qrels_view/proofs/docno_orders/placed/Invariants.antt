-- The documents so far are those at the first of the places.
use Rattle.std.proofs.Common.{◌≡◌, map, take}
use Rattle.qrels_view.specs.Grades.{graded_of}
use Rattle.qrels_view.specs.Places.{placed_at}
use Rattle.qrels_view.proofs.docno_orders.placed.Given as goal

abbrev pub invariant-loop-place : goal.invariant-loop-place
invariant-loop-place l = l.placed.items ≡ map (placed_at (graded_of l.grades.entries)) (take l.place-index l.places)
