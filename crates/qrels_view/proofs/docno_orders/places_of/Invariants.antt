-- The places so far are those of the first documents.
use Rattle.std.proofs.Common.{◌≡◌, map, take}
use Rattle.qrels_view.specs.declared.grades.Placed.{Placed}
use Rattle.qrels_view.proofs.docno_orders.places_of.Given as goal

abbrev pub invariant-loop-one : goal.invariant-loop-one
invariant-loop-one l = l.places.items ≡ map (λ (one : Placed). one.place) (take l.one-index l.placed)
