-- The places so far are the first ones, each once.
use Rattle.std.proofs.Common.{◌≡◌, length}
use Rattle.qrels_view.specs.Places.{HasFirstPlaces}
use Rattle.qrels_view.proofs.docno_orders.follow.Given as goal

abbrev pub invariant-loop-place : goal.invariant-loop-place
invariant-loop-place l = record {
  each_once : HasFirstPlaces l.places.items;
  many : length l.places.items ≡ l.place;
}
