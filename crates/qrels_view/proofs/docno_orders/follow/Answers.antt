use Rattle.std.proofs.Common.{◌≡◌, ◌+◌, ◌∙◌, [], ◌∷◌, ◌++◌, length, ap, sym, subst, rules}
use Rattle.std.proofs.lemmas.List.{length-append}
use Rattle.qrels_view.specs.Places.{HasFirstPlaces}
use Rattle.qrels_view.proofs.Places.{one_more_place}
use Rattle.qrels_view.proofs.docno_orders.follow.Goals as goal

pub loop-place-preserved : goal.loop-place-preserved
loop-place-preserved c =
    let before = c.loop-place.places.items in
    let place = c.loop-place.place in
    let pushed : c.push.new.self.items ≡ before ++ place ∷ [] = search rules in
    let many : length c.push.new.self.items ≡ place + 1 = ap length pushed ∙ length-append before (place ∷ []) ∙ ap (λ n. n + 1) c.loop-place.invariant.many in
    record {
      each_once = subst HasFirstPlaces (sym pushed) (one_more_place before place (sym c.loop-place.invariant.many) c.loop-place.invariant.each_once);
      many = many;
    }
