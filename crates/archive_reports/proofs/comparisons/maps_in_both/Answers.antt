use Rattle.std.proofs.Common.{◌≡◌, ◌<◌, ◌++◌, ◌∷◌, [], length, map, take, get_or, sym, ap, ◌∙◌, arith}
use Rattle.std.proofs.lemmas.List.{length-set, map-append, take_more, take_more_set}
use Rattle.archive_reports.specs.Comparisons.{maps_of}
use Rattle.archive_reports.proofs.comparisons.maps_in_both.Goals as goal

pub loop-place-preserved : goal.loop-place-preserved
loop-place-preserved c =
    let i = c.loop-place.place in
    let systems = c.args.systems.now in
    let others = c.args.others.now in
    let item = c.index-systems-place.result in
    let long = c.loop-place.invariant.1 in
    let few = c.requires in
    let left : i < length systems = c.loop-place-test.true in
    let within : i < length c.loop-place.found = omega (arith, left, few, long) in
    let own : c.maps_of.result ≡ maps_of others (get_or systems i item) = c.maps_of.ensures ∙ ap (maps_of others) c.index-systems-place.is in (
      take_more_set c.loop-place.found i c.maps_of.result within
          ∙ ap (λ maps. maps ++ c.maps_of.result ∷ []) c.loop-place.invariant.0
          ∙ ap (λ one. map (maps_of others) (take i systems) ++ one ∷ []) own
          ∙ sym (map-append (maps_of others) (take i systems) (get_or systems i item ∷ []))
          ∙ ap (map (maps_of others)) (sym (take_more systems i item left)),
      length-set c.loop-place.found i c.maps_of.result ∙ long,
    )
