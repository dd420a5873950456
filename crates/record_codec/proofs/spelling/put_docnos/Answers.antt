use Rattle.std.proofs.Common.{◌<◌, ◌∙◌, ◌∷◌, ◌++◌, [], ap, append_assoc, arith, length, subst, sym, take}
use Rattle.std.specs.Int.{w32, to_le_bytes}
use Rattle.std.specs.List.{flat_map}
use Rattle.std.proofs.lemmas.List.{flat_map_more, take_more}
use Rattle.std.proofs.lemmas.Option.{get_or_from_slice_get}
use Rattle.rulebook.specs.Spelling.{short}
use Rattle.rulebook.specs.Words.{Text}
use Rattle.record_codec.proofs.EntryParts.{short_at}
use Rattle.record_codec.proofs.spelling.put_docnos.Goals as goal

pub put_text-requires : goal.put_text-requires
put_text-requires c =
    let docs = c.args.docs.now in
    let place = c.loop-place.place in
    let text = c.at.result.now in
    let within : place < length docs = omega (arith, c.loop-place-test.true, c.len-count.ensures) in
    subst (λ (t : Text). length t < 256) (get_or_from_slice_get docs place text text c.at.ensures) (short_at docs place text c.requires.plain within)

pub loop-place-preserved : goal.loop-place-preserved
loop-place-preserved c =
    let docs = c.args.docs.now in
    let place = c.loop-place.place in
    let text = c.at.result.now in
    let within : place < length docs = omega (arith, c.loop-place-test.true, c.len-count.ensures) in
    let before = c.args.out.now.items in
    let count = to_le_bytes w32 (length docs) in
    c.in_ok-put_text.ensures
    ∙ ap (λ (out : Text). out ++ short text) c.loop-place.invariant
    ∙ append_assoc before (count ++ flat_map short (take place docs)) (short text)
    ∙ ap (λ (behind : Text). before ++ behind) (flat_map_more short count (take place docs) text
    ∙ ap (λ ds. count ++ flat_map short ds)
    (sym (take_more docs place text within ∙ ap (λ (d : Text). take place docs ++ d ∷ []) (get_or_from_slice_get docs place text text c.at.ensures))))
