use Rattle.std.proofs.Common.{◌≡◌, ◌∙◌, ◌++◌, ◌∷◌, ◌<◌, [], false, List, ap, arith, length, sym}
use Rattle.std.specs.Prelude.{◌==◌}
use Rattle.std.proofs.lemmas.Result.{on_ok_weaker}
use Rattle.rulebook.specs.declared.rules.TopicLevel.{TopicLevel}
use Rattle.rulebook.specs.Spelling.{level_bytes, rules_bytes, spelled_list}
use Rattle.rulebook.specs.Words.{Text}
use Rattle.record_codec.proofs.EntryParts.{found_joined, levels_short}
use Rattle.record_codec.proofs.spelling.put_found.Goals as goal

filled : (levels : List TopicLevel) → (length levels == 0) ≡ false → 0 < length levels
filled [] none = cc none
filled (own ∷ levels) some = omega arith

pub put_items-requires-clause-plain : goal.put_items-requires-clause-plain
put_items-requires-clause-plain c = levels_short c.args.rules.now c.requires

pub returns : goal.returns
returns c =
    let r = c.args.rules.now in
    let text = c.args.out.now.items in
    let lengths : (length r.levels == 0) ≡ false =
    ap (λ (levels : List TopicLevel). length levels == 0) (sym c.items.ensures) ∙ sym c.is_empty.ensures ∙ c.if-is_empty.false in
    let before : c.put_rules-2.new.out.items ≡ (text ++ 12 ∷ []) ++ rules_bytes r =
    c.in_ok-put_rules.ensures ∙ ap (λ (front : Text). front ++ rules_bytes r) c.in_ok-push-2.ensures.items in
    let joined = found_joined text r r.levels (filled r.levels lengths) in
    on_ok_weaker c.put_items.result
    (λ put. put ∙ ap (λ (front : Text). front ++ spelled_list level_bytes r.levels) before ∙ joined) c.put_items.ensures
