-- A caller that is found has a name, and callers have different texts where the first has another than the rest, and the rest differ.
use Rattle.std.proofs.Common.{◌≡◌, ℕ, ◌-◌, ◌&&◌, List, [], ◌∷◌, Some, Bool, true, false, length, map, take, drop, subst, refl, sym, ap, ◌∙◌, arith}
use Rattle.std.specs.Prelude.{IsTrue, find, bytes_eq, not, ◌||◌, slice_get}
use Rattle.std.specs.List.{list_all, list_any}
use Rattle.std.proofs.lemmas.List.{take_all}
use Rattle.std.proofs.lemmas.Bool.{and_parts, cond_both}
use Rattle.trec_formats.specs.Names.{is_name}
use Rattle.rulebook.specs.Spelling.{differ}
use Rattle.routes.specs.declared.keys.KeyRow.{KeyRow}
use Rattle.routes.specs.Keys.{are_rows, caller_with}

found_passes : (p q : KeyRow → Bool) (callers : List KeyRow) (caller : KeyRow) → list_all q callers ≡ true → find p callers ≡ Some caller → q caller ≡ true
found_passes p q [] caller all is = cc
found_passes p q (first ∷ callers) caller all is =
    let parts = and_parts (q first) (list_all q callers) all in
    cond_both (p first) (Some first) (find p callers) (λ found. found ≡ Some caller → q caller ≡ true)
    (λ here same. let equal : first ≡ caller = cc in subst (λ r. q r ≡ true) equal parts.0)
    (λ other later. found_passes p q callers caller parts.1 later) is

-- a caller that is found has a name
pub found_named : (keys : List KeyRow) (key : List ℕ) (caller : KeyRow) → IsTrue (are_rows keys) → caller_with keys key ≡ Some caller
    → IsTrue (is_name caller.name)
found_named keys key caller sound found =
    let names = list_all (λ caller. is_name caller.name) keys in
    let apart = differ (map (λ caller. caller.name) keys) in
    let named = and_parts names apart (and_parts (names && apart) (differ (map (λ caller. caller.key) keys)) sound).0 in
    found_passes (λ caller. bytes_eq caller.key key) (λ caller. is_name caller.name) keys caller named.0 found

-- Texts that differ

among : (f : KeyRow → List ℕ) (callers : List KeyRow) (text : List ℕ)
    → list_any (bytes_eq text) (map f callers) ≡ list_any (λ caller. bytes_eq text (f caller)) callers
among f [] text = refl
among f (caller ∷ callers) text = ap (λ t. bytes_eq text (f caller) || t) (among f callers text)

split_first : (f : KeyRow → List ℕ) (left : List KeyRow) (first : KeyRow) (text : List ℕ) (found : Bool)
    → slice_get left 0 ≡ Some first → text ≡ f first
    → found ≡ list_any (λ caller. bytes_eq text (f caller)) (take (length left - 1) (drop 1 left))
    → differ (map f left) ≡ (not found && differ (map f (take (length left - 1) (drop 1 left))))
split_first f [] first text found here is any = cc
split_first f (caller ∷ callers) first text found here is any =
    let whole : take (length (caller ∷ callers) - 1) callers ≡ callers = take_all (length (caller ∷ callers) - 1) callers (omega arith) in
    let same : caller ≡ first = cc in
    let own : text ≡ f caller = is ∙ ap f (sym same) in
    let test : list_any (bytes_eq (f caller)) (map f callers) ≡ found =
    ap (λ t. list_any (bytes_eq t) (map f callers)) (sym own) ∙ among f callers text
    ∙ ap (list_any (λ caller. bytes_eq text (f caller))) (sym whole) ∙ sym any in
    ap (λ t. not t && differ (map f callers)) test ∙ ap (λ rest. not found && differ (map f rest)) (sym whole)

pub repeats_first : (f : KeyRow → List ℕ) (left : List KeyRow) (first : KeyRow) (text : List ℕ) (found : Bool)
    → slice_get left 0 ≡ Some first → text ≡ f first
    → found ≡ list_any (λ caller. bytes_eq text (f caller)) (take (length left - 1) (drop 1 left)) → found ≡ true → false ≡ differ (map f left)
repeats_first f left first text found here is any there =
    sym (split_first f left first text found here is any ∙ ap (λ t. not t && differ (map f (take (length left - 1) (drop 1 left)))) there)

pub differs_first : (f : KeyRow → List ℕ) (left : List KeyRow) (first : KeyRow) (text : List ℕ) (found : Bool)
    → slice_get left 0 ≡ Some first → text ≡ f first
    → found ≡ list_any (λ caller. bytes_eq text (f caller)) (take (length left - 1) (drop 1 left)) → found ≡ false
    → differ (map f left) ≡ differ (map f (take (length left - 1) (drop 1 left)))
differs_first f left first text found here is any absent =
    split_first f left first text found here is any ∙ ap (λ t. not t && differ (map f (take (length left - 1) (drop 1 left)))) absent
