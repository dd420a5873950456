-- The number of a name is the place where it stands.
use Rattle.std.proofs.Common.{◌≡◌, ◌<◌, ℕ, List, [], length, get_or, cond, ltb, sym, ◌∙◌, ap, arith, Some, None, bytes_eq}
use borrow.Author.Tests.{lt-ltb}
use Rattle.std.specs.List.{IsDistinct, position_or_len, slice_get}
use Rattle.std.proofs.lemmas.Bool.{false_from_ne_true}
use Rattle.std.proofs.lemmas.List.Sums.{position_or_len_is}
use Rattle.std.proofs.lemmas.Map.Made.{AllPairs-from_IsDistinct}
use Rattle.std.proofs.lemmas.Option.{get_or_from_slice_get, slice_get_within}
use Rattle.std.proofs.lemmas.Slice.Eq.{bytes_eq-Decides}
use Rattle.decimal_rank.specs.Names.{number_of}

pub number_at : (names : List (List ℕ)) (name topic : List ℕ) (place : ℕ) → IsDistinct bytes_eq names
    → slice_get names place ≡ Some name → name ≡ topic → number_of names topic ≡ Some place
number_at names name topic place distinct at same =
    let within : place < length names = slice_get_within names place name at in
    let here : get_or names place [] ≡ topic = get_or_from_slice_get names place name [] at ∙ same in
    let first : position_or_len (bytes_eq topic) names ≡ place =
    position_or_len_is (bytes_eq topic) names place [] (omega (arith, within))
    (λ k below. false_from_ne_true _
    (λ yes. AllPairs-from_IsDistinct bytes_eq-Decides names distinct k place [] below within (sym ((bytes_eq-Decides _ _).0 yes) ∙ sym here)))
    (λ _. (bytes_eq-Decides _ _).1 (sym here)) in
    ap (λ k. cond (ltb k (length names)) (Some k) None) first ∙ ap (λ t. cond t (Some place) None) (lt-ltb place (length names) within)
