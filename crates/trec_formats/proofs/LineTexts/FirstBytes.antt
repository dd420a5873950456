-- The first place of a byte, as a search for it tells it.
use Rattle.std.proofs.Common.{◌≡◌, ◌<◌, ℕ, Bool, false, cond, ltb, List, length, Option, Some, None, sym, ◌∙◌, ap, arith}
use borrow.Author.Tests.{lt-ltb}
use Rattle.std.specs.List.{position, position_or_len}
use Rattle.std.proofs.lemmas.Bool.{false_from_ne_true}
use Rattle.std.proofs.lemmas.Bool.Decides.{nat_tests}
use Rattle.std.proofs.lemmas.List.Sums.{position_or_len_is}
use Rattle.memchr.specs.Find.{IsFirstByte}

pub first_is_position : (test : ℕ → Bool) (text : List ℕ) (found : Option ℕ) → IsFirstByte test text found → found ≡ position test text
first_is_position test text None nowhere =
    let first : position_or_len test text ≡ length text =
    position_or_len_is test text (length text) 0 (omega arith) (λ k below. false_from_ne_true _ (nowhere k (omega arith) below))
    (λ within. absurd (omega (arith, within))) in
    let past : ltb (length text) (length text) ≡ false = grind (arith, nat_tests) in
    sym (ap (λ k. cond (ltb k (length text)) (Some k) None) first ∙ ap (λ t. cond t (Some (length text)) None) past)
first_is_position test text (Some place) at =
    let within : place < length text = at.0.high in
    let first : position_or_len test text ≡ place =
    position_or_len_is test text place 0 (omega (arith, within)) (λ k below. false_from_ne_true _ (at.0.before k (omega arith) below)) (λ _. at.1) in
    sym (ap (λ k. cond (ltb k (length text)) (Some k) None) first ∙ ap (λ t. cond t (Some place) None) (lt-ltb place (length text) within))
