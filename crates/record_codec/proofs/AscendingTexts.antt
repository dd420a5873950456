-- Texts in ascending order, from a place on.
use Rattle.std.proofs.Common.{◌≡◌, ℕ, ◌+◌, ◌-◌, ◌<◌, ◌≤◌, ◌&&◌, true, List, [], ◌∷◌, length, drop, refl, ap, ◌∙◌, arith}
use Rattle.std.specs.Cmp.Lexicographic.{slice_cmp}
use Rattle.std.specs.Ordering.{is_lt, nat_cmp}
use Rattle.std.proofs.lemmas.List.{drop_more, length-drop, length-map}
use denote.Ref.{Bor}
use Rattle.rulebook.specs.Spelling.{is_ascending}
use Rattle.rulebook.specs.Words.{Text}
use Rattle.record_codec.proofs.DistinctTexts.{shown, text_at}

short_ascends : (texts : List Text) → length texts ≤ 1 → is_ascending texts ≡ true
short_ascends [] few = refl
short_ascends (a ∷ []) few = refl
short_ascends (a ∷ b ∷ rest) few = absurd (omega arith)

module _ (texts : List (Bor (List ℕ))) (i : ℕ) where
  pub ascending_at : 1 ≤ i → i < length texts
      → is_ascending (shown (drop (i - 1) texts)) ≡
      (is_lt (slice_cmp nat_cmp (text_at texts (i - 1)).now (text_at texts i).now)
      && is_ascending (shown (drop i texts)))
  ascending_at least within =
      let none : Bor (List ℕ) = record { ref_ptr = (0, 0); now = [] } in
      let before : i - 1 < length texts = omega arith in
      let next : (i - 1) + 1 ≡ i = omega arith in
      let here : drop i texts ≡ text_at texts i ∷ drop (i + 1) texts = drop_more texts i none within in
      let both : drop (i - 1) texts ≡ text_at texts (i - 1) ∷ text_at texts i ∷ drop (i + 1) texts =
      drop_more texts (i - 1) none before ∙ ap (λ (n : ℕ). text_at texts (i - 1) ∷ drop n texts) next
      ∙ ap (λ (rest : List (Bor (List ℕ))). text_at texts (i - 1) ∷ rest) here in
      rw (both, here) refl

  pub ascending_end : length texts ≤ i → is_ascending (shown (drop (i - 1) texts)) ≡ true
  ascending_end past = short_ascends (shown (drop (i - 1) texts))
      (omega (arith, length-map (drop (i - 1) texts) (λ (t : Bor (List ℕ)). t.now), length-drop (i - 1) texts))
