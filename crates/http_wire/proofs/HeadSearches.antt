-- A head that didn't end yet ends at no byte that was looked at, but for the last two.
use Rattle.std.proofs.Common.{◌≡◌, ℕ, ◌+◌, ◌-◌, ◌<◌, ◌≤◌, ◌&&◌, List, [], ◌∷◌, ◌++◌, Option, Some, None, Bool, true, false, length, take, drop, zero, suc, refl, sym, ap, ◌∙◌, arith, append_assoc, length-append, append-nil, subst, inl, inr, ◌⊎◌}
use Rattle.std.specs.Prelude.{nat_lt, ◌==◌, if◌then◌else◌}
use Rattle.std.specs.Option.{option_map}
use Rattle.std.proofs.lemmas.List.{length-take, take_all}
use Rattle.std.proofs.Math.Seq.{take-append-add}
use Rattle.std.proofs.lemmas.Bool.{cases_lt}
use Rattle.http_wire.specs.Heads.{behind_line_ends, line_end_length, head_length}
use Rattle.http_wire.specs.Fronts.{IsSearched}
use Rattle.http_wire.proofs.HeadLengths.{passed-append, passed_again}

moved_none : (found : Option ℕ) → found ≡ option_map (λ n. n + 0) found
moved_none None = refl
moved_none (Some n) = ap (λ (m : ℕ). Some m) (omega arith)

unended_step : (ends : Bool) (line k : ℕ) (found after rest : Option ℕ) → (if ends then Some (line + 1) else option_map (λ n. n + 1) found) ≡ None
    → (found ≡ None → after ≡ option_map (λ n. n + k) rest)
    → (if ends then Some (line + 1) else option_map (λ n. n + 1) after) ≡ option_map (λ n. n + suc k) rest
unended_step true line k found after rest is behind = cc
unended_step false line k (Some n) after rest is behind = cc
unended_step false line k None after None is behind = ap (option_map (λ n. n + 1)) (behind refl)
unended_step false line k None after (Some n) is behind = ap (option_map (λ n. n + 1)) (behind refl) ∙ ap (λ (m : ℕ). Some m) (omega arith)

-- no head that goes on ends at one of the first k bytes
unended : (text more : List ℕ) (k : ℕ) → head_length text ≡ None → k + 2 ≤ length text
    → head_length (text ++ more) ≡ option_map (λ n. n + k) (head_length (drop k (text ++ more)))
unended text more zero none inside = moved_none (head_length (text ++ more))
unended [] more (suc k) none inside = absurd (omega (arith, inside))
unended (b ∷ []) more (suc k) none inside = absurd (omega (arith, inside))
unended (b ∷ c ∷ []) more (suc k) none inside = absurd (omega (arith, inside))
unended (b ∷ c ∷ d ∷ text) more (suc k) none inside =
    unended_step (b == 10 && nat_lt 0 (line_end_length (c ∷ d ∷ text))) (line_end_length (c ∷ d ∷ text)) k
    (head_length (c ∷ d ∷ text)) (head_length ((c ∷ d ∷ text) ++ more)) (head_length (drop k ((c ∷ d ∷ text) ++ more)))
    none (λ behind. unended (c ∷ d ∷ text) more k behind (omega (arith, inside)))

pub searched_none : (message : List ℕ) → IsSearched message 0
searched_none message = record { inside = omega arith; ends = λ more. moved_none (head_length (take 8192 (message ++ more))) }

-- the search of a message goes on from its place
pub ends_now : (message : List ℕ) (place : ℕ) → IsSearched message place
    → head_length (take 8192 message) ≡ option_map (λ n. n + place) (head_length (drop place (take 8192 message)))
ends_now message place is =
    subst (λ text. head_length (take 8192 text) ≡ option_map (λ n. n + place) (head_length (drop place (take 8192 text)))) (append-nil message) (is.ends [])

-- a message of at most so many bytes, and what follows up to so many
take_more : (k : ℕ) (message more : List ℕ) → length message ≤ k → take k (message ++ more) ≡ message ++ take (k - length message) more
take_more k message more few =
    let count : length message + (k - length message) ≡ k = omega arith in
    ap (λ j. take j (message ++ more)) (sym count) ∙ take-append-add message more (k - length message)

short_message : (message : List ℕ) → length message < 8192 → head_length (take 8192 message) ≡ None → head_length message ≡ None
short_message message few none = ap head_length (sym (take_all 8192 message (omega (arith, few)))) ∙ none

pub searched_short : (message : List ℕ) → length message < 8192 → head_length (take 8192 message) ≡ None → IsSearched message (length message - 2)
searched_short message few none =
    by_length (cases_lt 1 (length message))
  where
    by_length : (1 < length message) ⊎ (length message ≤ 1) → IsSearched message (length message - 2)
    by_length (inl two) = record {
      inside = omega (arith, length-take 8192 message, few);
      ends = λ more.
          let whole = take_more 8192 message more (omega (arith, few)) in
          subst (λ text. head_length text ≡ option_map (λ n. n + (length message - 2)) (head_length (drop (length message - 2) text))) (sym whole)
          (unended message (take (8192 - length message) more) (length message - 2) (short_message message few none) (omega (arith, two)));
    }
    by_length (inr one) = subst (λ k. IsSearched message k) (let e : 0 ≡ length message - 2 = omega (arith, one) in e) (searched_none message)

filled_or_none : (bytes more : List ℕ) (place : ℕ) → IsSearched (behind_line_ends bytes) place
    → (length (behind_line_ends bytes) ≤ 0) ⊎ (0 < length (behind_line_ends bytes)) → IsSearched (behind_line_ends (bytes ++ more)) place
filled_or_none bytes more place is (inl none) =
    subst (λ k. IsSearched (behind_line_ends (bytes ++ more)) k)
    (let e : 0 ≡ place = omega (arith, is.inside, none, length-take 8192 (behind_line_ends bytes)) in e) (searched_none (behind_line_ends (bytes ++ more)))
filled_or_none bytes more place is (inr some) =
    subst (λ message. IsSearched message place) (sym (passed-append bytes more some)) (record {
      inside = omega (
        arith,
        is.inside,
        length-take 8192 (behind_line_ends bytes),
        length-take 8192 (behind_line_ends bytes ++ more),
        length-append (behind_line_ends bytes) more,
      );
      ends = λ later. subst (λ text. head_length (take 8192 text) ≡ option_map (λ n. n + place) (head_length (drop place (take 8192 text))))
          (sym (append_assoc (behind_line_ends bytes) more later)) (is.ends (more ++ later));
    })

-- where more bytes come, the search goes on at its place
pub searched-append : (bytes more : List ℕ) (place : ℕ) → IsSearched (behind_line_ends bytes) place → IsSearched (behind_line_ends (bytes ++ more)) place
searched-append bytes more place is = filled_or_none bytes more place is (by_size (cases_lt 0 (length (behind_line_ends bytes))))
  where
    by_size : (0 < length (behind_line_ends bytes)) ⊎ (length (behind_line_ends bytes) ≤ 0)
        → (length (behind_line_ends bytes) ≤ 0) ⊎ (0 < length (behind_line_ends bytes))
    by_size (inl some) = inr some
    by_size (inr none) = inl none

-- the place in a message is that in the bytes from its front on
pub searched_behind : (bytes message : List ℕ) (place : ℕ) → message ≡ behind_line_ends bytes
    → IsSearched message place → IsSearched (behind_line_ends message) place
searched_behind bytes message place is searched = subst (λ m. IsSearched m place) (sym (ap behind_line_ends is ∙ passed_again bytes ∙ sym is)) searched
