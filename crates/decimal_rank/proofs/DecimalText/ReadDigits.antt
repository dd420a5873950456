-- The digits of a first part, as they are read.
use Rattle.std.proofs.Common.{◌≡◌, ◌≢◌, ℕ, zero, suc, ◌+◌, ◌-◌, ◌*◌, ◌%◌, ◌^◌, ◌<◌, ◌≤◌, Bool, true, false, cond, eqb, ltb, leb, List, [], ◌∷◌, ◌++◌, length, take, drop, reverse, refl, arith, ap, sym, ◌∙◌, subst, pow-add, length-append, length-drop, length-take-le, pos_of_ne-zero}
use Rattle.std.proofs.Math.Nat.{pow-le-pow_right}
use Rattle.std.specs.Prelude.{min}
use Rattle.std.specs.List.{list_all, prefix_len}
use Rattle.std.specs.Int.{IsInRange}
use Rattle.std.specs.Str.Parse.{digits_value}
use Rattle.std.proofs.lemmas.Bool.Decides.{nat_tests}
use Rattle.std.proofs.lemmas.Int.Digits.{digits_value_push}
use Rattle.std.proofs.lemmas.List.{take_all, reverse-append, take-append-le, take-append-drop, length-reverse, nil_from_length}
use Rattle.std.proofs.lemmas.List.Sums.{suffix_len-le-length, AllPass-from_list_all, list_all-from_AllPass}
use Rattle.std.proofs.lemmas.List.Elements.{All-drop}
use Rattle.std.proofs.lemmas.List.Folds.{prefix_len-append}
use Rattle.std.proofs.lemmas.Str.{digit_value_digit}
use Rattle.decimal_rank.specs.Decimals.DecimalText.{is_digit, is_zero, zeros_after, without_leading_zeros, significant}
use Rattle.decimal_rank.specs.Decimals.Significands.{IsSignificand}
use Rattle.decimal_rank.specs.declared.decimals.significands.Significand.{Significand}
use Rattle.decimal_rank.proofs.DecimalText.Digits.{digit_range, value-kept, trimmed}

-- ---- one more digit

leading-zero : (x : ℕ) (xs : List ℕ) → is_zero x ≡ true → without_leading_zeros (x ∷ xs) ≡ without_leading_zeros xs
leading-zero x xs e =
    let one : 1 + prefix_len is_zero xs ≡ suc (prefix_len is_zero xs) = omega arith in
    ap (λ t. drop (cond t (1 + prefix_len is_zero xs) 0) (x ∷ xs)) e ∙ ap (λ n. drop n (x ∷ xs)) one

pub leading-other : (x : ℕ) (xs : List ℕ) → is_zero x ≡ false → without_leading_zeros (x ∷ xs) ≡ x ∷ xs
leading-other x xs e = ap (λ t. drop (cond t (1 + prefix_len is_zero xs) 0) (x ∷ xs)) e

pub started : (digits : List ℕ) (b : ℕ) → (length (without_leading_zeros digits) ≡ 0 → is_zero b ≡ false)
    → without_leading_zeros (digits ++ b ∷ []) ≡ without_leading_zeros digits ++ b ∷ []
started [] b other = leading-other b [] (other refl)
started (x ∷ xs) b other = by (is_zero x) refl (started xs b)
  where
    by : (t : Bool) → is_zero x ≡ t
        → ((length (without_leading_zeros xs) ≡ 0 → is_zero b ≡ false) → without_leading_zeros (xs ++ b ∷ []) ≡ without_leading_zeros xs ++ b ∷ [])
        → without_leading_zeros (x ∷ xs ++ b ∷ []) ≡ without_leading_zeros (x ∷ xs) ++ b ∷ []
    by true e more =
        leading-zero x (xs ++ b ∷ []) e ∙ more (λ none. other (ap length (leading-zero x xs e) ∙ none)) ∙ ap (λ l. l ++ b ∷ []) (sym (leading-zero x xs e))
    by false e more = leading-other x (xs ++ b ∷ []) e ∙ ap (λ l. l ++ b ∷ []) (sym (leading-other x xs e))

pub unstarted : (digits : List ℕ) (b : ℕ) → length (without_leading_zeros digits) ≡ 0 → is_zero b ≡ true
    → without_leading_zeros (digits ++ b ∷ []) ≡ without_leading_zeros digits
unstarted [] b none e = leading-zero b [] e
unstarted (x ∷ xs) b none e = by (is_zero x) refl (unstarted xs b)
  where
    by : (t : Bool) → is_zero x ≡ t
        → (length (without_leading_zeros xs) ≡ 0 → is_zero b ≡ true → without_leading_zeros (xs ++ b ∷ []) ≡ without_leading_zeros xs)
        → without_leading_zeros (x ∷ xs ++ b ∷ []) ≡ without_leading_zeros (x ∷ xs)
    by true z more = leading-zero x (xs ++ b ∷ []) z ∙ more (sym (ap length (leading-zero x xs z)) ∙ none) e ∙ sym (leading-zero x xs z)
    by false z more = absurd (let some = ap length (leading-other x xs z) in omega (arith, some, none))

pub zeros_push : (digits : List ℕ) (b : ℕ) → zeros_after (digits ++ b ∷ []) ≡ cond (is_zero b) (1 + zeros_after digits) 0
zeros_push digits b = ap (prefix_len is_zero) (reverse-append digits (b ∷ []))

-- a number of fewer than 38 digits has room for one more
pub room : (number count : ℕ) → number < 10 ^ min count 38 → count < 38 → number < 10 ^ 37
room number count below few =
    let le : min count 38 ≤ 37 = omega arith in
    let up : 10 ^ min count 38 ≤ 10 ^ 37 = pow-le-pow_right (omega arith) le in
    omega arith

below_more : (number next count digit : ℕ) → number < 10 ^ min count 38 → count < 38 → digit < 10 → next ≡ number * 10 + digit → next < 10 ^ min (count + 1) 38
below_more number next count digit below few small is =
    let now : min count 38 ≡ count = omega arith in
    let more : min (count + 1) 38 ≡ count + 1 = omega arith in
    let up : 10 ^ (count + 1) ≡ 10 ^ count * 10 = pow-add 10 count 1 in
    let was : number < 10 ^ count = subst (λ m. number < 10 ^ m) now below in
    subst (λ m. next < 10 ^ m) (sym more) (omega (arith, was, up, is))

full_more : (number next count digit : ℕ) → number < 10 ^ min count 38 → (0 < count → 10 ^ (min count 38 - 1) ≤ number)
    → count < 38 → (count ≡ 0 → 0 < digit) → next ≡ number * 10 + digit
    → 10 ^ (min (count + 1) 38 - 1) ≤ next
full_more number next zero digit below full few first is =
    omega (arith, is, first refl)
full_more number next (suc k) digit below full few first is =
    let now : min (suc k) 38 - 1 ≡ k = omega arith in
    let more : min (suc k + 1) 38 - 1 ≡ k + 1 = omega arith in
    let up : 10 ^ (k + 1) ≡ 10 ^ k * 10 = pow-add 10 k 1 in
    let was : 10 ^ k ≤ number = subst (λ m. 10 ^ m ≤ number) now (full (omega arith)) in
    subst (λ m. 10 ^ m ≤ next) (sym more) (omega (arith, was, up, is))

-- the number of the first 38, with one more behind
number_more : (some : List ℕ) (b number next : ℕ) → is_digit b ≡ true → number ≡ digits_value 10 (take 38 some)
    → (length some < 38 → next ≡ number * 10 + (b - 48)) → (38 ≤ length some → next ≡ number) → next ≡ digits_value 10 (take 38 (some ++ b ∷ []))
number_more some b number next digit was kept full = by (ltb (length some) 38) refl
  where
    range : IsInRange 48 57 b
    range = digit_range b digit

    by : (t : Bool) → ltb (length some) 38 ≡ t → next ≡ digits_value 10 (take 38 (some ++ b ∷ []))
    by true e =
        let few : length some < 38 = grind (arith, nat_tests) in
        let all : take 38 some ≡ some = take_all 38 some (omega arith) in
        let long : length (some ++ b ∷ []) ≡ length some + 1 = length-append some (b ∷ []) in
        let more : take 38 (some ++ b ∷ []) ≡ some ++ b ∷ [] = take_all 38 (some ++ b ∷ []) (omega arith) in
        let push = digits_value_push 10 some b in
        let is : number ≡ digits_value 10 some = was ∙ ap (digits_value 10) all in
        let next_is = kept few in
        let value = digit_value_digit b range in
        let sum : next ≡ digits_value 10 (some ++ b ∷ []) = omega (arith, is, push, next_is, value, range.0) in
        sum ∙ ap (digits_value 10) (sym more)
    by false e =
        let many : 38 ≤ length some = grind (arith, nat_tests) in
        full many ∙ was ∙ ap (digits_value 10) (sym (take-append-le 38 some (b ∷ []) many))

-- a digit that isn't a zero in front
pub read_more : (digits : List ℕ) (b : ℕ) (s t : Significand) → IsSignificand digits s → is_digit b ≡ true → (s.count ≡ 0 → is_zero b ≡ false)
    → t.count ≡ s.count + 1 → (s.count < 38 → t.number ≡ s.number * 10 + (b - 48)) → (38 ≤ s.count → t.number ≡ s.number)
    → t.zeros ≡ cond (is_zero b) (1 + s.zeros) 0 → t.zeros < t.count → IsSignificand (digits ++ b ∷ []) t
read_more digits b s t was digit other count kept full zeros few =
    let some = without_leading_zeros digits in
    let starts : without_leading_zeros (digits ++ b ∷ []) ≡ some ++ b ∷ [] = started digits b (λ none. other (was.count ∙ none)) in
    record {
      number = number_more some b s.number t.number digit was.number (λ l. kept (omega (arith, was.count))) (λ l. full (omega (arith, was.count)))
          ∙ ap (λ l. digits_value 10 (take 38 l)) (sym starts);
      count = omega (arith, count, was.count, length-append some (b ∷ [])) ∙ ap length (sym starts);
      zeros = zeros ∙ ap (λ z. cond (is_zero b) (1 + z) 0) was.zeros ∙ sym (zeros_push some b) ∙ ap zeros_after (sym starts);
      below = below_next (ltb s.count 38) refl;
      full = λ _. full_next (ltb s.count 38) refl;
      some = λ _. few;
    }
  where
    range : IsInRange 48 57 b
    range = digit_range b digit

    below_next : (v : Bool) → ltb s.count 38 ≡ v → t.number < 10 ^ min t.count 38
    below_next true e =
        let less : s.count < 38 = grind (arith, nat_tests) in
        subst (λ n. t.number < 10 ^ min n 38) (sym count) (below_more s.number t.number s.count (b - 48) was.below less (omega (arith, range.1)) (kept less))
    below_next false e =
        let many : 38 ≤ s.count = grind (arith, nat_tests) in
        let same : min s.count 38 ≡ min t.count 38 = omega (arith, count) in
        subst (λ n. n < 10 ^ min t.count 38) (sym (full many)) (subst (λ m. s.number < 10 ^ m) same was.below)

    positive : is_zero b ≡ false → 0 < b - 48
    positive e = let ne : b ≢ 48 = grind (arith, nat_tests) in let low : 48 ≤ b = range.0 in omega arith

    full_next : (v : Bool) → ltb s.count 38 ≡ v → 10 ^ (min t.count 38 - 1) ≤ t.number
    full_next true e =
        let less : s.count < 38 = grind (arith, nat_tests) in
        let first : s.count ≡ 0 → 0 < b - 48 = λ none. positive (other none) in
        subst (λ n. 10 ^ (min n 38 - 1) ≤ t.number) (sym count) (full_more s.number t.number s.count (b - 48) was.below was.full less first (kept less))
    full_next false e =
        let many : 38 ≤ s.count = grind (arith, nat_tests) in
        let same : min s.count 38 ≡ min t.count 38 = omega (arith, count) in
        subst (λ n. 10 ^ (min t.count 38 - 1) ≤ n) (sym (full many)) (subst (λ m. 10 ^ (m - 1) ≤ s.number) same (was.full (omega (arith, many))))

-- a zero in front
pub read_zero : (digits : List ℕ) (b : ℕ) (s : Significand) → IsSignificand digits s → s.count ≡ 0 → is_zero b ≡ true → IsSignificand (digits ++ b ∷ []) s
read_zero digits b s was none e =
    let same : without_leading_zeros (digits ++ b ∷ []) ≡ without_leading_zeros digits = unstarted digits b (sym was.count ∙ none) e in
    record {
      number = was.number ∙ ap (λ l. digits_value 10 (take 38 l)) (sym same);
      count = was.count ∙ ap length (sym same);
      zeros = was.zeros ∙ ap zeros_after (sym same);
      below = was.below;
      full = was.full;
      some = was.some;
    }

pub zeros_within : (digits : List ℕ) (s : Significand) → IsSignificand digits s → s.zeros ≤ s.count
zeros_within digits s was = omega (arith, was.count, was.zeros, suffix_len-le-length is_zero (without_leading_zeros digits))

pub count_within : (digits : List ℕ) (s : Significand) → IsSignificand digits s → s.count ≤ length digits
count_within digits s was = omega (arith, was.count, length-drop (prefix_len is_zero digits) digits)

-- ---- the number without the zeros at its end

pub sized : (digits : List ℕ) (s : Significand) → IsSignificand digits s → length (significant digits) ≡ s.count - s.zeros
sized digits s was =
    let some = without_leading_zeros digits in
    length-take-le (length some - zeros_after some) some (omega arith) ∙ omega (arith, was.count, was.zeros)

pub is_kept : (digits : List ℕ) (s : Significand) (kept : ℕ) → IsSignificand digits s → kept + (s.count - s.zeros) ≡ min s.count 38
    → s.number ≡ digits_value 10 (significant digits) * 10 ^ kept
is_kept digits s kept was is =
    let some = without_leading_zeros digits in
    let n = length some - zeros_after some in
    let sizes : n + kept ≡ min (length some) 38 = omega (arith, was.count, was.zeros, is) in
    was.number ∙ ap (digits_value 10) (first 38 (n + kept) some sizes) ∙ value-kept some kept (omega (arith, sizes))
  where
    first : (m n : ℕ) (xs : List ℕ) → n ≡ min (length xs) m → take m xs ≡ take n xs
    first m n xs e = by (leb (length xs) m) refl
      where
        by : (t : Bool) → leb (length xs) m ≡ t → take m xs ≡ take n xs
        by true h = let few : length xs ≤ m = grind (arith, nat_tests) in take_all m xs few ∙ sym (take_all n xs (omega (arith, e)))
        by false h = let many : m < length xs = grind (arith, nat_tests) in let same : m ≡ n = omega (arith, e) in ap (λ k. take k xs) same

list_all-drop : (p : ℕ → Bool) (xs : List ℕ) (n : ℕ) → list_all p xs ≡ true → list_all p (drop n xs) ≡ true
list_all-drop p xs n all = list_all-from_AllPass p (drop n xs) (All-drop (λ x. p x ≡ true) n xs (AllPass-from_list_all p xs all))

pub some_counted : (digits : List ℕ) (s : Significand) → IsSignificand digits s → s.number ≢ 0 → 0 < s.count
some_counted digits s was some = pos_of_ne-zero (λ none.
    let nil : without_leading_zeros digits ≡ [] = nil_from_length _ (sym was.count ∙ none) in
    some (was.number ∙ ap (λ l. digits_value 10 (take 38 l)) nil))

pub is_trimmed : (digits : List ℕ) (s : Significand) → IsSignificand digits s → list_all is_digit digits ≡ true
    → 0 < s.count → digits_value 10 (significant digits) % 10 ≢ 0
is_trimmed digits s was all some =
    let few = was.some some in
    trimmed (without_leading_zeros digits) (list_all-drop is_digit digits _ all) (omega (arith, was.count, was.zeros, few))

-- the zeros at the end are the same without those in front
pub same_zeros : (digits : List ℕ) (s : Significand) → IsSignificand digits s → 0 < s.count → s.zeros ≡ zeros_after digits
same_zeros digits s was counted =
    let n = prefix_len is_zero digits in
    let some = without_leading_zeros digits in
    let few : zeros_after some < length some = omega (arith, was.some counted, was.count, was.zeros) in
    let apart : eqb (prefix_len is_zero (reverse some)) (length (reverse some)) ≡ false = grind (arith, nat_tests, length-reverse) in
    was.zeros ∙ sym
    (ap zeros_after (sym (take-append-drop n digits)) ∙ ap (prefix_len is_zero) (reverse-append (take n digits) some)
    ∙ prefix_len-append is_zero (reverse some) (reverse (take n digits))
    ∙ ap (λ t. cond t (length (reverse some) + prefix_len is_zero (reverse (take n digits))) (prefix_len is_zero (reverse some))) apart)
