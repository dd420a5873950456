-- The cell of a list hangs on two facts of each place alone.
use Rattle.std.proofs.Common.{◌≡◌, ℕ, suc, ◌+◌, ◌-◌, ◌*◌, ◌==◌, Bool, true, false, cond, not, nat_lt, min, List, [], ◌∷◌, ◌++◌, Option, Some, None, length, map, take, refl, sym, ap, ◌∙◌, arith, append_assoc, zero-add}
use Rattle.std.specs.Prelude.{count_by, position, sum_by, if◌then◌else◌}
use Rattle.std.specs.List.{enumerate_from, position_or_len}
use Rattle.std.specs.Option.{option_map_or}
use Rattle.std.proofs.Math.Seq.{take-append_seam}
use Rattle.std.proofs.lemmas.Bool.Decides.{nat_tests}
use Rattle.std.proofs.lemmas.List.{length-append, length-map, take-map}
use Rattle.std.proofs.lemmas.List.Sums.{sum_by-cons, sum_by_push}
use Rattle.measures.specs.Cells.{bpref_den, bpref_num, cell_of, cutoffs, left_of_cap, weight}
use Rattle.measures.specs.Grades.{is_non_relevant, is_relevant, non_relevant_to, relevant_to}
use Rattle.qrels_view.specs.Grades.{as_number}
use Rattle.rank_trees.specs.PlacesOn.{count_on}
use Rattle.score_index.specs.Places.{bpref_from, cell_by, first_from, precisions, preferences}

pub count-on : (b : Bool) (on : List Bool) → count_on (b ∷ on) ≡ as_number b + count_on on
count-on true on = sum_by-cons (λ b. cond b 1 0) true on
count-on false on = sum_by-cons (λ b. cond b 1 0) false on

module _ {X : Type 0} (p : X → Bool) where
  pub count-map : (xs : List X) → count_by p xs ≡ count_on (map p xs)
  count-map [] = refl
  count-map (x ∷ xs) =
      sum_by-cons (λ y. cond (p y) 1 0) x xs ∙ ap (λ n. cond (p x) 1 0 + n) (count-map xs) ∙ sym (sum_by-cons (λ b. cond b 1 0) (p x) (map p xs))

  count-take : (k : ℕ) (xs : List X) → count_by p (take k xs) ≡ count_on (take k (map p xs))
  count-take k xs = count-map (take k xs) ∙ ap count_on (sym (take-map p k xs))

  count-push : (xs : List X) (x : X) → count_by p (xs ++ x ∷ []) ≡ count_by p xs + cond (p x) 1 0
  count-push xs x = sum_by_push (λ y. cond (p y) 1 0) xs x

  one_later : (n len k : ℕ) → option_map_or (λ place. place + k) (cond (nat_lt (1 + n) (suc len)) (Some (1 + n)) None) 0
      ≡ option_map_or (λ place. place + (k + 1)) (cond (nat_lt n len) (Some n) None) 0
  one_later n len k = step (nat_lt n len) (same n len) ∙ ap (λ t. option_map_or (λ place. place + (k + 1)) (cond t (Some n) None) 0) refl
    where
      same : (a b : ℕ) → nat_lt (1 + a) (suc b) ≡ nat_lt a b
      same a b = grind (arith, nat_tests)

      step : (t : Bool) → nat_lt (1 + n) (suc len) ≡ t → option_map_or (λ place. place + k) (cond (nat_lt (1 + n) (suc len)) (Some (1 + n)) None) 0
          ≡ option_map_or (λ place. place + (k + 1)) (cond t (Some n) None) 0
      step true e = let sum : 1 + n + k ≡ n + (k + 1) = omega arith in ap (λ t. option_map_or (λ place. place + k) (cond t (Some (1 + n)) None) 0) e ∙ sum
      step false e = ap (λ t. option_map_or (λ place. place + k) (cond t (Some (1 + n)) None) 0) e

  first-map : (k : ℕ) (xs : List X) → option_map_or (λ place. place + k) (position p xs) 0 ≡ first_from k (map p xs)
  first-map k [] = refl
  first-map k (x ∷ xs) = step (p x) (first-map (k + 1) xs)
    where
      first_here : (len : ℕ) → option_map_or (λ place. place + k) (cond (nat_lt 0 (suc len)) (Some 0) None) 0 ≡ k
      first_here len = let e : nat_lt 0 (suc len) ≡ true = grind (arith, nat_tests) in
          ap (λ t. option_map_or (λ place. place + k) (cond t (Some 0) None) 0) e ∙ zero-add k

      step : (t : Bool) → option_map_or (λ place. place + (k + 1)) (position p xs) 0 ≡ first_from (k + 1) (map p xs)
          → option_map_or (λ place. place + k) (let at = cond (not t) (1 + position_or_len p xs) 0 in cond (nat_lt at (suc (length xs))) (Some at) None) 0
          ≡ first_from k (t ∷ map p xs)
      step true later = first_here (length xs)
      step false later = one_later (position_or_len p xs) (length xs) k ∙ later

-- ---- the sums

module _ (level : ℕ) where
  abbrev relevant : List (Option ℕ) → List Bool
  relevant grades = map (is_relevant level) grades

  abbrev lower : List (Option ℕ) → List Bool
  lower grades = map (is_non_relevant level) grades

  -- what stands down to a place, where so many stand before the rest
  taken : (before : List (Option ℕ)) (grade : Option ℕ) (rest : List (Option ℕ)) → take (length before + 1) (before ++ grade ∷ rest) ≡ before ++ grade ∷ []
  taken before grade rest =
      let long : length before + 1 ≡ length (before ++ grade ∷ []) = sym (length-append before (grade ∷ [])) in
      ap (λ n. take n (before ++ grade ∷ rest)) long ∙ ap (take (length (before ++ grade ∷ []))) (sym (append_assoc before (grade ∷ []) rest))
      ∙ take-append_seam (before ++ grade ∷ []) rest

  precisions-from : (before rest : List (Option ℕ)) (f : ℕ → ℕ) → ((k : ℕ) → f k ≡ relevant_to level (before ++ rest) k * weight k)
      → sum_by (λ d. if is_relevant level d.1 then f d.0 else 0) (enumerate_from (length before + 1) rest)
      ≡ precisions (length before + 1) (count_by (is_relevant level) before) (relevant rest)
  precisions-from before [] f is = refl
  precisions-from before (grade ∷ rest) f is =
      sum_by-cons (λ d. if is_relevant level d.1 then f d.0 else 0) (length before + 1, grade) (enumerate_from (length before + 1 + 1) rest)
      ∙ ap (λ k. (if is_relevant level grade then f (length before + 1) else 0)
      + sum_by (λ d. if is_relevant level d.1 then f d.0 else 0) (enumerate_from k rest)) (sym long)
      ∙ ap (λ n. (if is_relevant level grade then f (length before + 1) else 0) + n)
      (precisions-from (before ++ grade ∷ []) rest f (λ k. is k ∙ ap (λ xs. relevant_to level xs k * weight k) (sym (append_assoc before (grade ∷ []) rest))))
      ∙ ap (λ k. (if is_relevant level grade then f (length before + 1) else 0)
      + precisions k (count_by (is_relevant level) (before ++ grade ∷ [])) (relevant rest)) long
      ∙ ap (λ n. (if is_relevant level grade then f (length before + 1) else 0) + precisions (length before + 1 + 1) n (relevant rest))
      (count-push (is_relevant level) before grade)
      ∙ step (is_relevant level grade) refl
    where
      long : length (before ++ grade ∷ []) + 1 ≡ length before + 1 + 1
      long = ap (λ n. n + 1) (length-append before (grade ∷ []))

      here : f (length before + 1) ≡ (count_by (is_relevant level) before + cond (is_relevant level grade) 1 0) * weight (length before + 1)
      here = is (length before + 1) ∙ ap (λ xs. count_by (is_relevant level) xs * weight (length before + 1)) (taken before grade rest)
          ∙ ap (λ n. n * weight (length before + 1)) (count-push (is_relevant level) before grade)

      step : (b : Bool) → is_relevant level grade ≡ b
          → (if b then f (length before + 1) else 0) + precisions (length before + 1 + 1) (count_by (is_relevant level) before + cond b 1 0) (relevant rest)
          ≡ precisions (length before + 1) (count_by (is_relevant level) before) (b ∷ relevant rest)
      step true e = ap (λ n. n + precisions (length before + 1 + 1) (count_by (is_relevant level) before + 1) (relevant rest))
          (here ∙ ap (λ t. (count_by (is_relevant level) before + cond t 1 0) * weight (length before + 1)) e)
      step false e =
          let none : count_by (is_relevant level) before + 0 ≡ count_by (is_relevant level) before = omega arith in
          zero-add (precisions (length before + 1 + 1) (count_by (is_relevant level) before + 0) (relevant rest))
          ∙ ap (λ n. precisions (length before + 1 + 1) n (relevant rest)) none

  preferences-from : (cap : ℕ) (before rest : List (Option ℕ)) (f : ℕ → ℕ) → ((k : ℕ) → f k ≡ cap - min cap (non_relevant_to level (before ++ rest) (k - 1)))
      → sum_by (λ d. if is_relevant level d.1 then f d.0 else 0) (enumerate_from (length before + 1) rest)
      ≡ preferences cap (count_by (is_non_relevant level) before) (relevant rest) (lower rest)
  preferences-from cap before [] f is = refl
  preferences-from cap before (grade ∷ rest) f is =
      sum_by-cons (λ d. if is_relevant level d.1 then f d.0 else 0) (length before + 1, grade) (enumerate_from (length before + 1 + 1) rest)
      ∙ ap (λ k. (if is_relevant level grade then f (length before + 1) else 0)
      + sum_by (λ d. if is_relevant level d.1 then f d.0 else 0) (enumerate_from k rest)) (sym long)
      ∙ ap (λ n. (if is_relevant level grade then f (length before + 1) else 0) + n)
      (preferences-from cap (before ++ grade ∷ []) rest f
      (λ k. is k ∙ ap (λ xs. cap - min cap (non_relevant_to level xs (k - 1))) (sym (append_assoc before (grade ∷ []) rest))))
      ∙ ap (λ n. (if is_relevant level grade then f (length before + 1) else 0) + preferences cap n (relevant rest) (lower rest)) counted
      ∙ step (is_relevant level grade) refl
    where
      long : length (before ++ grade ∷ []) + 1 ≡ length before + 1 + 1
      long = ap (λ n. n + 1) (length-append before (grade ∷ []))

      one : (t : Bool) → cond t 1 0 ≡ as_number t
      one true = refl
      one false = refl

      counted : count_by (is_non_relevant level) (before ++ grade ∷ []) ≡ count_by (is_non_relevant level) before + as_number (is_non_relevant level grade)
      counted = count-push (is_non_relevant level) before grade ∙ ap (λ n. count_by (is_non_relevant level) before + n) (one (is_non_relevant level grade))

      above : take (length before + 1 - 1) (before ++ grade ∷ rest) ≡ before
      above = let back : length before + 1 - 1 ≡ length before = omega arith in
          ap (λ n. take n (before ++ grade ∷ rest)) back ∙ take-append_seam before (grade ∷ rest)

      least : (m n : ℕ) → m - min m n ≡ m - n
      least m n = omega arith

      here : f (length before + 1) ≡ cap - count_by (is_non_relevant level) before
      here = is (length before + 1) ∙ ap (λ xs. cap - min cap (count_by (is_non_relevant level) xs)) above ∙ least cap (count_by (is_non_relevant level) before)

      step : (b : Bool) → is_relevant level grade ≡ b
          → (if b then f (length before + 1) else 0)
          + preferences cap (count_by (is_non_relevant level) before + as_number (is_non_relevant level grade)) (relevant rest) (lower rest)
          ≡ preferences cap (count_by (is_non_relevant level) before) (b ∷ relevant rest) (is_non_relevant level grade ∷ lower rest)
      step true e = ap
          (λ n. n + preferences cap (count_by (is_non_relevant level) before + as_number (is_non_relevant level grade)) (relevant rest) (lower rest)) here
      step false e = zero-add (preferences cap (count_by (is_non_relevant level) before + as_number (is_non_relevant level grade)) (relevant rest) (lower rest))

  at_cutoff : (grades : List (Option ℕ)) (k : ℕ) → relevant_to level grades k ≡ count_on (take k (relevant grades))
  at_cutoff grades k = count-take (is_relevant level) k grades

  bpref_same : (grades : List (Option ℕ)) (r n : ℕ)
      → bpref_num level grades r n ≡ bpref_from (relevant grades) r n (preferences (min r n) 0 (relevant grades) (lower grades))
  bpref_same grades r n =
      ap (λ sum. if r == 0 then 0 else (if min r n == 0 then count_by (is_relevant level) grades else sum))
      (preferences-from (min r n) [] grades (left_of_cap level grades (min r n)) (λ k. refl))
      ∙ ap (λ count. if r == 0 then 0 else (if min r n == 0 then count else preferences (min r n) 0 (relevant grades) (lower grades)))
      (count-map (is_relevant level) grades)

pub by-places : (grades : List (Option ℕ)) (r n level : ℕ)
    → cell_of grades r n level ≡ cell_by (map (is_relevant level) grades) (map (is_non_relevant level) grades) r n
unfolding cell_of cell_by
by-places grades r n level = λ i. record {
  ret = sym (length-map grades (is_relevant level)) i;
  rel = r;
  rel_ret = count-map (is_relevant level) grades i;
  at = map (λ k. at_cutoff level grades k i) cutoffs;
  r_prec = at_cutoff level grades r i;
  first = first-map (is_relevant level) 1 grades i;
  ap_sum = precisions-from level [] grades (λ k. relevant_to level grades k * weight k) (λ k. refl) i;
  bpref_num = bpref_same level grades r n i;
  bpref_den = bpref_den r n;
}
