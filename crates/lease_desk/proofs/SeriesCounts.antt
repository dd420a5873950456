-- A count along a series, from its newest lease on backwards.
use Rattle.std.proofs.Common.{◌≡◌, ℕ, ◌+◌, ◌<◌, ◌≤◌, ◌⊎◌, Bool, true, false, cond, inl, inr, ◌&&◌, nat_lt, List, [], ◌∷◌, Option, Some, None, count_by, length, take, refl, sym, ap, ◌∙◌, arith, get_or, is_none, suc, zero}
use Rattle.std.proofs.lemmas.Bool.{false≢true, ltb-true, and_parts}
use Rattle.std.proofs.lemmas.List.Sums.{count_by_more_yes, count_by_more_no, sum_by-cons}
use Rattle.lease_desk.specs.Series.{IsSeriesOf, LeadsBack, is_asked, last_of, last_place, up_to}
use Rattle.lease_desk.specs.Leases.{is_lease_live}
use Rattle.lease_desk.specs.declared.series.Link.{Link}
use Rattle.lease_desk.specs.declared.leases.Lease.{Lease}
use Rattle.lease_desk.proofs.LastPlaces.{last_passes}

-- ---- tests

-- 1 for what counts, and 0 for what doesn't
abbrev pub as_number : Bool → ℕ
as_number true = 1
as_number false = 0

pub as_number-le : (t : Bool) → as_number t ≤ 1
as_number-le true = omega arith
as_number-le false = omega arith

as_cond : (t : Bool) → cond t 1 0 ≡ as_number t
as_cond true = refl
as_cond false = refl

-- ---- what no lease of the series behind the last one adds

pub count-cons : {X : Type 0} (f : X → Bool) (x : X) (xs : List X) → count_by f (x ∷ xs) ≡ as_number (f x) + count_by f xs
count-cons f x xs = sum_by-cons (λ y. cond (f y) 1 0) x xs ∙ ap (λ n. n + count_by f xs) (as_cond (f x))

pub count_up_to_last : {X : Type 0} (passes f : X → Bool) (only : (x : X) → f x ≡ true → passes x ≡ true) (xs : List X)
    → count_by f (take (up_to (last_place passes xs)) xs) ≡ count_by f xs
count_up_to_last passes f only [] = refl
count_up_to_last passes f only (x ∷ xs) = step (last_place passes xs) (passes x) refl (count_up_to_last passes f only xs)
  where
    left_out : (t : Bool) → f x ≡ t → passes x ≡ false → as_number (f x) ≡ 0
    left_out true e fails = absurd (false≢true (sym fails ∙ only x e))
    left_out false e fails = ap as_number e

    step : (last : Option ℕ) (t : Bool) → passes x ≡ t → count_by f (take (up_to last) xs) ≡ count_by f xs
        → count_by f (take (up_to (last_of last t)) (x ∷ xs)) ≡ count_by f (x ∷ xs)
    step None true here rest =
        let one : take (0 + 1) (x ∷ xs) ≡ x ∷ take 0 xs = refl in
        ap (count_by f) one ∙ count-cons f x (take 0 xs) ∙ ap (λ n. as_number (f x) + n) rest ∙ sym (count-cons f x xs)
    step None false here rest =
        let none : count_by f (take 0 (x ∷ xs)) ≡ 0 = refl in
        let later : count_by f (take 0 xs) ≡ 0 = refl in
        let out = left_out (f x) refl here in
        omega (arith, count-cons f x xs)
    step (Some place) t here rest =
        let more : take (place + 1 + 1) (x ∷ xs) ≡ x ∷ take (place + 1) xs = let e : place + 1 + 1 ≡ suc (place + 1) = omega arith in
        ap (λ n. take n (x ∷ xs)) e in
        ap (count_by f) more ∙ count-cons f x (take (place + 1) xs) ∙ ap (λ n. as_number (f x) + n) rest ∙ sym (count-cons f x xs)

split_last : (m n : ℕ) → m ≤ suc n → (m ≤ n) ⊎ (m ≡ suc n)
split_last m n h = grind arith

-- elements that don't pass, between two places, add nothing
pub count_between : {X : Type 0} (f : X → Bool) (xs : List X) (d : X) (m n : ℕ) → m ≤ n → n ≤ length xs → ((i : ℕ) → m ≤ i → i < n → f (get_or xs i d) ≡ false)
    → count_by f (take n xs) ≡ count_by f (take m xs)
count_between f xs d m zero le h none = let e : zero ≡ m = omega arith in ap (λ k. count_by f (take k xs)) e
count_between f xs d m (suc n) le h none =
    step (split_last m n le) (λ lower. count_between f xs d m n lower (omega arith) (λ i at_least lt. none i at_least (omega arith)))
  where
    step : (m ≤ n) ⊎ (m ≡ suc n) → (m ≤ n → count_by f (take n xs) ≡ count_by f (take m xs)) → count_by f (take (suc n) xs) ≡ count_by f (take m xs)
    step (inr e) rest = ap (λ k. count_by f (take k xs)) (sym e)
    step (inl lower) rest =
        let more : suc n ≡ n + 1 = omega arith in
        let within : n < length xs = omega arith in
        ap (λ k. count_by f (take k xs)) more ∙ count_by_more_no f xs n d within (none n lower (omega arith)) ∙ rest lower

-- where none of the first elements passes, their count is 0
pub count_none : {X : Type 0} (f : X → Bool) (xs : List X) (d : X) (n : ℕ) → n ≤ length xs
    → ((i : ℕ) → i < n → f (get_or xs i d) ≡ false) → count_by f (take n xs) ≡ 0
count_none f xs d n h none = count_between f xs d 0 n (omega arith) h (λ i at_least lt. none i lt)

-- ---- the count of a series

-- a live lease with a key, and of the assessor that is asked for
abbrev pub is_counted : (Lease → Bool) → Option (List ℕ) → ℕ → Lease → Bool
is_counted key assessor now lease = key lease && is_asked assessor lease && is_lease_live lease now

-- with the key, whether it counts is told by the rest
pub counts_then : (key : Lease → Bool) (assessor : Option (List ℕ)) (now : ℕ) (lease : Lease) (told : Bool)
    → key lease ≡ true → told ≡ (is_asked assessor lease && is_lease_live lease now)
    → is_counted key assessor now lease ≡ told
counts_then key assessor now lease told here e = ap (λ t. t && is_asked assessor lease && is_lease_live lease now) here ∙ sym e

-- a lease and a link, as values
abbrev pub some_lease : Lease
some_lease = record { number = 0; assessor = []; topic = 0; doc = record { 0 = 0 }; until = 0; end = None }

abbrev pub some_link : Link
some_link = record { previous = None; next = None; latest_until = 0 }

-- so many leases were counted, and those up to a place of the series are left
pub record IsCounted (key : Lease → Bool) (assessor : Option (List ℕ)) (now : ℕ) (leases : List Lease) (count : ℕ) (next : Option ℕ) : Type 0 where
  pub so_far : count + count_by (is_counted key assessor now) (take (up_to next) leases) ≡ count_by (is_counted key assessor now) leases
  pub passes : (place : ℕ) (lease : Lease) → next ≡ Some place → key (get_or leases place lease) ≡ true

module _ (key : Lease → Bool) (assessor : Option (List ℕ)) (now : ℕ) (leases : List Lease) where
  only : (lease : Lease) → is_counted key assessor now lease ≡ true → key lease ≡ true
  only lease e = (and_parts (key lease) (is_asked assessor lease) (and_parts (key lease && is_asked assessor lease) (is_lease_live lease now) e).0).0

  unended : (lease : Lease) → is_counted key assessor now lease ≡ true → is_none lease.end ≡ true
  unended lease e = (and_parts (is_none lease.end) (nat_lt now lease.until) (and_parts (key lease && is_asked assessor lease) (is_lease_live lease now) e).1).0

  lives : (lease : Lease) → is_counted key assessor now lease ≡ true → now < lease.until
  lives lease e =
      let live = (and_parts (key lease && is_asked assessor lease) (is_lease_live lease now) e).1 in
      ltb-true now lease.until (and_parts (is_none lease.end) (nat_lt now lease.until) live).1

  pub starts : (links : List Link) (newest : Option ℕ) → IsSeriesOf key leases links newest → IsCounted key assessor now leases 0 newest
  starts links newest series = record {
    so_far =
        let whole = count_up_to_last key (is_counted key assessor now) only leases in
        let here : count_by (is_counted key assessor now) (take (up_to newest) leases) ≡ count_by (is_counted key assessor now) leases
        = ap (λ last. count_by (is_counted key assessor now) (take (up_to last) leases)) series.newest_is ∙ whole in
        omega (arith, here);
    passes = λ place lease e. last_passes key leases place lease (sym series.newest_is ∙ e);
  }

  pub done : (count : ℕ) → IsCounted key assessor now leases count None → count ≡ count_by (is_counted key assessor now) leases
  done count counted =
      let none : count_by (is_counted key assessor now) (take 0 leases) ≡ 0 = refl in
      let all = counted.so_far in
      omega (arith, none, all)

  module _ (links : List Link) (newest : Option ℕ) (series : IsSeriesOf key leases links newest) where
    pub stops : (count place : ℕ) (lease : Lease) (link : Link) → place < length leases → (get_or links place link).latest_until ≤ now
        → IsCounted key assessor now leases count (Some place)
        → count ≡ count_by (is_counted key assessor now) leases
    stops count place lease link within late counted =
        let here : key (get_or leases place lease) ≡ true = counted.passes place lease refl in
        let upto : place + 1 ≤ length leases = omega arith in
        let none = count_none (is_counted key assessor now) leases lease (place + 1) upto
        (λ i h. out i (omega arith) here (is_counted key assessor now (get_or leases i lease)) refl) in
        let all = counted.so_far in
        omega (arith, none, all)
      where
        out : (i : ℕ) → i ≤ place → key (get_or leases place lease) ≡ true → (t : Bool) → is_counted key assessor now (get_or leases i lease) ≡ t
            → is_counted key assessor now (get_or leases i lease) ≡ false
        out i h here true e =
            let until = series.latest_is place i lease link within h here (only (get_or leases i lease) e) in
            let live = lives (get_or leases i lease) e in
            absurd (omega (arith, until, live))
        out i h here false e = e

    pub goes_on : (count more place : ℕ) (lease : Lease) (link : Link) → place < length leases
        → more ≡ count + as_number (is_counted key assessor now (get_or leases place lease))
        → IsCounted key assessor now leases count (Some place) → IsCounted key assessor now leases more (get_or links place link).previous
    goes_on count more place lease link within is_more counted =
        let here : key (get_or leases place lease) ≡ true = counted.passes place lease refl in
        let back = series.leads_back place lease link within here in
        let f = is_counted key assessor now in
        let upto : place ≤ length leases = omega arith in
        let rest : count_by f (take place leases) ≡ count_by f (take (up_to (get_or links place link).previous) leases)
        = count_between f leases lease (up_to (get_or links place link).previous) place back.earlier upto
        (λ i at_least lt. left_out back i at_least lt (f (get_or leases i lease)) refl) in
        let one = step (f (get_or leases place lease)) refl in
        let all = counted.so_far in
        record {
          so_far = omega (arith, rest, one, all);
          passes = λ i d e. back.passes_there i d e;
        }
      where
        left_out : LeadsBack key leases place (get_or links place link).previous → (i : ℕ) → up_to (get_or links place link).previous ≤ i → i < place
            → (t : Bool) → is_counted key assessor now (get_or leases i lease) ≡ t → is_counted key assessor now (get_or leases i lease) ≡ false
        left_out back i at_least lt true e =
            absurd (false≢true (sym (back.ended_between i lease at_least lt (only (get_or leases i lease) e)) ∙ unended (get_or leases i lease) e))
        left_out back i at_least lt false e = e

        step : (t : Bool) → is_counted key assessor now (get_or leases place lease) ≡ t
            → count_by (is_counted key assessor now) (take (place + 1) leases)
            ≡ count_by (is_counted key assessor now) (take place leases) + as_number (is_counted key assessor now (get_or leases place lease))
        step true e =
            let n : as_number (is_counted key assessor now (get_or leases place lease)) ≡ 1 = ap as_number e in
            omega (arith, n, count_by_more_yes (is_counted key assessor now) leases place lease within e)
        step false e =
            let n : as_number (is_counted key assessor now (get_or leases place lease)) ≡ 0 = ap as_number e in
            omega (arith, n, count_by_more_no (is_counted key assessor now) leases place lease within e)
