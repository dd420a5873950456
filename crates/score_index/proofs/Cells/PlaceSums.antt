-- What a place that comes adds to the sums of a list, and what a greater cap adds.
use Rattle.std.proofs.Common.{◌≡◌, ℕ, zero, suc, ◌+◌, ◌-◌, ◌*◌, ◌^◌, ◌<◌, ◌≤◌, Bool, true, false, nat_lt, List, [], ◌∷◌, length, drop, take, set, get_or, refl, sym, ap, ◌∙◌, arith, subst, zero-add, inl, inr}
use Rattle.std.proofs.Math.Nat.{mul-div-le, mul-le-mul_right}
use Rattle.std.proofs.lemmas.Bool.{false≢true}
use Rattle.std.proofs.lemmas.Bool.Decides.{leb_tells, nat_tests}
use Rattle.measures.specs.Cells.{weight}
use Rattle.qrels_view.specs.Grades.{as_number}
use Rattle.rank_trees.specs.PlacesOn.{count_on, weights_from}
use Rattle.score_index.specs.Places.{cap_reached_places, first_from, precision_gain, precisions, preferences}
use Rattle.score_index.proofs.Cells.ByPlaces.{count-on}

-- ---- counts

pub count-set : (on : List Bool) (i : ℕ) → i < length on → get_or on i false ≡ false → count_on (set on i true) ≡ count_on on + 1
count-set [] i within off = absurd (omega (arith, within))
count-set (b ∷ on) zero within off =
    let first = count-on true on in
    let was = count-on b on in
    let none = ap as_number off in
    omega (arith, first, was, none)
count-set (b ∷ on) (suc i) within off = omega (arith, count-on b (set on i true), count-on b on, count-set on i (omega (arith, within)) off)

before_none : (i : ℕ) → nat_lt i 0 ≡ false
before_none i = grind (arith, nat_tests)

before_some : (k : ℕ) → nat_lt 0 (suc k) ≡ true
before_some k = grind (arith, nat_tests)

before_sucs : (i k : ℕ) → nat_lt (suc i) (suc k) ≡ nat_lt i k
before_sucs i k = grind (arith, nat_tests)

pub count-take-set : (k : ℕ) (on : List Bool) (i : ℕ) → i < length on → get_or on i false ≡ false
    → count_on (take k (set on i true)) ≡ count_on (take k on) + as_number (nat_lt i k)
count-take-set k [] i within off = absurd (omega (arith, within))
count-take-set zero (b ∷ on) i within off = sym (zero-add (as_number (nat_lt i 0)) ∙ ap as_number (before_none i))
count-take-set (suc k) (b ∷ on) zero within off =
    let some = ap as_number (before_some k) in
    let none = ap as_number off in
    omega (arith, count-on true (take k on), count-on b (take k on), some, none)
count-take-set (suc k) (b ∷ on) (suc i) within off =
    let same = ap as_number (before_sucs i k) in
    omega (arith, count-on b (take k (set on i true)), count-on b (take k on), same, count-take-set k on i (omega (arith, within)) off)

pub count-take-le : (k : ℕ) (on : List Bool) → count_on (take k on) ≤ k
count-take-le zero on = omega arith
count-take-le (suc k) [] = omega arith
count-take-le (suc k) (true ∷ on) = omega (arith, count-on true (take k on), count-take-le k on)
count-take-le (suc k) (false ∷ on) = omega (arith, count-on false (take k on), count-take-le k on)

-- ---- the first place

pub first-selected : (place : ℕ) (on : List Bool) (i : ℕ) → i < length on → get_or on i false ≡ true
    → count_on (take i on) ≡ 0 → first_from place on ≡ place + i
first-selected place [] i within is none = absurd (omega (arith, within))
first-selected place (true ∷ on) zero within is none = omega arith
first-selected place (false ∷ on) zero within is none = absurd (false≢true is)
first-selected place (true ∷ on) (suc i) within is none = absurd (omega (arith, count-on true (take i on), none))
first-selected place (false ∷ on) (suc i) within is none =
    first-selected (place + 1) on i (omega (arith, within)) is (omega (arith, count-on false (take i on), none)) ∙ omega arith

pub first-none : (place : ℕ) (on : List Bool) → count_on on ≡ 0 → first_from place on ≡ 0
first-none place [] none = refl
first-none place (true ∷ on) none = absurd (omega (arith, count-on true on, none))
first-none place (false ∷ on) none = first-none (place + 1) on (omega (arith, count-on false on, none))

-- ---- the sum of precisions

precisions-found : (place found : ℕ) (on : List Bool) → precisions place (found + 1) on ≡ precisions place found on + weights_from place on
precisions-found place found [] = refl
precisions-found place found (true ∷ on) = omega (arith, precisions-found (place + 1) (found + 1) on)
precisions-found place found (false ∷ on) = precisions-found (place + 1) found on

gain-later : (place found : ℕ) (b : Bool) (on : List Bool) (i : ℕ)
    → precision_gain (place + 1) (found + as_number b) on i ≡ precision_gain place found (b ∷ on) (suc i)
gain-later place found b on i =
    let at : place + 1 + i ≡ place + suc i = omega arith in
    let counted : found + as_number b + count_on (take i on) + 1 ≡ found + count_on (b ∷ take i on) + 1 = omega (arith, count-on b (take i on)) in
    ap (λ k. (found + as_number b + count_on (take i on) + 1) * weight k + weights_from (k + 1) (drop (suc i) on)) at
    ∙ ap (λ n. n * weight (place + suc i) + weights_from (place + suc i + 1) (drop (suc i) on)) counted

pub precisions-set : (place found : ℕ) (on : List Bool) (i : ℕ) → i < length on → get_or on i false ≡ false
    → precisions place found (set on i true) ≡ precisions place found on + precision_gain place found on i
precisions-set place found [] i within off = absurd (omega (arith, within))
precisions-set place found (true ∷ on) zero within off = absurd (false≢true (sym off))
precisions-set place found (false ∷ on) zero within off =
    let e : place + 0 ≡ place = omega arith in
    let gain = ap (λ k. (found + 0 + 1) * weight k + weights_from (k + 1) on) e in
    let more = precisions-found (place + 1) found on in
    let sum : (found + 1) * weight place + precisions (place + 1) (found + 1) on
    ≡ precisions (place + 1) found on + ((found + 0 + 1) * weight place + weights_from (place + 1) on) = omega (arith, more) in
    sum ∙ ap (λ n. precisions (place + 1) found on + n) (sym gain)
precisions-set place found (true ∷ on) (suc i) within off =
    let rest = precisions-set (place + 1) (found + 1) on i (omega (arith, within)) off in
    let gain = gain-later place found true on i in
    omega (arith, rest, gain)
precisions-set place found (false ∷ on) (suc i) within off =
    let none : found + 0 ≡ found = omega arith in
    let gain = ap (λ n. precision_gain (place + 1) n on i) (sym none) ∙ gain-later place found false on i in
    precisions-set (place + 1) found on i (omega (arith, within)) off ∙ ap (λ n. precisions (place + 1) found on + n) gain

pub precisions-small : (place found : ℕ) (on : List Bool) → found + 1 ≤ place → precisions place found on ≤ count_on on * 10 ^ 15
precisions-small place found [] few = omega arith
precisions-small place found (true ∷ on) few =
    let most = mul-le-mul_right (weight place) few in
    let whole = mul-div-le (10 ^ 15) place in
    let rest = precisions-small (place + 1) (found + 1) on (omega (arith, few)) in
    omega (arith, count-on true on, most, whole, rest)
precisions-small place found (false ∷ on) few =
    let rest = precisions-small (place + 1) found on (omega (arith, few)) in
    let same : count_on (false ∷ on) ≡ count_on on = count-on false on ∙ zero-add (count_on on) in
    subst (λ n. precisions (place + 1) found on ≤ n * 10 ^ 15) (sym same) rest

-- ---- the sum of preferences

pub preferences-set : (cap lower : ℕ) (relevant others : List Bool) (i : ℕ) → length others ≡ length relevant
    → i < length relevant → get_or relevant i false ≡ false
    → preferences cap lower (set relevant i true) others ≡ preferences cap lower relevant others + (cap - (lower + count_on (take i others)))
preferences-set cap lower [] others i long within off = absurd (omega (arith, within))
preferences-set cap lower (r ∷ relevant) [] i long within off = absurd (omega (arith, long))
preferences-set cap lower (true ∷ relevant) (other ∷ others) zero long within off = absurd (false≢true (sym off))
preferences-set cap lower (false ∷ relevant) (other ∷ others) zero long within off =
    let none : cap - (lower + 0) ≡ cap - lower = omega arith in
    let swap : cap - lower + preferences cap (lower + as_number other) relevant others
    ≡ preferences cap (lower + as_number other) relevant others + (cap - (lower + 0)) = omega (arith, none) in
    swap
preferences-set cap lower (true ∷ relevant) (other ∷ others) (suc i) long within off =
    let rest = preferences-set cap (lower + as_number other) relevant others i (omega (arith, long)) (omega (arith, within)) off in
    omega (arith, rest, count-on other (take i others))
preferences-set cap lower (false ∷ relevant) (other ∷ others) (suc i) long within off =
    let counted : lower + as_number other + count_on (take i others) ≡ lower + count_on (other ∷ take i others) =
    omega (arith, count-on other (take i others)) in
    preferences-set cap (lower + as_number other) relevant others i (omega (arith, long)) (omega (arith, within)) off
    ∙ ap (λ n. preferences cap (lower + as_number other) relevant others + (cap - n)) counted

pub preferences-cap : (cap lower : ℕ) (relevant others : List Bool)
    → preferences (cap + 1) lower relevant others ≡ preferences cap lower relevant others + cap_reached_places cap lower relevant others
preferences-cap cap lower [] others = refl
preferences-cap cap lower (r ∷ relevant) [] = refl
preferences-cap cap lower (true ∷ relevant) (other ∷ others) = omega (arith, preferences-cap cap (lower + as_number other) relevant others)
preferences-cap cap lower (false ∷ relevant) (other ∷ others) = preferences-cap cap (lower + as_number other) relevant others

-- one more lower place above takes 1 from what each has left
preferences-lower : (cap lower : ℕ) (relevant others : List Bool)
    → preferences cap lower relevant others ≡ preferences cap (lower + 1) relevant others + cap_reached_places cap (lower + 1) relevant others
preferences-lower cap lower [] others = refl
preferences-lower cap lower (r ∷ relevant) [] = refl
preferences-lower cap lower (true ∷ relevant) (other ∷ others) =
    let e : lower + as_number other + 1 ≡ lower + 1 + as_number other = omega arith in
    let p = ap (λ n. preferences cap n relevant others) e in
    let q = ap (λ n. cap_reached_places cap n relevant others) e in
    omega (arith, p, q, preferences-lower cap (lower + as_number other) relevant others)
preferences-lower cap lower (false ∷ relevant) (other ∷ others) =
    let e : lower + as_number other + 1 ≡ lower + 1 + as_number other = omega arith in
    preferences-lower cap (lower + as_number other) relevant others ∙ ap (λ n. preferences cap n relevant others + cap_reached_places cap n relevant others) e

pub preferences-other : (cap lower : ℕ) (relevant others : List Bool) (i : ℕ) → length others ≡ length relevant
    → i < length others → get_or others i false ≡ false
    → preferences cap lower relevant others ≡ preferences cap lower relevant (set others i true)
    + cap_reached_places cap (lower + count_on (take i others) + 1) (drop (suc i) relevant) (drop (suc i) others)
preferences-other cap lower relevant [] i long within off = absurd (omega (arith, within))
preferences-other cap lower [] (other ∷ others) i long within off = absurd (omega (arith, long))
preferences-other cap lower (r ∷ relevant) (true ∷ others) zero long within off = absurd (false≢true (sym off))
preferences-other cap lower (true ∷ relevant) (false ∷ others) zero long within off =
    let none : lower + 0 ≡ lower = omega arith in
    let p = ap (λ n. preferences cap n relevant others) none in
    let q = ap (λ n. cap_reached_places cap (n + 1) relevant others) none in
    omega (arith, p, q, preferences-lower cap lower relevant others)
preferences-other cap lower (false ∷ relevant) (false ∷ others) zero long within off =
    let none : lower + 0 ≡ lower = omega arith in
    ap (λ n. preferences cap n relevant others) none ∙ preferences-lower cap lower relevant others
    ∙ ap (λ n. preferences cap (lower + 1) relevant others + cap_reached_places cap (n + 1) relevant others) (sym none)
preferences-other cap lower (true ∷ relevant) (other ∷ others) (suc i) long within off =
    let counted : lower + as_number other + count_on (take i others) + 1 ≡ lower + count_on (other ∷ take i others) + 1 =
    omega (arith, count-on other (take i others)) in
    let q = ap (λ n. cap_reached_places cap n (drop (suc i) relevant) (drop (suc i) others)) counted in
    omega (arith, q, preferences-other cap (lower + as_number other) relevant others i (omega (arith, long)) (omega (arith, within)) off)
preferences-other cap lower (false ∷ relevant) (other ∷ others) (suc i) long within off =
    let counted : lower + as_number other + count_on (take i others) + 1 ≡ lower + count_on (other ∷ take i others) + 1 =
    omega (arith, count-on other (take i others)) in
    preferences-other cap (lower + as_number other) relevant others i (omega (arith, long)) (omega (arith, within)) off
    ∙ ap (λ n. preferences cap (lower + as_number other) relevant (set others i true) + cap_reached_places cap n (drop (suc i) relevant) (drop (suc i) others))
    counted

pub preferences-small : (cap lower : ℕ) (relevant others : List Bool) → preferences cap lower relevant others ≤ count_on relevant * cap
preferences-small cap lower [] others = omega arith
preferences-small cap lower (r ∷ relevant) [] = omega arith
preferences-small cap lower (true ∷ relevant) (other ∷ others) =
    let product = ap (λ n. n * cap) (count-on true relevant) in
    omega (arith, product, preferences-small cap (lower + as_number other) relevant others)
preferences-small cap lower (false ∷ relevant) (other ∷ others) =
    let same : count_on (false ∷ relevant) ≡ count_on relevant = count-on false relevant ∙ zero-add (count_on relevant) in
    subst (λ n. preferences cap (lower + as_number other) relevant others ≤ n * cap) (sym same)
    (preferences-small cap (lower + as_number other) relevant others)

pub preferences-none : (lower : ℕ) (relevant others : List Bool) → preferences 0 lower relevant others ≡ 0
preferences-none lower relevant others = omega (arith, preferences-small 0 lower relevant others)

-- ---- how far the cap reaches

reached-none : (cap lower : ℕ) (relevant others : List Bool) → cap < lower → cap_reached_places cap lower relevant others ≡ 0
reached-none cap lower [] others past = refl
reached-none cap lower (r ∷ relevant) [] past = refl
reached-none cap lower (true ∷ relevant) (other ∷ others) past =
    omega (arith, past, reached-none cap (lower + as_number other) relevant others (omega (arith, past)))
reached-none cap lower (false ∷ relevant) (other ∷ others) past = reached-none cap (lower + as_number other) relevant others (omega (arith, past))

-- up to the lower place that has the cap above it
pub reached-to : (cap lower : ℕ) (relevant others : List Bool) (i : ℕ) → length others ≡ length relevant → i < length others
    → get_or others i false ≡ true → lower + count_on (take i others) ≡ cap
    → cap_reached_places cap lower relevant others ≡ count_on (take (suc i) relevant)
reached-to cap lower relevant [] i long within is full = absurd (omega (arith, within))
reached-to cap lower [] (other ∷ others) i long within is full = absurd (omega (arith, long))
reached-to cap lower (true ∷ relevant) (other ∷ others) zero long within is full =
    let one = ap as_number is in
    let none = reached-none cap (lower + as_number other) relevant others (omega (arith, one, full)) in
    let counted = count-on true (take 0 relevant) in
    omega (arith, none, full, counted)
reached-to cap lower (false ∷ relevant) (other ∷ others) zero long within is full =
    let one = ap as_number is in
    reached-none cap (lower + as_number other) relevant others (omega (arith, one, full)) ∙ sym (count-on false (take 0 relevant))
reached-to cap lower (true ∷ relevant) (other ∷ others) (suc i) long within is full =
    let counted = count-on other (take i others) in
    let rest = reached-to cap (lower + as_number other) relevant others i (omega (arith, long)) (omega (arith, within)) is (omega (arith, counted, full)) in
    omega (arith, rest, counted, full, count-on true (take (suc i) relevant))
reached-to cap lower (false ∷ relevant) (other ∷ others) (suc i) long within is full =
    let counted = count-on other (take i others) in
    reached-to cap (lower + as_number other) relevant others i (omega (arith, long)) (omega (arith, within)) is (omega (arith, counted, full))
    ∙ sym (count-on false (take (suc i) relevant) ∙ zero-add (count_on (take (suc i) relevant)))

-- all of them where no place has more than the cap above it
pub reached-all : (cap lower : ℕ) (relevant others : List Bool) → length others ≡ length relevant → lower + count_on others ≤ cap
    → cap_reached_places cap lower relevant others ≡ count_on relevant
reached-all cap lower [] others long few = refl
reached-all cap lower (r ∷ relevant) [] long few = absurd (omega (arith, long))
reached-all cap lower (true ∷ relevant) (other ∷ others) long few =
    let counted = count-on other others in
    let rest = reached-all cap (lower + as_number other) relevant others (omega (arith, long)) (omega (arith, counted, few)) in
    omega (arith, rest, counted, few, count-on true relevant)
reached-all cap lower (false ∷ relevant) (other ∷ others) long few =
    let counted = count-on other others in
    reached-all cap (lower + as_number other) relevant others (omega (arith, long)) (omega (arith, counted, few))
    ∙ sym (count-on false relevant ∙ zero-add (count_on relevant))

one_less : (all few cap lower : ℕ) → (cap < lower → all ≡ 0) → all - few ≡ 1 - (lower - cap) + all - (1 + few)
one_less all few cap lower none =
    elim (leb_tells lower cap)
    [ inl h ↦ (let less = h.1 in omega (arith, less)) | inr h ↦ (let past = none h.1 in let more = h.1 in omega (arith, past, more)) ]

-- past a place
pub reached-past : (cap lower : ℕ) (relevant others : List Bool) (j : ℕ) → length others ≡ length relevant
    → cap_reached_places cap (lower + count_on (take j others)) (drop j relevant) (drop j others)
    ≡ cap_reached_places cap lower relevant others - count_on (take j relevant)
reached-past cap lower relevant others zero long = let none : lower + 0 ≡ lower = omega arith in
    ap (λ n. cap_reached_places cap n relevant others) none ∙ minus_none (cap_reached_places cap lower relevant others)
  where
    minus_none : (n : ℕ) → n ≡ n - 0
    minus_none n = omega arith
reached-past cap lower [] others (suc j) long = refl
reached-past cap lower (r ∷ relevant) [] (suc j) long = absurd (omega (arith, long))
reached-past cap lower (true ∷ relevant) (other ∷ others) (suc j) long =
    let counted : lower + count_on (other ∷ take j others) ≡ lower + as_number other + count_on (take j others) =
    omega (arith, count-on other (take j others)) in
    ap (λ n. cap_reached_places cap n (drop j relevant) (drop j others)) counted
    ∙ reached-past cap (lower + as_number other) relevant others j (omega (arith, long))
    ∙ one_less (cap_reached_places cap (lower + as_number other) relevant others) (count_on (take j relevant)) cap lower
    (λ past. reached-none cap (lower + as_number other) relevant others (omega (arith, past)))
    ∙ ap (λ n. 1 - (lower - cap) + cap_reached_places cap (lower + as_number other) relevant others - n) (sym (count-on true (take j relevant)))
reached-past cap lower (false ∷ relevant) (other ∷ others) (suc j) long =
    let counted : lower + count_on (other ∷ take j others) ≡ lower + as_number other + count_on (take j others) =
    omega (arith, count-on other (take j others)) in
    let same : count_on (take j relevant) ≡ count_on (false ∷ take j relevant) =
    sym (count-on false (take j relevant) ∙ zero-add (count_on (take j relevant))) in
    ap (λ n. cap_reached_places cap n (drop j relevant) (drop j others)) counted
    ∙ reached-past cap (lower + as_number other) relevant others j (omega (arith, long))
    ∙ ap (λ n. cap_reached_places cap (lower + as_number other) relevant others - n) same
