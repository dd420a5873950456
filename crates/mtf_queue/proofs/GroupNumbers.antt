-- Groups numbered by how many runs stand in lower ones.
use Rattle.std.proofs.Common.{◌≡◌, ◌≢◌, ℕ, ◌+◌, ◌*◌, ◌<◌, ◌≤◌, Bool, true, false, cond, eqb, ltb, List, [], length, get_or, set, map, replicate, take, sum, refl, sym, ap, ◌∙◌, subst, arith, Less, Equal, Greater, Some, max, ◌∷◌}
use Rattle.std.specs.List.{All}
use Rattle.std.specs.Ordering.{MatchOrdering, nat_cmp}
use Rattle.std.specs.declared.cmp.Ordering.{Ordering}
use Rattle.std.proofs.lemmas.Bool.{false≢true}
use Rattle.std.proofs.lemmas.Bool.Decides.{nat_tests}
use Rattle.std.proofs.lemmas.Cmp.{ranked}
use Rattle.std.proofs.lemmas.List.{get_or-map, get_or-replicate, get_or-set_other, get_or-set_same, get_or-take, get_or_default, length-map, length-replicate, length-set, length-take-le, take-take}
use Rattle.std.proofs.lemmas.List.Folds.{sum_by-replicate}
use Rattle.std.proofs.lemmas.List.Sums.{count_by_more_no, count_by_more_yes, get_or-le-sum_by, sum_by-set, sum_by_more, sum_by_more_le}
use Rattle.std.proofs.Math.Nat.{le-max_left, le-max_right}
use borrow.Author.Tests.{eqb-true}
use Rattle.depth_pool.specs.declared.runs.RunId.{RunId}
use Rattle.depth_pool.specs.Holdings.{has_id}
use Rattle.mtf_queue.specs.declared.groups.Member.{Member}
use Rattle.mtf_queue.specs.Groups.{AreFewGroups, AreSizes, AreSumsBefore, AreToldApart, StandAlike, group_size, half_of, member_run, numbered_by}
use Rattle.mtf_queue.specs.Rule.{side}
use Rattle.mtf_queue.proofs.GroupOrder.{cmp_less, cmp_more, cmp_same, side_few}

-- ---- the loop that counts

pub none-counted : (count : ℕ) → AreSizes (replicate count 0) []
none-counted count = record {
  each = λ group h. get_or-replicate count group 0 0 (omega (arith, length-replicate {A = ℕ} count 0));
  total = omega (arith, sum_by-replicate (λ n. n) count 0);
}

-- one more member, with the size of its group
pub more-counted : (sizes : List ℕ) (members : List Member) (at : ℕ) (d : Member) (size : ℕ) → at < length members
    → (get_or members at d).group < length sizes → size ≡ get_or sizes (get_or members at d).group size
    → AreSizes sizes (take at members) → AreSizes (set sizes (get_or members at d).group (size + 1)) (take (at + 1) members)
more-counted sizes members at d size h within is was = record {
  each = λ group inside. step group (omega (arith, inside, length-set sizes here (size + 1))) (eqb here group) refl;
  total =
      omega (
        arith,
        sum_by-set (λ n. n) sizes here (size + 1) size within,
        is,
        was.total,
        length-take-le at members (omega arith),
        length-take-le (at + 1) members (omega arith),
      );
}
  where
    here : ℕ
    here = (get_or members at d).group

    old-size : size ≡ group_size here (take at members)
    old-size = is ∙ get_or_default sizes here size 0 within ∙ was.each here within

    step : (group : ℕ) → group < length sizes → (t : Bool) → eqb here group ≡ t
        → get_or (set sizes here (size + 1)) group 0 ≡ group_size group (take (at + 1) members)
    step group inside true e =
        let same : here ≡ group = eqb-true here group e in
        ap (λ n. get_or (set sizes here (size + 1)) n 0) (sym same) ∙ get_or-set_same sizes here (size + 1) 0 within
        ∙ ap (λ n. n + 1) (old-size ∙ ap (λ n. group_size n (take at members)) same)
        ∙ sym (count_by_more_yes (λ (m : Member). eqb m.group group) members at d h e)
    step group inside false e =
        get_or-set_other sizes here group (size + 1) 0 (apart group e) ∙ was.each group inside
        ∙ sym (count_by_more_no (λ (m : Member). eqb m.group group) members at d h e)
      where
        apart : (group : ℕ) → eqb here group ≡ false → group ≢ here
        apart group e same = grind (arith, nat_tests)

-- ---- the loop that adds up

-- of the numbers below an index the sums stand in their places, and the others are as they were
pub record IsAddedUp (old now : List ℕ) (at before largest : ℕ) : Type 0 where
  pub sums : (k : ℕ) → k < at → get_or now k 0 ≡ sum (take k old)
  pub rest : (k : ℕ) → at ≤ k → get_or now k 0 ≡ get_or old k 0
  pub len : length now ≡ length old
  pub sum_is : before ≡ sum (take at old)
  pub within : (k : ℕ) → k < at → get_or old k 0 ≤ largest

pub none-added : (old : List ℕ) → IsAddedUp old old 0 0 0
none-added old = record {
  sums = λ k h. absurd (omega arith);
  rest = λ k h. refl;
  len = refl;
  sum_is = refl;
  within = λ k h. absurd (omega arith);
}

pub size-read : (old now : List ℕ) (at before largest size : ℕ) → IsAddedUp old now at before largest
    → at < length old → size ≡ get_or now at size → size ≡ get_or old at 0
size-read old now at before largest size was h is = is ∙ get_or_default now at size 0 (omega (arith, was.len)) ∙ was.rest at (omega arith)

pub more-added : (old now : List ℕ) (at before largest size : ℕ) → IsAddedUp old now at before largest → at < length old → size ≡ get_or now at size
    → IsAddedUp old (set now at before) (at + 1) (before + size) (max size largest)
more-added old now at before largest size was h is = record {
  sums = λ k l. step k l (eqb k at) refl;
  rest = λ k l. get_or-set_other now at k before 0 (apart k l) ∙ was.rest k (omega arith);
  len = length-set now at before ∙ was.len;
  sum_is = omega (arith, sum_by_more (λ n. n) old at 0 h, was.sum_is, size-is);
  within = λ k l. most k l (eqb k at) refl;
}
  where
    size-is : size ≡ get_or old at 0
    size-is = size-read old now at before largest size was h is

    apart : (k : ℕ) → at + 1 ≤ k → k ≢ at
    apart k l same = absurd (omega arith)

    other : (k : ℕ) → eqb k at ≡ false → k ≢ at
    other k e same = grind (arith, nat_tests)

    lower : (k : ℕ) → k < at + 1 → k ≢ at → k < at
    lower k l apart = grind (arith, nat_tests)

    step : (k : ℕ) → k < at + 1 → (t : Bool) → eqb k at ≡ t → get_or (set now at before) k 0 ≡ sum (take k old)
    step k l true e =
        let same : k ≡ at = eqb-true k at e in
        ap (λ n. get_or (set now at before) n 0) same ∙ get_or-set_same now at before 0 (omega (arith, was.len))
        ∙ was.sum_is ∙ ap (λ n. sum (take n old)) (sym same)
    step k l false e = get_or-set_other now at k before 0 (other k e) ∙ was.sums k (lower k l (other k e))

    most : (k : ℕ) → k < at + 1 → (t : Bool) → eqb k at ≡ t → get_or old k 0 ≤ max size largest
    most k l true e =
        let same : k ≡ at = eqb-true k at e in
        let here : get_or old k 0 ≡ size = ap (λ n. get_or old n 0) same ∙ sym size-is in
        omega (arith, le-max_left size largest, here)
    most k l false e = omega (arith, le-max_right size largest, was.within k (lower k l (other k e)))

-- the sum stays small
pub sum-fits : (old now : List ℕ) (at before largest size : ℕ) → IsAddedUp old now at before largest
    → at < length old → size ≡ get_or now at size → before + size ≤ sum old
sum-fits old now at before largest size was h is =
    omega (arith, sum_by_more_le (λ n. n) old at 0 h, was.sum_is, size-read old now at before largest size was h is)

pub all-largest : (old now : List ℕ) (at before largest : ℕ) → IsAddedUp old now at before largest → length old ≤ at → All (λ size. size ≤ largest) old
all-largest old now at before largest was end k d h = omega (arith, was.within k (omega arith), get_or_default old k d 0 h)

-- ---- sums of sizes

sums-rise : (sizes : List ℕ) (a b : ℕ) → a < b → b ≤ length sizes → sum (take a sizes) + get_or sizes a 0 ≤ sum (take b sizes)
sums-rise sizes a b h within =
    omega (
      arith,
      sum_by_more_le (λ n. n) (take b sizes) a 0 (omega (arith, length-take-le b sizes within)),
      ap sum (take-take a b sizes (omega arith)),
      get_or-take b sizes a 0 h,
    )

-- a member is of its group
of-group : (n : ℕ) → ◌≡◌ {A = ℕ} (cond (eqb n n) 1 0) 1
of-group n = same (eqb n n) (let e : eqb n n ≡ true = grind (arith, nat_tests) in e)
  where
    same : (t : Bool) → t ≡ true → ◌≡◌ {A = ℕ} (cond t 1 0) 1
    same true e = refl
    same false e = absurd (false≢true e)

some-of-group : (members : List Member) (k : ℕ) (d : Member) → k < length members → 1 ≤ group_size (get_or members k d).group members
some-of-group members k d h =
    let group = (get_or members k d).group in
    let counted : cond (eqb group group) 1 0 ≤ group_size group members = get_or-le-sum_by (λ (m : Member). cond (eqb m.group group) 1 0) members k d h in
    omega (arith, counted, of-group group)

-- two members of a group are counted both
two-of-group : (members : List Member) (i j : ℕ) (d : Member) → i < j → j < length members → (get_or members i d).group ≡ (get_or members j d).group
    → 2 ≤ group_size (get_or members j d).group members
two-of-group members i j d h l same =
    let group = (get_or members j d).group in
    let one : Member → ℕ = λ m. cond (eqb m.group group) 1 0 in
    let first : cond (eqb (get_or (take j members) i d).group group) 1 0 ≤ group_size group (take j members) =
    get_or-le-sum_by one (take j members) i d (omega (arith, length-take-le j members (omega arith))) in
    let second : group_size group (take j members) + cond (eqb group group) 1 0 ≤ group_size group members = sum_by_more_le one members j d l in
    let is : (get_or (take j members) i d).group ≡ group = ap (λ (m : Member). m.group) (get_or-take j members i d h) ∙ same in
    let here : ◌≡◌ {A = ℕ} (cond (eqb (get_or (take j members) i d).group group) 1 0) 1 =
    ap (λ n. let m : ℕ = cond (eqb n group) 1 0 in m) is ∙ of-group group in
    omega (arith, first, second, here, of-group group)

-- ---- groups that are numbered

module _ (sizes numbers : List ℕ) (members : List Member) (are : AreSizes sizes members) (sums : AreSumsBefore sizes numbers)
    (within : All (λ member. member.group < length sizes) members) where
  abbrev number_at : ℕ → Member → ℕ
  number_at k d = get_or numbers (get_or members k d).group 0

  size-at : (k : ℕ) (d : Member) → k < length members → get_or sizes (get_or members k d).group 0 ≡ group_size (get_or members k d).group members
  size-at k d h = are.each (get_or members k d).group (within k d h)

  -- a lower group has a lower number
  lower : (i j : ℕ) (d e : Member) → i < length members → j < length members
      → (get_or members i d).group < (get_or members j e).group → number_at i d < number_at j e
  lower i j d e h l less =
      let a = (get_or members i d).group in
      let b = (get_or members j e).group in
      omega (
        arith,
        sums a (within i d h),
        sums b (within j e l),
        sums-rise sizes a b less (let w = within j e l in omega (arith, w)),
        size-at i d h,
        some-of-group members i d h,
      )

  pub numbers-compare : (i j : ℕ) (d e : Member) → i < length members → j < length members
      → nat_cmp (number_at i d) (number_at j e) ≡ nat_cmp (get_or members i d).group (get_or members j e).group
  numbers-compare i j d e h l =
      step (nat_cmp (get_or members i d).group (get_or members j e).group) refl
      (ranked (get_or members i d).group (get_or members j e).group (nat_cmp (get_or members i d).group (get_or members j e).group) refl)
    where
      step : (o : Ordering) → nat_cmp (get_or members i d).group (get_or members j e).group ≡ o
          → MatchOrdering o ((get_or members i d).group < (get_or members j e).group) ((get_or members i d).group ≡ (get_or members j e).group)
          ((get_or members j e).group < (get_or members i d).group)
          → nat_cmp (number_at i d) (number_at j e) ≡ nat_cmp (get_or members i d).group (get_or members j e).group
      step Less is less = cmp_less (number_at i d) (number_at j e) (lower i j d e h l less) ∙ sym is
      step Equal is same = cmp_same (number_at i d) (number_at j e) (ap (λ n. get_or numbers n 0) same) ∙ sym is
      step Greater is more = cmp_more (number_at i d) (number_at j e) (lower j i e d l h more) ∙ sym is

  number-is : (k : ℕ) (d : Member) → k < length members → (get_or (map (numbered_by numbers) members) k d).group ≡ number_at k d
  number-is k d h = ap (λ (m : Member). m.group) (get_or-map (numbered_by numbers) members k d d h)

  pub alike-numbered : (new : List Member) → new ≡ map (numbered_by numbers) members → StandAlike members new
  alike-numbered new is i j d h l =
      ap (λ list. nat_cmp (get_or list i d).group (get_or list j d).group) is
      ∙ ap (λ n. nat_cmp n (get_or (map (numbered_by numbers) members) j d).group) (number-is i d h)
      ∙ ap (nat_cmp (number_at i d)) (number-is j d l)
      ∙ numbers-compare i j d d h l

  pub few-numbered : (new : List Member) → new ≡ map (numbered_by numbers) members → AreFewGroups new
  few-numbered new is = subst AreFewGroups (sym is) few
    where
      few : AreFewGroups (map (numbered_by numbers) members)
      few k d h =
          let inside : k < length members = omega (arith, length-map members (numbered_by numbers)) in
          let group = (get_or members k d).group in
          omega (
            arith,
            length-map members (numbered_by numbers),
            number-is k d inside,
            sums group (within k d inside),
            sum_by_more_le (λ n. n) sizes group 0 (within k d inside),
            are.total,
            size-at k d inside,
            some-of-group members k d inside,
          )

  -- groups of at most one run
  pub apart-numbered : (most : ℕ) → All (λ size. size ≤ most) sizes → most ≤ 1 → (new : List Member)
      → new ≡ map (numbered_by numbers) members → AreToldApart new
  apart-numbered most fewest few new is = subst AreToldApart (sym is) apart
    where
      small : (k : ℕ) (d : Member) → k < length members → group_size (get_or members k d).group members ≤ 1
      small k d h = omega (arith, size-at k d h, fewest (get_or members k d).group 0 (within k d h), few)

      -- members of one group stand at one place
      one-place : (i j : ℕ) (d : Member) → i < length members → j < length members → (get_or members i d).group ≡ (get_or members j d).group → i ≡ j
      one-place i j d h l same = step (nat_cmp i j) (ranked i j (nat_cmp i j) refl)
        where
          step : (o : Ordering) → MatchOrdering o (i < j) (i ≡ j) (j < i) → i ≡ j
          step Less less = absurd (omega (arith, two-of-group members i j d less l same, small j d l))
          step Equal e = e
          step Greater more = absurd (omega (arith, two-of-group members j i d more h (sym same), small i d h))

      one-group : (i j : ℕ) (d : Member) → i < length members → j < length members → number_at i d ≡ number_at j d
          → (get_or members i d).group ≡ (get_or members j d).group
      one-group i j d h l same =
          step (nat_cmp (get_or members i d).group (get_or members j d).group)
          (ranked (get_or members i d).group (get_or members j d).group (nat_cmp (get_or members i d).group (get_or members j d).group) refl)
        where
          step : (o : Ordering)
              → MatchOrdering o ((get_or members i d).group < (get_or members j d).group) ((get_or members i d).group ≡ (get_or members j d).group)
              ((get_or members j d).group < (get_or members i d).group)
              → (get_or members i d).group ≡ (get_or members j d).group
          step Less less = absurd (omega (arith, lower i j d d h l less, same))
          step Equal e = e
          step Greater more = absurd (omega (arith, lower j i d d l h more, same))

      apart : AreToldApart (map (numbered_by numbers) members)
      apart i d h j e l same =
          let new_members = map (numbered_by numbers) members in
          let inside : i < length members = omega (arith, length-map members (numbered_by numbers)) in
          let inside' : j < length members = omega (arith, length-map members (numbered_by numbers)) in
          let default : get_or new_members j e ≡ get_or new_members j d = get_or_default new_members j e d l in
          let numbers_same : number_at i d ≡ number_at j d = sym (number-is i d inside) ∙ same ∙ ap (λ (m : Member). m.group) default ∙ number-is j d inside' in
          let place : i ≡ j = one-place i j d inside inside' (one-group i j d inside inside' numbers_same) in
          ap (λ n. (get_or new_members n d).run) place ∙ sym (ap (λ (m : Member). m.run) default)

pub not-more : (most : ℕ) → ltb 1 most ≡ false → most ≤ 1
not-more most e = grind (arith, nat_tests)

-- runs keep their places
pub runs_numbered : (numbers : List ℕ) (members : List Member) → map member_run (map (numbered_by numbers) members) ≡ map member_run members
runs_numbered numbers [] = refl
runs_numbered numbers (member ∷ members) = ap (λ runs. member.run ∷ runs) (runs_numbered numbers members)

-- the numbers of halves
pub halves_few : (holders : List RunId) (relevant : Bool) (members : List Member) → AreFewGroups members
    → All (λ member. member.group < 2 * length (map (half_of holders relevant) members)) (map (half_of holders relevant) members)
halves_few holders relevant members few k d h =
    let half = half_of holders relevant in
    let inside : k < length members = omega (arith, length-map members half) in
    let member = get_or members k d in
    let is : (get_or (map half members) k d).group ≡ 2 * member.group + side (Some relevant) (has_id member.run holders) =
    ap (λ (m : Member). m.group) (get_or-map half members k d d inside) in
    omega (arith, is, few k d inside, side_few (Some relevant) (has_id member.run holders), length-map members half)
