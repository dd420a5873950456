-- Groups that documents cut: their numbers stand as the documents put the runs.
use Rattle.std.proofs.Common.{◌≡◌, ◌≢◌, ℕ, ◌+◌, ◌*◌, ◌<◌, ◌≤◌, Bool, true, false, ltb, List, [], ◌∷◌, ◌++◌, length, get_or, take, drop, map, reverse, refl, sym, ap, ◌∙◌, ◌⊎◌, inl, inr, subst, Option, Some, None, arith, Less, Equal, Greater}
use Rattle.std.specs.Cmp.{IsTotalOrder}
use Rattle.std.specs.List.{All, AllPairs}
use Rattle.std.specs.List.Sorted.{IsPermutation, IsSortedBy}
use Rattle.std.specs.Ordering.{MatchOrdering, is_lt, nat_cmp, ordering_then}
use Rattle.std.specs.declared.cmp.Ordering.{Ordering}
use Rattle.std.proofs.lemmas.Bool.{false≢true}
use Rattle.std.proofs.lemmas.Bool.Decides.{nat_tests}
use Rattle.std.proofs.lemmas.Cmp.{nat_cmp_total, on_total, ranked, then_total}
use Rattle.std.proofs.lemmas.List.{append_assoc, get_or-map, get_or_default, length-map, reverse-append, take-append-drop}
use Rattle.std.proofs.lemmas.List.Elements.{All-weaker}
use Rattle.std.proofs.lemmas.List.Sorted.{All-permutation, IsPermutation-map, IsPermutation-trans, ranks_by, sorted_far}
use borrow.Author.Tests.{ltb-true}
use Rattle.decimal_rank.specs.declared.naming.DocId.{DocId}
use Rattle.depth_pool.specs.declared.runs.RunId.{RunId}
use Rattle.depth_pool.specs.Holdings.{has_id}
use Rattle.mtf_queue.specs.declared.groups.Member.{Member}
use Rattle.mtf_queue.specs.declared.rule.Judged.{Judged}
use Rattle.mtf_queue.specs.Groups.{AreFewGroups, AreGrouped, AreMembersByRun, AreSorted, AreToldApart, StandAlike, docs_cmp, first_group, half_of, member_run}
use Rattle.mtf_queue.specs.Rule.{HoldingRule, IsBefore, rule_cmp, side}
use Rattle.mtf_queue.proofs.RunComparisons.{before_from_less}

-- ---- comparisons of numbers

pub cmp_less : (a b : ℕ) → a < b → nat_cmp a b ≡ Less
cmp_less a b h = grind (arith, nat_tests)

pub cmp_same : (a b : ℕ) → a ≡ b → nat_cmp a b ≡ Equal
cmp_same a b h = grind (arith, nat_tests)

pub cmp_more : (a b : ℕ) → b < a → nat_cmp a b ≡ Greater
cmp_more a b h = grind (arith, nat_tests)

-- half a group is compared by its group, and in it by its side
halves_cmp : (a b x y : ℕ) → x ≤ 1 → y ≤ 1 → nat_cmp (2 * a + x) (2 * b + y) ≡ ordering_then (nat_cmp a b) (nat_cmp x y)
halves_cmp a b x y few few' = step (nat_cmp a b) refl (ranked a b (nat_cmp a b) refl)
  where
    inner : a ≡ b → (o : Ordering) → nat_cmp x y ≡ o → MatchOrdering o (x < y) (x ≡ y) (y < x) → nat_cmp (2 * a + x) (2 * b + y) ≡ o
    inner same Less e h = cmp_less (2 * a + x) (2 * b + y) (omega arith)
    inner same Equal e h = cmp_same (2 * a + x) (2 * b + y) (omega arith)
    inner same Greater e h = cmp_more (2 * a + x) (2 * b + y) (omega arith)

    step : (o : Ordering) → nat_cmp a b ≡ o → MatchOrdering o (a < b) (a ≡ b) (b < a)
        → nat_cmp (2 * a + x) (2 * b + y) ≡ ordering_then (nat_cmp a b) (nat_cmp x y)
    step Less e h = cmp_less (2 * a + x) (2 * b + y) (omega arith) ∙ ap (λ o. ordering_then o (nat_cmp x y)) (sym e)
    step Equal e h = inner h (nat_cmp x y) refl (ranked x y (nat_cmp x y) refl) ∙ ap (λ o. ordering_then o (nat_cmp x y)) (sym e)
    step Greater e h = cmp_more (2 * a + x) (2 * b + y) (omega arith) ∙ ap (λ o. ordering_then o (nat_cmp x y)) (sym e)

pub side_few : (grade : Option Bool) (held : Bool) → side grade held ≤ 1
side_few None held = omega arith
side_few (Some true) true = omega arith
side_few (Some true) false = omega arith
side_few (Some false) true = omega arith
side_few (Some false) false = omega arith

-- ---- the documents that were looked at, and the older ones

then_assoc : (a b c : Ordering) → ordering_then (ordering_then a b) c ≡ ordering_then a (ordering_then b c)
then_assoc Less b c = refl
then_assoc Equal b c = refl
then_assoc Greater b c = refl

then_nothing : (o : Ordering) → ordering_then o Equal ≡ o
then_nothing Less = refl
then_nothing Equal = refl
then_nothing Greater = refl

rule-docs : (held : HoldingRule) (docs older : List Judged) (r s : RunId)
    → rule_cmp held (reverse docs ++ older) r s ≡ ordering_then (docs_cmp held docs r s) (rule_cmp held older r s)
rule-docs held [] older r s = refl
rule-docs held (judged ∷ newer) older r s =
    ap (λ newest. rule_cmp held newest r s) (ap (λ docs. docs ++ older) (reverse-append (judged ∷ []) newer) ∙ append_assoc (reverse newer) (judged ∷ []) older)
    ∙ rule-docs held newer (judged ∷ older) r s
    ∙ sym (then_assoc (docs_cmp held newer r s) (nat_cmp (side judged.relevant (held r judged.doc)) (side judged.relevant (held s judged.doc)))
    (rule_cmp held older r s))

rule-left : (held : HoldingRule) (trail : List Judged) (left : ℕ) (r s : RunId)
    → rule_cmp held (reverse trail) r s ≡ ordering_then (docs_cmp held (drop left trail) r s) (rule_cmp held (reverse (take left trail)) r s)
rule-left held trail left r s =
    ap (λ docs. rule_cmp held (reverse docs) r s) (sym (take-append-drop left trail))
    ∙ ap (λ newest. rule_cmp held newest r s) (reverse-append (take left trail) (drop left trail))
    ∙ rule-docs held (drop left trail) (reverse (take left trail)) r s

-- ---- one more document

-- a document with no grade cuts no group
pub grouped_ungraded : (held : HoldingRule) (docs : List Judged) (judged : Judged) (members : List Member) → judged.relevant ≡ None
    → AreGrouped held docs members → AreGrouped held (judged ∷ docs) members
grouped_ungraded held docs judged members ungraded was i d h j e l =
    was i d h j e l
    ∙ sym (then_nothing (docs_cmp held docs (get_or members i d).run (get_or members j e).run))
    ∙ sym (ap (λ g. ordering_then (docs_cmp held docs (get_or members i d).run (get_or members j e).run)
    (nat_cmp (side g (held (get_or members i d).run judged.doc)) (side g (held (get_or members j e).run judged.doc)))) ungraded)

module _ (held : HoldingRule) (docs : List Judged) (doc : DocId) (relevant : Bool) (holders : List RunId)
    (same : (run : RunId) → has_id run holders ≡ held run doc) where
  abbrev judged_now : Judged
  judged_now = record { doc = doc; relevant = Some relevant }

  abbrev side_of : Member → ℕ
  side_of member = side (Some relevant) (has_id member.run holders)

  one_halved : (p q : Member) → nat_cmp p.group q.group ≡ docs_cmp held docs p.run q.run
      → nat_cmp (half_of holders relevant p).group (half_of holders relevant q).group ≡ docs_cmp held (judged_now ∷ docs) p.run q.run
  one_halved p q was =
      halves_cmp p.group q.group (side_of p) (side_of q) (side_few (Some relevant) (has_id p.run holders)) (side_few (Some relevant) (has_id q.run holders))
      ∙ ap (λ o. ordering_then o (nat_cmp (side_of p) (side_of q))) was
      ∙ ap (λ b. ordering_then (docs_cmp held docs p.run q.run) (nat_cmp (side (Some relevant) b) (side_of q))) (same p.run)
      ∙ ap (λ b. ordering_then (docs_cmp held docs p.run q.run) (nat_cmp (side (Some relevant) (held p.run doc)) (side (Some relevant) b))) (same q.run)

  pub grouped_halved : (members : List Member) → AreGrouped held docs members → AreGrouped held (judged_now ∷ docs) (map (half_of holders relevant) members)
  grouped_halved members was i d h j e l =
      let within : i < length members = omega (arith, length-map members (half_of holders relevant)) in
      let within' : j < length members = omega (arith, length-map members (half_of holders relevant)) in
      let Q : Member → Member → Type 0 = λ p q. nat_cmp p.group q.group ≡ docs_cmp held (judged_now ∷ docs) p.run q.run in
      subst (λ p. Q p (get_or (map (half_of holders relevant) members) j e)) (sym (get_or-map (half_of holders relevant) members i d d within))
      (subst (Q (half_of holders relevant (get_or members i d))) (sym (get_or-map (half_of holders relevant) members j e e within'))
      (one_halved (get_or members i d) (get_or members j e) (was i d within j e within')))

pub grouped_permuted : (held : HoldingRule) (docs : List Judged) (members sorted : List Member) → IsPermutation members sorted
    → AreGrouped held docs members → AreGrouped held docs sorted
grouped_permuted held docs members sorted permuted was =
    let R : Member → Member → Type 0 = λ p q. nat_cmp p.group q.group ≡ docs_cmp held docs p.run q.run in
    All-permutation (λ p. All (R p) sorted) members sorted permuted
    (All-weaker (λ p. All (R p) members) (λ p. All (R p) sorted) (λ p each. All-permutation (R p) members sorted permuted each) members was)

-- ---- from runs to members, and back

pub pairs_of_runs : (R : RunId → RunId → Type 0) (members : List Member) → AllPairs R (map member_run members) → AllPairs (λ p q. R p.run q.run) members
pairs_of_runs R members pairs i j d l m =
    subst (λ r. R r (get_or members j d).run) (get_or-map member_run members i d d.run (omega arith))
    (subst (R (get_or (map member_run members) i d.run)) (get_or-map member_run members j d d.run m)
    (pairs i j d.run l (omega (arith, length-map members member_run))))

pub runs_of_pairs : (R : RunId → RunId → Type 0) (members : List Member) → AllPairs (λ p q. R p.run q.run) members → AllPairs R (map member_run members)
runs_of_pairs R members pairs i j d l m =
    let none : Member = record { group = 0; run = d } in
    let within : j < length members = omega (arith, length-map members member_run) in
    subst (λ r. R r (get_or (map member_run members) j d)) (sym (get_or-map member_run members i none d (omega arith)))
    (subst (R (get_or members i none).run) (sym (get_or-map member_run members j none d within)) (pairs i j none l within))

-- ---- the order of a sort

abbrev pub member_cmp : Member → Member → Ordering
member_cmp p q = ordering_then (nat_cmp p.group q.group) (nat_cmp p.run.0 q.run.0)

member_total : IsTotalOrder member_cmp
member_total = then_total (on_total (λ (m : Member). m.group) nat_cmp_total) (on_total (λ (m : Member). m.run.0) nat_cmp_total)

at_most : (x y : ℕ) → is_lt (nat_cmp y x) ≡ false → x ≤ y
at_most x y e = grind (arith, nat_tests)

not_less : (a b x y : ℕ) → is_lt (ordering_then (nat_cmp b a) (nat_cmp y x)) ≡ false → (a < b) ⊎ ((a ≡ b) × (x ≤ y))
not_less a b x y e = step (nat_cmp b a) refl (ranked b a (nat_cmp b a) refl)
  where
    step : (o : Ordering) → nat_cmp b a ≡ o → MatchOrdering o (b < a) (b ≡ a) (a < b) → (a < b) ⊎ ((a ≡ b) × (x ≤ y))
    step Less is h = absurd (false≢true (sym e ∙ ap (λ o. is_lt (ordering_then o (nat_cmp y x))) is))
    step Equal is h = inr (sym h, at_most x y (sym (ap (λ o. is_lt (ordering_then o (nat_cmp y x))) is) ∙ e))
    step Greater is h = inl h

pub sorted_pairs : (members : List Member) → IsSortedBy (λ p q. is_lt (member_cmp p q)) members → AreSorted members
sorted_pairs members sorted i j d l m =
    not_less (get_or members i d).group (get_or members j d).group (get_or members i d).run.0 (get_or members j d).run.0
    (sorted_far (λ p q. is_lt (member_cmp p q)) (ranks_by member_total (λ m. m)) members sorted i j d (omega arith) m)

-- members of one group are sorted by run
pub sorted_by_run : (members : List Member) → All (λ member. member.group ≡ 0) members → AreSorted members → AreMembersByRun members
sorted_by_run members none sorted =
    runs_of_pairs (λ r s. r.0 ≤ s.0) members
    (λ i j d l m. later (get_or members i d) (get_or members j d) (none i d (omega arith)) (none j d m) (sorted i j d l m))
  where
    later : (p q : Member) → p.group ≡ 0 → q.group ≡ 0 → (p.group < q.group) ⊎ ((p.group ≡ q.group) × (p.run.0 ≤ q.run.0)) → p.run.0 ≤ q.run.0
    later p q first second (inl less) = absurd (omega (arith, first, second))
    later p q first second (inr tied) = tied.1

-- ---- groups that are numbered anew

run_at : (old new : List Member) (k : ℕ) (d : Member) → map member_run new ≡ map member_run old → length new ≡ length old
    → k < length old → (get_or new k d).run ≡ (get_or old k d).run
run_at old new k d same len h =
    sym (get_or-map member_run new k d d.run (omega arith)) ∙ ap (λ runs. get_or runs k d.run) same ∙ get_or-map member_run old k d d.run h

pub same_length : (old new : List Member) → map member_run new ≡ map member_run old → length new ≡ length old
same_length old new same = sym (length-map new member_run) ∙ ap length same ∙ length-map old member_run

pub grouped_numbered : (held : HoldingRule) (docs : List Judged) (old new : List Member) → map member_run new ≡ map member_run old
    → StandAlike old new → AreGrouped held docs old → AreGrouped held docs new
grouped_numbered held docs old new same alike was i d h j e l =
    let len = same_length old new same in
    let within : i < length old = omega arith in
    let within' : j < length old = omega arith in
    ap (λ m. nat_cmp (get_or new i d).group m.group) (get_or_default new j e d l)
    ∙ alike i j d within within'
    ∙ was i d within j d within'
    ∙ sym (ap (λ r. docs_cmp held docs r (get_or old j d).run) (run_at old new i d same len within))
    ∙ sym (ap (λ r. docs_cmp held docs (get_or new i d).run r) (run_at old new j d same len within'))
    ∙ ap (λ m. docs_cmp held docs (get_or new i d).run m.run) (get_or_default new j d e l)

-- ---- a document that cuts

pub runs_halved : (holders : List RunId) (relevant : Bool) (members : List Member)
    → map member_run (map (half_of holders relevant) members) ≡ map member_run members
runs_halved holders relevant [] = refl
runs_halved holders relevant (member ∷ members) = ap (λ runs. member.run ∷ runs) (runs_halved holders relevant members)

pub grouped_cut : (held : HoldingRule) (docs : List Judged) (doc : DocId) (relevant : Bool) (holders : List RunId)
    → ((run : RunId) → has_id run holders ≡ held run doc)
    → (members halves numbered : List Member) → halves ≡ map (half_of holders relevant) members
    → map member_run numbered ≡ map member_run halves → StandAlike halves numbered
    → AreGrouped held docs members → AreGrouped held (record { doc = doc; relevant = Some relevant } ∷ docs) numbered
grouped_cut held docs doc relevant holders same members halves numbered is runs alike was =
    let docs_now : List Judged = record { doc = doc; relevant = Some relevant } ∷ docs in
    grouped_numbered held docs_now halves numbered runs alike
    (subst (AreGrouped held docs_now) (sym is) (grouped_halved held docs doc relevant holders same members was))

-- ---- the order at the end

same_number : (a b : ℕ) → a ≤ b → ltb a b ≡ false → a ≡ b
same_number a b h e = grind (arith, nat_tests)

in_order_pair : (held : HoldingRule) (trail : List Judged) (left : ℕ) (p q : Member)
    → nat_cmp p.group q.group ≡ docs_cmp held (drop left trail) p.run q.run → p.run ≢ q.run
    → (p.group < q.group) ⊎ ((p.group ≡ q.group) × (p.run.0 ≤ q.run.0)) → (left ≡ 0) ⊎ (p.group < q.group) → IsBefore held trail p.run q.run
in_order_pair held trail left p q grouped differ (inl less) ends = before_from_less held trail p.run q.run
    (rule-left held trail left p.run q.run
    ∙ ap (λ o. ordering_then o (rule_cmp held (reverse (take left trail)) p.run q.run)) (sym grouped ∙ cmp_less p.group q.group less))
in_order_pair held trail left p q grouped differ (inr tied) (inr less) = absurd (omega (arith, tied.0))
in_order_pair held trail left p q grouped differ (inr tied) (inl none) = before_from_less held trail p.run q.run
    (rule-left held trail left p.run q.run
    ∙ ap (λ o. ordering_then o (rule_cmp held (reverse (take left trail)) p.run q.run)) (sym grouped ∙ cmp_same p.group q.group tied.0)
    ∙ ap (λ n. rule_cmp held (reverse (take n trail)) p.run q.run) none ∙ cmp_less p.run.0 q.run.0 (below p.run q.run tied.1 differ))
  where
    below : (r s : RunId) → r.0 ≤ s.0 → r ≢ s → r.0 < s.0
    below r s h apart = step (ltb r.0 s.0) refl
      where
        number : ℕ → RunId
        number n = record { 0 = n }

        step : (t : Bool) → ltb r.0 s.0 ≡ t → r.0 < s.0
        step true e = ltb-true r.0 s.0 e
        step false e = absurd (apart (ap number (same_number r.0 s.0 h e)))

pub in_order_grouped : (held : HoldingRule) (trail : List Judged) (left : ℕ) (members : List Member)
    → AreGrouped held (drop left trail) members → AreSorted members
    → (left ≡ 0) ⊎ AreToldApart members → AllPairs (λ p q. p.run ≢ q.run) members → AllPairs (λ p q. IsBefore held trail p.run q.run) members
in_order_grouped held trail left members grouped sorted ends differ i j d l m =
    in_order_pair held trail left (get_or members i d) (get_or members j d) (grouped i d (omega arith) j d m)
    (differ i j d l m) (sorted i j d l m) (end ends (sorted i j d l m))
  where
    end : (left ≡ 0) ⊎ AreToldApart members
        → ((get_or members i d).group < (get_or members j d).group)
        ⊎ (((get_or members i d).group ≡ (get_or members j d).group) × ((get_or members i d).run.0 ≤ (get_or members j d).run.0))
        → (left ≡ 0) ⊎ ((get_or members i d).group < (get_or members j d).group)
    end (inl none) stand = inl none
    end (inr apart) (inl less) = inr less
    end (inr apart) (inr tied) = absurd (differ i j d l m (apart i d (omega arith) j d m tied.0))

pub told_apart_permuted : (members sorted : List Member) → IsPermutation members sorted → AreToldApart members → AreToldApart sorted
told_apart_permuted members sorted permuted was =
    let R : Member → Member → Type 0 = λ p q. p.group ≡ q.group → p.run ≡ q.run in
    All-permutation (λ p. All (R p) sorted) members sorted permuted
    (All-weaker (λ p. All (R p) members) (λ p. All (R p) sorted) (λ p each. All-permutation (R p) members sorted permuted each) members was)

-- ---- all runs in one group

pub runs_first : (order : List RunId) → map member_run (map first_group order) ≡ order
runs_first [] = refl
runs_first (run ∷ order) = ap (λ runs. run ∷ runs) (runs_first order)

pub first_groups : (order : List RunId) → All (λ member. member.group ≡ 0) (map first_group order)
first_groups order k d h = ap (λ (m : Member). m.group) (get_or-map first_group order k d.run d (omega (arith, length-map order first_group)))

pub one_group : (held : HoldingRule) (members : List Member) → All (λ member. member.group ≡ 0) members → AreGrouped held [] members
one_group held members none i d h j e l = cmp_same (get_or members i d).group (get_or members j e).group (none i d h ∙ sym (none j e l))

pub one_few : (members : List Member) → All (λ member. member.group ≡ 0) members → AreFewGroups members
one_few members none k d h = omega (arith, none k d h)

-- the runs of the groups are those of the order
pub sorted_runs : (order slice : List RunId) (put cut : List Member) → slice ≡ order → IsPermutation (map first_group slice) put
    → IsPermutation (map member_run put) (map member_run cut) → IsPermutation order (map member_run cut)
sorted_runs order slice put cut same filled permuted =
    IsPermutation-trans order (map member_run put) (map member_run cut)
    (subst (λ runs. IsPermutation runs (map member_run put)) (runs_first slice ∙ same) (IsPermutation-map member_run (map first_group slice) put filled))
    permuted
