-- The rule is a total order.
use Rattle.std.proofs.Common.{◌≡◌, ◌≢◌, ℕ, Bool, true, false, not, ◌&&◌, cond, eqb, ltb, List, [], ◌∷◌, ◌++◌, Option, Some, None, is_some, reverse, refl, sym, ap, ◌∙◌, ◌⊎◌, inl, inr, Less, Equal, Greater}
use Rattle.std.specs.Cmp.{IsTotalOrder}
use Rattle.std.specs.List.{find}
use Rattle.std.specs.Ordering.{nat_cmp, is_lt, ordering_then, ordering_reverse}
use Rattle.std.specs.declared.cmp.Ordering.{Ordering}
use Rattle.std.proofs.lemmas.Cmp.{nat_cmp_total, on_total, then_total, tied_itself, ranked}
use Rattle.std.proofs.lemmas.List.{reverse-append}
use Rattle.decimal_rank.specs.declared.naming.DocId.{DocId}
use Rattle.decimal_rank.proofs.TruthValues.{less_is, second_equal}
use Rattle.depth_pool.specs.declared.runs.RunId.{RunId}
use Rattle.mtf_queue.specs.declared.rule.Judged.{Judged}
use Rattle.mtf_queue.specs.Rule.{HoldingRule, IsBefore, is_first_side, is_one_of, puts_first, rule_cmp, side, tells_apart}

pub rule_total : (held : HoldingRule) (newest : List Judged) → IsTotalOrder (rule_cmp held newest)
rule_total held [] = on_total (λ (r : RunId). r.0) nat_cmp_total
rule_total held (judged ∷ older) = then_total (on_total (λ (r : RunId). side judged.relevant (held r judged.doc)) nat_cmp_total) (rule_total held older)

abbrev number : RunId → ℕ
number run = run.0

abbrev grade : Judged → Option Bool
grade judged = judged.relevant

abbrev holder : HoldingRule → RunId → Judged → Bool
holder held run judged = held run judged.doc

less_number : (less same : Bool) → less ≡ is_lt (cond less Less (cond same Equal Greater))
less_number true same = refl
less_number false true = refl
less_number false false = refl

-- one more document in front
more : (g : Option Bool) (x y : Bool) (first : Option Judged → Bool) (judged : Judged) (rest : Option Judged) (o : Ordering)
    → first (Some judged) ≡ is_first_side g x → first rest ≡ is_lt o
    → first (cond (is_some g && is_one_of x y) (Some judged) rest) ≡ is_lt (ordering_then (nat_cmp (side g x) (side g y)) o)
more None x y first judged rest o here later = later
more (Some true) true true first judged rest o here later = later
more (Some true) true false first judged rest o here later = here
more (Some true) false true first judged rest o here later = here
more (Some true) false false first judged rest o here later = later
more (Some false) true true first judged rest o here later = later
more (Some false) true false first judged rest o here later = here
more (Some false) false true first judged rest o here later = here
more (Some false) false false first judged rest o here later = later

by_newest : (held : HoldingRule) (newest : List Judged) (r s : RunId)
    → puts_first number grade (holder held) r s (find (tells_apart grade (holder held) r s) newest) ≡ is_lt (rule_cmp held newest r s)
by_newest held [] r s = less_number (ltb r.0 s.0) (eqb r.0 s.0)
by_newest held (judged ∷ older) r s =
    more judged.relevant (held r judged.doc) (held s judged.doc) (puts_first number grade (holder held) r s) judged
    (find (tells_apart grade (holder held) r s) older) (rule_cmp held older r s) refl (by_newest held older r s)

-- the rule and the comparison agree
pub before_from_less : (held : HoldingRule) (trail : List Judged) (r s : RunId) → rule_cmp held (reverse trail) r s ≡ Less → IsBefore held trail r s
before_from_less held trail r s less = by_newest held (reverse trail) r s ∙ ap is_lt less

pub less_from_before : (held : HoldingRule) (trail : List Judged) (r s : RunId) → IsBefore held trail r s → rule_cmp held (reverse trail) r s ≡ Less
less_from_before held trail r s before = less_is (rule_cmp held (reverse trail) r s) (sym (by_newest held (reverse trail) r s) ∙ before)

pub before_from_test : (held : HoldingRule) (trail : List Judged) (r s : RunId) → is_lt (rule_cmp held (reverse trail) r s) ≡ true → IsBefore held trail r s
before_from_test held trail r s less = by_newest held (reverse trail) r s ∙ less

pub before_test : (held : HoldingRule) (trail : List Judged) (r s : RunId) → IsBefore held trail r s → is_lt (rule_cmp held (reverse trail) r s) ≡ true
before_test held trail r s before = ap is_lt (less_from_before held trail r s before)

equal_same : (held : HoldingRule) (newest : List Judged) (r s : RunId) → rule_cmp held newest r s ≡ Equal → r ≡ s
equal_same held [] r s e = let same : r.0 ≡ s.0 = ranked r.0 s.0 Equal (sym e) in let run : ℕ → RunId = λ n. record { 0 = n } in ap run same
equal_same held (judged ∷ older) r s e =
    equal_same held older r s
    (second_equal (nat_cmp (side judged.relevant (held r judged.doc)) (side judged.relevant (held s judged.doc))) (rule_cmp held older r s) e)

pub not_itself : (held : HoldingRule) (trail : List Judged) (r : RunId) → IsBefore held trail r r → ⊥
not_itself held trail r before = let equal = tied_itself (rule_total held (reverse trail)) r in let less = less_from_before held trail r r before in cc

pub one_of_two : (held : HoldingRule) (trail : List Judged) (r s : RunId) → r ≢ s → IsBefore held trail r s ⊎ IsBefore held trail s r
one_of_two held trail r s differ = step (rule_cmp held (reverse trail) r s) refl
  where
    step : (o : Ordering) → rule_cmp held (reverse trail) r s ≡ o → IsBefore held trail r s ⊎ IsBefore held trail s r
    step Less e = inl (before_from_less held trail r s e)
    step Equal e = absurd (differ (equal_same held (reverse trail) r s e))
    step Greater e = inr (before_from_less held trail s r ((rule_total held (reverse trail)).antisymm s r ∙ ap ordering_reverse e))

pub chain : (held : HoldingRule) (trail : List Judged) (r s t : RunId) → IsBefore held trail r s → IsBefore held trail s t → IsBefore held trail r t
chain held trail r s t first second =
    before_from_less held trail r t
    ((rule_total held (reverse trail)).trans r s t (less_from_before held trail r s first) (less_from_before held trail s t second))

-- what two runs hold is all that the comparison looks at
same_holdings : (held other : HoldingRule) (newest : List Judged) (r s : RunId) → ((doc : DocId) → other r doc ≡ held r doc)
    → ((doc : DocId) → other s doc ≡ held s doc) → rule_cmp other newest r s ≡ rule_cmp held newest r s
same_holdings held other [] r s of_r of_s = refl
same_holdings held other (judged ∷ older) r s of_r of_s =
    ap (λ x. ordering_then (nat_cmp (side judged.relevant x) (side judged.relevant (other s judged.doc))) (rule_cmp other older r s)) (of_r judged.doc)
    ∙ ap (λ y. ordering_then (nat_cmp (side judged.relevant (held r judged.doc)) (side judged.relevant y)) (rule_cmp other older r s)) (of_s judged.doc)
    ∙ ap (ordering_then (nat_cmp (side judged.relevant (held r judged.doc)) (side judged.relevant (held s judged.doc))))
    (same_holdings held other older r s of_r of_s)

pub before_by_holdings : (held other : HoldingRule) (trail : List Judged) (r s : RunId) → ((doc : DocId) → other r doc ≡ held r doc)
    → ((doc : DocId) → other s doc ≡ held s doc) → IsBefore held trail r s → IsBefore other trail r s
before_by_holdings held other trail r s of_r of_s before =
    before_from_less other trail r s (same_holdings held other (reverse trail) r s of_r of_s ∙ less_from_before held trail r s before)

-- ---- one more document at the end of the trail

abbrev judged_as : DocId → Bool → Judged
judged_as doc relevant = record { doc = doc; relevant = Some relevant }

newest_first : (trail : List Judged) (judged : Judged) → reverse (trail ++ judged ∷ []) ≡ judged ∷ reverse trail
newest_first trail judged = reverse-append trail (judged ∷ [])

same_side : (relevant x y : Bool) (o : Ordering) → is_first_side (Some relevant) x ≡ is_first_side (Some relevant) y
    → o ≡ Less → ordering_then (nat_cmp (side (Some relevant) x) (side (Some relevant) y)) o ≡ Less
same_side true true true o same e = e
same_side true true false o same e = cc
same_side true false true o same e = cc
same_side true false false o same e = e
same_side false true true o same e = e
same_side false true false o same e = cc
same_side false false true o same e = cc
same_side false false false o same e = e

first_side : (relevant x y : Bool) (o : Ordering) → is_first_side (Some relevant) x ≡ true → not (is_first_side (Some relevant) y) ≡ true
    → ordering_then (nat_cmp (side (Some relevant) x) (side (Some relevant) y)) o ≡ Less
first_side true true true o p q = cc
first_side true true false o p q = refl
first_side true false y o p q = cc
first_side false true y o p q = cc
first_side false false true o p q = refl
first_side false false false o p q = cc

-- two runs on one side of a document keep their order
pub before_on_one_side : (held : HoldingRule) (trail : List Judged) (doc : DocId) (relevant : Bool) (r s : RunId)
    → is_first_side (Some relevant) (held r doc) ≡ is_first_side (Some relevant) (held s doc)
    → IsBefore held trail r s → IsBefore held (trail ++ judged_as doc relevant ∷ []) r s
before_on_one_side held trail doc relevant r s same before =
    before_from_less held (trail ++ judged_as doc relevant ∷ []) r s
    (ap (λ newest. rule_cmp held newest r s) (newest_first trail (judged_as doc relevant))
    ∙ same_side relevant (held r doc) (held s doc) (rule_cmp held (reverse trail) r s) same (less_from_before held trail r s before))

-- a run on its first side comes before each of the others
pub before_across : (held : HoldingRule) (trail : List Judged) (doc : DocId) (relevant : Bool) (r s : RunId)
    → is_first_side (Some relevant) (held r doc) ≡ true → not (is_first_side (Some relevant) (held s doc)) ≡ true
    → IsBefore held (trail ++ judged_as doc relevant ∷ []) r s
before_across held trail doc relevant r s first second =
    before_from_less held (trail ++ judged_as doc relevant ∷ []) r s
    (ap (λ newest. rule_cmp held newest r s) (newest_first trail (judged_as doc relevant))
    ∙ first_side relevant (held r doc) (held s doc) (rule_cmp held (reverse trail) r s) first second)
