use Rattle.std.proofs.Common.{◌≡◌, ◌-◌, ◌++◌, ◌∷◌, [], ℕ, Bool, List, Option, Some, None, ap, arith, length, sym, ◌∙◌, map, subst}
use Rattle.std.specs.Prelude.{All, nat_le}
use Rattle.std.specs.List.{position_or_len}
use Rattle.std.specs.Option.{option_map}
use Rattle.std.proofs.lemmas.List.{append-nil, length-map}
use Rattle.std.proofs.lemmas.List.Sorted.{IsPermutation-trans, length_permutation}
use Rattle.depth_pool.specs.Holdings.{Held}
use Rattle.mtf_queue.specs.Rule.{trail_regraded}
use Rattle.mtf_queue.specs.declared.rule.Judged.{Judged}
use Rattle.qrels_view.specs.declared.grades.Graded.{Graded}
use Rattle.assessment.specs.TopicFacts.{TopicView, judged_of}
use Rattle.assessment.proofs.QueueTrails.{first-judged, is_doc, judged-last, none-judged, not-judged, place-none, place-some, regraded-at}
use Rattle.assessment.proofs.QueuedRuns.{numbers}
use Rattle.assessment.proofs.topic.AssessedTopic.put_grade.Goals as goal

pub judge-requires-clause-is_new : goal.judge-requires-clause-is_new
judge-requires-clause-is_new g c =
    let t = c.self.inside in
    let absent : All (λ judged. ¬ (judged.doc ≡ c.args.doc)) (map (judged_of t.grades.level) t.grades.graded) =
    not-judged t.grades.level c.args.doc t.grades.graded (place-none t.grades.level c.args.doc t.grades.graded (sym c.in-None.ensures.place)) in
    subst (All (λ (judged : Judged). ¬ (judged.doc ≡ c.args.doc))) (sym c.self.invariant.0.trail_is) absent

pub invariant_of-self : goal.invariant_of-self
invariant_of-self g c =
    let t = c.self.inside in
    let level = t.grades.level in
    let doc = c.args.doc in
    let new = c.args.new in
    let at = place-some level doc t.grades.graded c.in-Some.place (sym c.in-Some.ensures.place) in
    let place = position_or_len (is_doc level doc) t.grades.graded in
    let relevant : c.relevance-relevant.result ≡ option_map (nat_le level) new =
    c.relevance-relevant.ensures ∙ ap (λ (l : ℕ). option_map (nat_le l) new) c.level.ensures in (
      record {
        runs = IsPermutation-trans _ _ _ c.self.invariant.0.runs c.regrade.ensures.runs;
        in_order = c.regrade.ensures.in_order;
        trail_is = c.regrade.ensures.trail
            ∙ ap (λ (trail : List Judged). trail_regraded trail (c.in-Some.place - 1) c.relevance-relevant.result) c.self.invariant.0.trail_is
            ∙ ap (λ (i : ℕ). trail_regraded (map (judged_of level) t.grades.graded) i c.relevance-relevant.result) at.1
            ∙ ap (λ (r : Option Bool). trail_regraded (map (judged_of level) t.grades.graded) place r) relevant
            ∙ sym (regraded-at level doc new t.grades.graded at.0)
            ∙ ap (λ (graded : List Graded). map (judged_of level) graded) (sym c.apply.ensures.graded)
            ∙ ap (λ (l : ℕ). map (judged_of l) c.apply.new.self.graded) (sym c.apply.ensures.level);
      },
      c.self.invariant.1,
    )

pub invariant_of-self-in-Some-relevant : goal.invariant_of-self-in-Some-relevant
invariant_of-self-in-Some-relevant g c =
    let t = c.self.inside in
    let level = t.grades.level in
    let doc = c.args.doc in
    let new = c.args.new in
    let r = c.in-Some-relevant.relevant in
    let relevant : option_map (nat_le level) new ≡ Some r =
    ap (λ (l : ℕ). option_map (nat_le l) new) (sym c.level.ensures) ∙ sym c.in-Some-relevant.ensures in (
      record {
        runs = IsPermutation-trans _ _ _ c.self.invariant.0.runs c.judge.ensures.runs;
        in_order = c.judge.ensures.in_order;
        trail_is = c.judge.ensures.trail
            ∙ ap (λ (trail : List Judged). trail ++ record { doc = doc; relevant = Some r } ∷ []) c.self.invariant.0.trail_is
            ∙ ap (λ (last : List Judged). map (judged_of level) t.grades.graded ++ last) (sym (first-judged level doc new r relevant))
            ∙ sym (judged-last level doc new t.grades.graded (sym c.in-None.ensures.place))
            ∙ ap (λ (graded : List Graded). map (judged_of level) graded) (sym c.apply.ensures.graded)
            ∙ ap (λ (l : ℕ). map (judged_of l) c.apply.new.self.graded) (sym c.apply.ensures.level);
      },
      c.self.invariant.1,
    )

pub invariant_of-self-in-None : goal.invariant_of-self-in-None
invariant_of-self-in-None g c =
    let t = c.self.inside in
    let level = t.grades.level in
    let doc = c.args.doc in
    let new = c.args.new in
    let relevant : option_map (nat_le level) new ≡ None = ap (λ (l : ℕ). option_map (nat_le l) new) (sym c.level.ensures) ∙ sym c.in_default.ensures in (
      record {
        runs = c.self.invariant.0.runs;
        in_order = c.self.invariant.0.in_order;
        trail_is = c.self.invariant.0.trail_is
            ∙ sym (append-nil (map (judged_of level) t.grades.graded))
            ∙ ap (λ (last : List Judged). map (judged_of level) t.grades.graded ++ last) (sym (none-judged level doc new relevant))
            ∙ sym (judged-last level doc new t.grades.graded (sym c.in-None.ensures.place))
            ∙ ap (λ (graded : List Graded). map (judged_of level) graded) (sym c.apply.ensures.graded)
            ∙ ap (λ (l : ℕ). map (judged_of l) c.apply.new.self.graded) (sym c.apply.ensures.level);
      },
      c.self.invariant.1,
    )

pub returns-in-Some-relevant-clause-cost : goal.returns-in-Some-relevant-clause-cost
returns-in-Some-relevant-clause-cost g c =
    let t = c.self.inside in
    let as_many : length t.queue.order ≡ length t.pool.runs =
    length_permutation (numbers t.pool.runs) t.queue.order c.self.invariant.0.runs ∙ length-map t.pool.runs (λ (held : Held). held.run) in
    let pool : length t.pool.runs ≡ length c.args.self.now.facts.pool = ap (λ (v : TopicView). length v.facts.pool) c.self.view_is in
    omega (arith, as_many, pool, c.judge.ensures.cost)
