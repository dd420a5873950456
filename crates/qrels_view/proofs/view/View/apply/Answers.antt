use Rattle.std.proofs.Common.{◌≡◌, ◌∙◌, ◌≤◌, Bool, List, Option, length, refl, ap, sym, arith, ℕ, count_by}
use Rattle.std.proofs.lemmas.List.Sums.{count_by-le-length}
use Rattle.decimal_rank.proofs.Lists.{none_is}
use Rattle.qrels_view.specs.CountedGrades.{recounted_from}
use Rattle.qrels_view.specs.Grades.{is_relevant, is_non_relevant, effective_in, with_grade, graded_of}
use Rattle.qrels_view.specs.GradeViews.{GradeView}
use Rattle.qrels_view.specs.declared.grades.Graded.{Graded}
use Rattle.qrels_view.proofs.NewGrades.{at_most_one, count-with_grade, counts_least, nothing_changes, one_more_at_most}
use Rattle.qrels_view.proofs.view.View.apply.Goals as goal

pub returns-then-is_none-2-clause-graded : goal.returns-then-is_none-2-clause-graded
returns-then-is_none-2-clause-graded c =
    let doc = c.args.doc in
    let graded = c.args.self.now.graded in
    let new_none = none_is c.args.new c.if-is_none-2.ensures in
    let old_none = none_is c.args.old c.if-is_none.ensures in
    sym (ap (λ grade. with_grade doc grade graded) new_none ∙ nothing_changes doc graded (sym c.requires.grade_now ∙ old_none))

pub regraded-self-inside-requires-clause-counted : goal.regraded-self-inside-requires-clause-counted
regraded-self-inside-requires-clause-counted c =
    let inside = c.self.inside in
    let graded = graded_of inside.grades.entries in
    let old_is : effective_in graded c.args.doc ≡ c.args.old =
    ap (λ (view : GradeView). effective_in view.graded c.args.doc) c.self.view_is ∙ sym c.requires.grade_now in
    record {
      relevant = omega (arith, c.self.invariant.relevant_is, counts_least (is_relevant inside.level) refl c.args.doc c.args.old graded old_is);
      non_relevant = omega (arith, c.self.invariant.non_relevant_is, counts_least (is_non_relevant inside.level) refl c.args.doc c.args.old graded old_is);
    }

pub regraded-self-inside-requires-clause-few_relevant : goal.regraded-self-inside-requires-clause-few_relevant
regraded-self-inside-requires-clause-few_relevant c =
    let inside = c.self.inside in
    let graded = graded_of inside.grades.entries in
    omega (
      arith,
      c.self.invariant.relevant_is,
      count_by-le-length (λ (one : Graded). is_relevant inside.level one.grade) graded,
      ap (λ (view : GradeView). length view.graded) c.self.view_is,
      c.requires.few,
      at_most_one (is_relevant inside.level c.args.new),
    )

pub regraded-self-inside-requires-clause-few_non_relevant : goal.regraded-self-inside-requires-clause-few_non_relevant
regraded-self-inside-requires-clause-few_non_relevant c =
    let inside = c.self.inside in
    let graded = graded_of inside.grades.entries in
    omega (
      arith,
      c.self.invariant.non_relevant_is,
      count_by-le-length (λ (one : Graded). is_non_relevant inside.level one.grade) graded,
      ap (λ (view : GradeView). length view.graded) c.self.view_is,
      c.requires.few,
      at_most_one (is_non_relevant inside.level c.args.new),
    )

pub invariant_of-self : goal.invariant_of-self
invariant_of-self c =
    let inside = c.self.inside in
    let doc = c.args.doc in
    let new = c.args.new in
    let graded = graded_of inside.grades.entries in
    let after = graded_of c.put_grade.new.grades.entries in
    let old_is : effective_in graded doc ≡ c.args.old = ap (λ (view : GradeView). effective_in view.graded doc) c.self.view_is ∙ sym c.requires.grade_now in
    let longer = ap length c.put_grade.ensures.graded in
    let at_most = one_more_at_most doc new graded in
    let same : length graded ≡ length c.args.self.now.graded = ap (λ (view : GradeView). length view.graded) c.self.view_is in
    let below = c.requires.few in
    let counted : (p : Option ℕ → Bool) → List Graded → ℕ = λ p graded. count_by (λ one. p one.grade) graded in
    record {
      trail_is = c.put_grade.ensures.trail_is;
      relevant_is = c.regraded-self-inside.ensures.relevant
          ∙ ap (λ (n : ℕ). recounted_from n (is_relevant inside.level c.args.old) (is_relevant inside.level new)) c.self.invariant.relevant_is
          ∙ count-with_grade (is_relevant inside.level) refl doc c.args.old new graded old_is
          ∙ ap (counted (is_relevant inside.level)) (sym c.put_grade.ensures.graded);
      non_relevant_is = c.regraded-self-inside.ensures.non_relevant
          ∙ ap (λ (n : ℕ). recounted_from n (is_non_relevant inside.level c.args.old) (is_non_relevant inside.level new)) c.self.invariant.non_relevant_is
          ∙ count-with_grade (is_non_relevant inside.level) refl doc c.args.old new graded old_is
          ∙ ap (counted (is_non_relevant inside.level)) (sym c.put_grade.ensures.graded);
      few = omega arith;
    }
