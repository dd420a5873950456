use Rattle.std.proofs.Common.{◌≡◌, ◌∙◌, ℕ, List, None, Option, Some, true, false, ap, map, rules, sym}
use Rattle.std.specs.Prelude.{if◌then◌else◌}
use Rattle.measures.specs.Cells.{cell_of}
use Rattle.measures.specs.Means.{value_of}
use Rattle.measures.specs.declared.means.Measure.TheVariants.{Map}
use Rattle.rulebook.specs.Campaign.{docs_on, level}
use Rattle.rulebook.specs.Judgements.Grades.{labelled_documents}
use Rattle.campaign_core.specs.Views.Gradings.{Grading, cell_by_grading, counts_by, non_relevant_by, relevant_by}
use Rattle.campaign_core.specs.Views.LentTopics.{topic_at}
use Rattle.leave_out.specs.ReducedJudgements.{reduced_in}
use Rattle.leave_out.specs.Reuse.{reduced_grade}
use Rattle.leave_out.specs.declared.reduced_judgements.ReducedJudgements.{ReducedJudgements}
use Rattle.leave_out.proofs.Elements.{told}
use Rattle.leave_out.proofs.Reductions.ReducedDocs.{lower-are, relevant-are}
use Rattle.leave_out.proofs.Reductions.ReducedTopics.{counted-is}
use Rattle.leave_out.proofs.Reductions.RelevantDocs.{list-within}
use Rattle.leave_out.proofs.precision.value_on.Goals as goal

pub returns-then-not-is_counted-clause-value : goal.returns-then-not-is_counted-clause-value
returns-then-not-is_counted-clause-value c = λ id one at live.
    let H = c.args.state.now.history in
    let grade : Grading = reduced_grade H c.args.group.now id in
    let none : c.is_counted.result ≡ false = search rules in
    let out : false ≡ counts_by H id grade =
    sym none ∙ c.is_counted.ensures ∙ counted-is H c.args.group.now id c.args.judgements (c.requires.judgements id at) in
    ap (λ t. let o : Option ℕ = if t then Some (value_of Map (cell_by_grading H one.1 id grade)) else None in o) out

pub returns-clause-value : goal.returns-clause-value
returns-clause-value c = λ id one at live.
    let H = c.args.state.now.history in
    let grade : Grading = reduced_grade H c.args.group.now id in
    let judgements_are : c.args.judgements ≡ reduced_in H c.args.group.now id (labelled_documents H id) = c.requires.judgements id at in
    let some : c.is_counted.result ≡ true = search rules in
    let counted : true ≡ counts_by H id grade = sym some ∙ c.is_counted.ensures ∙ counted-is H c.args.group.now id c.args.judgements judgements_are in
    let grades_are : c.deref.result.now ≡ map grade (docs_on one.1.lists id) = c.deref.ensures.value ∙ c.in_ok-grades.ensures.grades id one at live in
    let level_is : level H id ≡ c.level.result = told (topic_at H c.args.topic) id (level H) c.level.result at c.level.ensures in
    let relevant_is : c.args.judgements.relevant ≡ relevant_by H id grade =
    ap (λ (l : ReducedJudgements). l.relevant) judgements_are ∙ sym (relevant-are H id grade) in
    let lower_is : c.args.judgements.lower ≡ non_relevant_by H id grade =
    ap (λ (l : ReducedJudgements). l.lower) judgements_are ∙ sym (lower-are H id grade) in
    let value_is : c.average_precision-value.result ≡ value_of Map (cell_by_grading H one.1 id grade) =
    c.average_precision-value.ensures.value
    ∙ ap (λ (gs : List (Option ℕ)). value_of Map (cell_of gs c.args.judgements.relevant c.args.judgements.lower c.level.result)) grades_are
    ∙ ap (λ r. value_of Map (cell_of (map grade (docs_on one.1.lists id)) r c.args.judgements.lower c.level.result)) relevant_is
    ∙ ap (λ n. value_of Map (cell_of (map grade (docs_on one.1.lists id)) (relevant_by H id grade) n c.level.result)) lower_is
    ∙ ap (λ l. value_of Map (cell_of (map grade (docs_on one.1.lists id)) (relevant_by H id grade) (non_relevant_by H id grade) l)) (sym level_is) in
    ap (λ v. let o : Option ℕ = Some v in o) value_is
    ∙ ap (λ t. let o : Option ℕ = if t then Some (value_of Map (cell_by_grading H one.1 id grade)) else None in o) counted

pub average_precision-value-requires-clause-relevant : goal.average_precision-value-requires-clause-relevant
average_precision-value-requires-clause-relevant c =
    let H = c.args.state.now.history in
    (list-within H c.graded_are_there.ensures c.graded_are_on_trail.ensures c.entries-entries.ensures.legal c.args.topic c.args.group.now
    c.args.run c.args.judgements c.deref.result.now c.level.result c.requires.topic c.requires.live c.requires.judgements
    (λ id one at live. c.deref.ensures.value ∙ c.in_ok-grades.ensures.grades id one at live) c.level.ensures).0

pub average_precision-value-requires-clause-lower : goal.average_precision-value-requires-clause-lower
average_precision-value-requires-clause-lower c =
    let H = c.args.state.now.history in
    (list-within H c.graded_are_there.ensures c.graded_are_on_trail.ensures c.entries-entries.ensures.legal c.args.topic c.args.group.now
    c.args.run c.args.judgements c.deref.result.now c.level.result c.requires.topic c.requires.live c.requires.judgements
    (λ id one at live. c.deref.ensures.value ∙ c.in_ok-grades.ensures.grades id one at live) c.level.ensures).1
