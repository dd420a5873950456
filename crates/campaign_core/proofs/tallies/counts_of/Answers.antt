use Rattle.std.proofs.Common.{◌∙◌, ap}
use Rattle.std.specs.Prelude.{count_by}
use Rattle.qrels_view.specs.Grades.{is_non_relevant, is_relevant}
use Rattle.qrels_view.specs.declared.grades.Graded.{Graded}
use Rattle.campaign_core.proofs.PageTexts.Progress.{non_relevant-count, relevant-count}
use Rattle.campaign_core.proofs.tallies.counts_of.Goals as goal

pub returns : goal.returns
returns c = λ H names is.
    let topic = c.args.topic.now.facts in
    let graded = c.grades-grades.result.now.graded in
    let relevant = ap (λ l. count_by (λ (g : Graded). is_relevant l g.grade) graded) c.grades-grades.ensures.level
    ∙ ap (count_by (λ (g : Graded). is_relevant topic.level g.grade)) c.grades-grades.ensures.graded in
    let lower = ap (λ l. count_by (λ (g : Graded). is_non_relevant l g.grade) graded) c.grades-grades.ensures.level
    ∙ ap (count_by (λ (g : Graded). is_non_relevant topic.level g.grade)) c.grades-grades.ensures.graded in (
      c.relevant.ensures ∙ relevant ∙ relevant-count H names topic is c.graded_are_on_trail.ensures,
      c.non_relevant.ensures ∙ lower ∙ non_relevant-count H names topic is c.graded_are_on_trail.ensures,
    )
