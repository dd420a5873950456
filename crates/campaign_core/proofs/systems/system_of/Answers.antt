use Rattle.std.proofs.Common.{◌≡◌, ◌∙◌, Option, [], ap, map, refl, subst, sym, true}
use Rattle.std.specs.Option.{option_map_or}
use Rattle.measures.specs.Means.{IsProper, summary_of}
use Rattle.measures.specs.declared.means.Summary.{Summary}
use Rattle.rulebook.specs.Campaign.{Run}
use Rattle.rulebook.specs.Reports.Scores.{summary_on}
use Rattle.rulebook.specs.Reports.Systems.{are_means}
use Rattle.score_index.specs.BoardGrades.{cells_of}
use Rattle.campaign_core.specs.Assessments.RunScores.{fact_grades}
use Rattle.campaign_core.proofs.Entries.Runs.LiveSystems.{proper-means}
use Rattle.campaign_core.proofs.PageTexts.RunCells.{cells-same}
use Rattle.campaign_core.proofs.systems.system_of.Goals as goal

pub returns-clause-system : goal.returns-clause-system
returns-clause-system c = λ H topics r knows submits.
    let run_is : c.in_ok-name.name ≡ r.name =
    c.in_ok-name.ensures.text ∙ c.name_of.ensures ∙ ap (λ (o : Option Run). option_map_or (λ run. run.name) o []) submits in
    let cells_are = cells-same H topics c.args.board.now c.args.run r knows c.graded_are_on_trail.ensures c.graded_are_there.ensures in
    let summary_is : c.summary.result ≡ summary_on H r = c.summary.ensures.summary _ knows.scored.stands ∙ ap summary_of cells_are in
    rw (run_is, c.in_ok-group.ensures.copy, summary_is) refl

pub returns-clause-means : goal.returns-clause-means
returns-clause-means c = λ H topics r knows.
    let cells = cells_of c.args.run c.args.board.now.topics (map fact_grades topics) in
    let is : c.summary.result ≡ summary_of cells = c.summary.ensures.summary _ knows.scored.stands in
    subst (λ (summary : Summary). are_means summary ≡ true) (sym is) (proper-means cells (subst IsProper is c.summary.ensures.proper))
