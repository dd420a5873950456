use Rattle.std.proofs.Common.{◌≡◌, ◌++◌, ◌∙◌, List, ap, length, subst}
use Rattle.std.specs.Prelude.{OnOk}
use Rattle.std.specs.Prelude.{count_by}
use Rattle.qrels_view.specs.Grades.{is_non_relevant, is_relevant}
use Rattle.qrels_view.specs.declared.grades.Graded.{Graded}
use Rattle.depth_pool.specs.Holdings.{Held, IsCount, some_run_holds}
use Rattle.rulebook.specs.Campaign.{pool}
use Rattle.rulebook.specs.Judgements.Grades.{non_relevant_count, relevant_count}
use Rattle.rulebook.specs.Reports.Pages.{counts_line, progress_line}
use Rattle.campaign_core.proofs.PageTexts.Progress.{non_relevant-count, pool-count, relevant-count}
use Rattle.campaign_core.proofs.pages.write_progress.Goals as goal

pub returns : goal.returns
returns c = λ H names now is lives.
    let topic = c.args.topic.now.facts in
    let id = topic.id in
    let graded = c.grades-grades.result.now.graded in
    let relevant = ap (λ l. count_by (λ (g : Graded). is_relevant l g.grade) graded) c.grades-grades.ensures.level
    ∙ ap (count_by (λ (g : Graded). is_relevant topic.level g.grade)) c.grades-grades.ensures.graded in
    let lower = ap (λ l. count_by (λ (g : Graded). is_non_relevant l g.grade) graded) c.grades-grades.ensures.level
    ∙ ap (count_by (λ (g : Graded). is_non_relevant topic.level g.grade)) c.grades-grades.ensures.graded in
    let held : IsCount (λ doc. some_run_holds doc topic.pool) c.len-documents.result =
    subst (λ (runs : List Held). IsCount (λ doc. some_run_holds doc runs) c.len-documents.result) c.pool.ensures.runs c.len-documents.ensures in
    let line : counts_line c.id.result.now c.len-documents.result c.relevant-relevant.result c.non_relevant-non_relevant.result c.args.live
    ≡ progress_line H now id =
    ap (λ t. counts_line t c.len-documents.result c.relevant-relevant.result c.non_relevant-non_relevant.result c.args.live) c.id.ensures
    ∙ ap (λ n. counts_line id n c.relevant-relevant.result c.non_relevant-non_relevant.result c.args.live)
    (pool-count H names topic is c.len-documents.result held)
    ∙ ap (λ n. counts_line id (length (pool H id)) n c.non_relevant-non_relevant.result c.args.live)
    (c.relevant-relevant.ensures ∙ relevant ∙ relevant-count H names topic is c.graded_are_on_trail.ensures)
    ∙ ap (λ n. counts_line id (length (pool H id)) (relevant_count H id) n c.args.live)
    (c.non_relevant-non_relevant.ensures ∙ lower ∙ non_relevant-count H names topic is c.graded_are_on_trail.ensures)
    ∙ ap (counts_line id (length (pool H id)) (relevant_count H id) (non_relevant_count H id)) lives in
    subst (λ text. OnOk c.write_counts.result (c.write_counts.new.out.items ≡ c.args.out.now.items ++ text)) line c.write_counts.ensures
