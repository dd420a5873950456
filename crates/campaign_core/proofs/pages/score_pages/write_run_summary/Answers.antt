use Rattle.std.proofs.Common.{◌++◌, ◌∙◌, ap, map}
use Rattle.measures.specs.Means.{summary_of}
use Rattle.measures.specs.ScoreLines.{summary_text}
use Rattle.measures.specs.declared.means.Summary.{Summary}
use Rattle.rulebook.specs.Words.{Text}
use Rattle.assessment.specs.TopicFacts.{facts_of}
use Rattle.campaign_core.proofs.PageTexts.RunCells.{cells-same}
use Rattle.campaign_core.proofs.pages.score_pages.write_run_summary.Goals as goal

pub returns : goal.returns
returns c = λ H r knows name_is.
    c.in_ok-write_summary.ensures.ok
    ∙ ap (λ (name : Text). c.args.out.now.items ++ summary_text name c.summary.result) name_is
    ∙ ap (λ (summary : Summary). c.args.out.now.items ++ summary_text r.name summary)
    (c.summary.ensures.summary _ knows.scored.stands
    ∙ ap summary_of
    (cells-same H (map facts_of c.args.topics.now) c.args.board.now c.args.run r knows c.graded_are_on_trail.ensures c.graded_are_there.ensures))
