use Rattle.std.proofs.Common.{◌≡◌, ◌∙◌, ap, arith, length, map, refl}
use Rattle.measures.specs.Means.{means_in, summary_of}
use Rattle.measures.specs.declared.means.Summary.{Summary}
use Rattle.assessment.specs.TopicFacts.{facts_of}
use Rattle.campaign_core.proofs.PageTexts.RunCells.{cells-same}
use Rattle.campaign_core.proofs.tallies.map_of.Goals as goal

pub returns-clause-map : goal.returns-clause-map
returns-clause-map c = λ H r knows.
    ap (λ (summary : Summary). summary.map)
    (c.summary.ensures.summary _ knows.scored.stands
    ∙ ap summary_of
    (cells-same H (map facts_of c.args.topics.now) c.args.board.now c.args.run r knows c.graded_are_on_trail.ensures c.graded_are_there.ensures))

pub returns-clause-fits : goal.returns-clause-fits
returns-clause-fits c = let many : length (means_in c.summary.result) ≡ 13 = refl in c.summary.ensures.proper 0 0 (omega (arith, many))
