use Rattle.campaign_core.specs.Numbering.Numbers.{names_of}
use Rattle.campaign_core.proofs.PageTexts.TopicCells.{cell-numbered}
use Rattle.campaign_core.proofs.laws.cells_by_numbers.Goals as goal

pub returns : goal.returns
returns c = λ H topic grade run legal trail_named named narrows.
    cell-numbered H (names_of H) topic grade narrows legal c.graded_are_on_trail.ensures c.graded_are_there.ensures run trail_named named
