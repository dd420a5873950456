use Rattle.campaign_core.proofs.PageTexts.LentBoards.{board-ruled}
use Rattle.campaign_core.proofs.laws.boards_score_by_the_rules.Goals as goal

pub returns : goal.returns
returns c = board-ruled c.graded_are_on_trail.ensures c.graded_are_there.ensures
