use Rattle.std.proofs.Common.{◌∙◌, ap, sym, subst}
use Rattle.score_index.specs.KeptSums.{AreNear}
use Rattle.score_index.specs.Scores.{ScoreList}
use Rattle.score_index.proofs.Cells.MovedSums.{cell-places}
use Rattle.score_index.proofs.lists.RunList.follow.Goals as goal

pub follow_counts-requires-clause-near : goal.follow_counts-requires-clause-near
follow_counts-requires-clause-near g c =
    let list = c.self.inside in
    let places =
    cell-places list.trees.relevant list.trees.lower list.counts.relevant list.counts.non_relevant list.cell c.self.invariant.cell_is in
    subst (λ rel. AreNear rel c.args.counts.relevant) (sym (places.rel ∙ ap (λ (list : ScoreList). list.rel) c.self.view_is)) c.requires.counts.relevant_near

pub follow_counts-requires-clause-cell : goal.follow_counts-requires-clause-cell
follow_counts-requires-clause-cell g c = (c.self.inside.counts.relevant, c.self.inside.counts.non_relevant, c.self.invariant.cell_is)
