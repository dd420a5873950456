use Rattle.std.proofs.Common.{not, rules}
use Rattle.std.proofs.lemmas.Fn.{filter_same}
use Rattle.score_index.specs.Scores.{ScoreList, is_of_run}
use Rattle.score_index.proofs.lists.drop_lists.Goals as goal

pub returns-clause-items : goal.returns-clause-items
returns-clause-items c = filter_same _ (λ (list : ScoreList). not (is_of_run c.args.run list)) _ (λ x b f' called. search rules) _ _ c.retain.ensures.filtered
