use Rattle.std.proofs.Common.{Equal, Some, ◌≡◌, ◌∙◌, ap, get_or, sym, rules}
use Rattle.std.specs.Ordering.{nat_cmp}
use Rattle.std.proofs.lemmas.Cmp.{ranked}
use Rattle.std.proofs.lemmas.Fn.{always_returns_same}
use Rattle.score_index.specs.Scores.{ScoreList}
use Rattle.score_index.proofs.KeptTopics.ListsByRun.{found-at, found-none, others-around, rising}
use Rattle.score_index.proofs.lists.list_of.Goals as goal

pub returns-in-Ok : goal.returns-in-Ok
returns-in-Ok c =
    let at = c.in-Ok.ensures.position (λ (list : ScoreList). nat_cmp list.run.0 c.args.run.0)
    (always_returns_same _ (λ a r. r ≡ nat_cmp a.0.now.run.0 c.args.run.0) _ (λ a r f' q. (search rules, search rules))) in
    let item : ScoreList = c.index-lists-place.result in
    let same : (get_or c.args.lists.now c.in-Ok.place item).run.0 ≡ c.args.run.0 = ranked _ _ Equal (sym (at item)) in
    ap Some c.index-lists-place.is ∙ sym (found-at c.args.lists.now c.args.run c.in-Ok.place item c.requires c.in-Ok.ensures.bound same)

pub returns-in-Err : goal.returns-in-Err
returns-in-Err c =
    let place = c.in-Err.ensures.position (λ (list : ScoreList). nat_cmp list.run.0 c.args.run.0)
    (always_returns_same _ (λ a r. r ≡ nat_cmp a.0.now.run.0 c.args.run.0) _ (λ a r f' q. (search rules, search rules))) in
    sym (found-none c.args.lists.now c.args.run
    (others-around c.args.lists.now c.args.run c.in-Err.field-0 (place (rising c.args.lists.now c.args.run.0 c.requires))))
