use Rattle.std.proofs.Common.{◌≡◌, ◌≤◌, ◌+◌, ◌∙◌, true, false, List, ap, arith, cond, is_ok, length, nat_lt, subst, sym, vec_len}
use Rattle.std.specs.Prelude.{insert}
use Rattle.std.specs.List.Sorted.{IsPartitionPoint}
use Rattle.depth_pool.specs.declared.runs.RunId.{RunId}
use Rattle.score_index.specs.KeptBoards.{AreByRun, topic_scores}
use Rattle.score_index.specs.Scores.{ScoreList, TopicScores}
use Rattle.score_index.proofs.KeptTopics.ListsByRun.{placed-is}
use Rattle.score_index.proofs.topics.add_list.Goals as goal

pub place_for-place-requires : goal.place_for-place-requires
place_for-place-requires c = subst AreByRun (sym c.as_slice.ensures.value) c.requires.by_run

pub returns-clause-seen : goal.returns-clause-seen
returns-clause-seen c =
    let lists : List ScoreList = c.args.topic.now.lists.items in
    let with_lists : List ScoreList → TopicScores = λ lists. record (topic_scores c.args.topic.now) { lists = lists } in
    let run : c.list.inside.run ≡ c.args.list.run = ap (λ (list : ScoreList). list.run) c.list.view_is in
    let within : c.place_for-place.result ≤ length lists = omega (arith, c.place_for-place.ensures.within, ap length c.as_slice.ensures.value) in
    let parts = subst
    (λ (xs : List ScoreList). IsPartitionPoint (λ one. nat_lt one.run.0 c.args.list.run.0 ≡ true)
    (λ one. nat_lt one.run.0 c.args.list.run.0 ≡ false) xs c.place_for-place.result) c.as_slice.ensures.value
    (subst (λ (r : RunId). IsPartitionPoint (λ one. nat_lt one.run.0 r.0 ≡ true)
    (λ one. nat_lt one.run.0 r.0 ≡ false) c.as_slice.result.now c.place_for-place.result) run c.place_for-place.ensures.place) in
    ap with_lists
    (c.insert.ensures.items ∙ ap (λ b. cond b (insert lists c.place_for-place.result c.args.list) lists) (ap is_ok c.unwrap.ensures)
    ∙ placed-is c.args.list lists c.place_for-place.result within parts)

pub returns-clause-places : goal.returns-clause-places
returns-clause-places c =
    let len : vec_len c.insert.new.self ≡ vec_len c.args.topic.now.lists + 1 =
    c.insert.ensures.len ∙ ap (λ b. cond b (vec_len c.args.topic.now.lists + 1) (vec_len c.args.topic.now.lists)) (ap is_ok c.unwrap.ensures) in
    omega (arith, len, c.insert.ensures.capacity, c.requires.room)
