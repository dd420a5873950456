use Rattle.std.proofs.Common.{◌∙◌, ℕ, Some, ap, sym, subst, arith}
use Rattle.std.specs.Prelude.{sum_by}
use Rattle.std.proofs.lemmas.List.{map-id, take_all}
use Rattle.std.proofs.lemmas.List.Sums.{sum_by_more}
use Rattle.score_index.specs.KeptBoards.{list_regraded}
use Rattle.score_index.specs.KeptSums.{CanRemark, is_lower_standing, is_relevant_standing}
use Rattle.score_index.specs.Scores.{ScoreList, list_steps}
use Rattle.score_index.proofs.KeptTopics.ListFacts.{all_mapped, none_mapped, one_more_mapped}
use Rattle.score_index.proofs.lists.regrade_lists.Goals as goal

pub regrade-requires-clause-can : goal.regrade-requires-clause-can
regrade-requires-clause-can g c =
    let i = c.loop-list.list-index in
    subst (CanRemark c.args.doc (is_relevant_standing c.args.old) (is_lower_standing c.args.old) c.args.counts.relevant c.args.counts.non_relevant)
    (sym (c.loop-list.invariant.mapped.left i c.list-item.result (omega arith))) (c.requires.can i c.list-item.result c.loop-list-test.true)

pub loop-list-init : goal.loop-list-init
loop-list-init g c = record {
  mapped = none_mapped (λ (list : ScoreList). list)
      (list_regraded c.args.doc (is_relevant_standing c.args.new) (is_lower_standing c.args.new) c.args.counts.relevant c.args.counts.non_relevant)
      c.args.lists.now;
  cost = omega arith;
}

pub loop-list-preserved : goal.loop-list-preserved
loop-list-preserved g c =
    let i = c.loop-list.list-index in
    let cost : ScoreList → ℕ = λ list. list_steps (Some list.docs) in
    let was = c.loop-list.invariant.mapped.left i c.list-item.result (omega arith) in
    let more = sum_by_more cost c.args.lists.now i c.list-item.result c.loop-list-test.true in
    let same = ap cost was in
    record {
      mapped = one_more_mapped (λ (list : ScoreList). list)
          (list_regraded c.args.doc (is_relevant_standing c.args.new) (is_lower_standing c.args.new) c.args.counts.relevant c.args.counts.non_relevant)
          c.args.lists.now c.loop-list.lists i
          c.regrade.new.self c.list-item.result c.loop-list-test.true c.regrade.ensures.list c.loop-list.invariant.mapped;
      cost = omega (arith, more, same, c.regrade.ensures.cost, c.loop-list.invariant.cost);
    }

pub returns-clause-lists : goal.returns-clause-lists
returns-clause-lists g c =
    sym (map-id c.loop-list.lists)
    ∙ all_mapped (λ (list : ScoreList). list)
    (list_regraded c.args.doc (is_relevant_standing c.args.new) (is_lower_standing c.args.new) c.args.counts.relevant c.args.counts.non_relevant)
    c.args.lists.now c.loop-list.lists c.loop-list.list-index
    (omega (arith, c.loop-list-test.false)) c.loop-list.invariant.mapped

pub returns-clause-cost : goal.returns-clause-cost
returns-clause-cost g c =
    let cost : ScoreList → ℕ = λ list. list_steps (Some list.docs) in
    let all = ap (sum_by cost) (take_all c.loop-list.list-index c.args.lists.now (omega (arith, c.loop-list-test.false))) in
    omega (arith, all, c.loop-list.invariant.cost)
