use Rattle.std.proofs.Common.{◌≡◌, ◌≤◌, ◌∙◌, ◌+◌, ℕ, List, ap, subst, sym, take, take_all, length, rules}
use Rattle.std.specs.Prelude.{◌==◌, count_by, if◌then◌else◌}
use Rattle.decimal_rank.specs.declared.naming.DocId.{DocId}
use Rattle.score_index.specs.Scores.{rooms_for}
use Rattle.assessment.specs.RunLists.{has_length}
use Rattle.assessment.proofs.RoomCounts.{made-rooms}
use Rattle.assessment.proofs.runs.reserve_lists.Goals as goal

pub drop_lists-requires : goal.drop_lists-requires
drop_lists-requires c = λ len.
    subst (λ (rooms : List ℕ). count_by (λ room. room == len) rooms ≡ count_by (has_length len) (take c.loop-count.count c.args.lists.now))
    (sym c.in-Err.ensures.no_room) (c.loop-count.invariant.rooms len)

pub loop-count-preserved : goal.loop-count-preserved
loop-count-preserved c = record {
  rooms = λ len. made-rooms (has_length len) c.args.lists.now c.loop-count.count c.index-lists-count.result _ _ c.loop-count-test.true
      (c.loop-count.invariant.rooms len)
      (c.in_default.ensures.room len
      ∙ ap (λ (docs : List DocId). rooms_for len c.loop-count.board + (if has_length len docs then 1 else 0)) c.index-lists-count.is);
  scores = c.reserve_list.ensures.scores ∙ c.loop-count.invariant.scores;
}

pub returns-clause-ok : goal.returns-clause-ok
returns-clause-ok c = λ len.
    let past : length c.args.lists.now ≤ c.loop-count.count = search rules in
    c.loop-count.invariant.rooms len ∙ ap (count_by (has_length len)) (take_all c.loop-count.count c.args.lists.now past)
