use Rattle.std.proofs.Common.{◌≡◌, ◌<◌, ◌≤◌, ◌∙◌, ◌-◌, ℕ, List, ap, arith, length, refl, subst, sym, rules}
use Rattle.std.specs.Prelude.{count_by, if◌then◌else◌}
use Rattle.std.proofs.lemmas.List.{drop_all}
use Rattle.decimal_rank.specs.declared.naming.DocId.{DocId}
use Rattle.score_index.specs.Scores.{KeepsScores, Scores, rooms_for}
use Rattle.assessment.specs.RunLists.{has_length}
use Rattle.assessment.proofs.RoomCounts.{empty-length, filled-length, left-rooms, no-rooms, own-length, some-left}
use Rattle.assessment.proofs.runs.drop_lists.Goals as goal
use Rattle.assessment.proofs.runs.drop_lists.Goals.{then-len-gt0, else-len-gt0}

pub drop_room-requires : goal.drop_room-requires
drop_room-requires c =
    let docs : List DocId = c.list-item.result in
    let here : 0 < length docs = omega (arith, c.len.ensures.len, c.if-len-gt0.true) in
    some-left (has_length (length docs)) c.args.lists.now c.loop-list.list-index docs _ c.loop-list-test.true (c.loop-list.invariant.rooms (length docs))
    (ap (has_length (length docs)) (sym c.list-item.is) ∙ own-length docs here)

pub loop-list-preserved : goal.loop-list-preserved
loop-list-preserved c =
    let docs : List DocId = c.list-item.result in
    let was = c.loop-list.board in
    let now : Scores = c.if-len-gt0.board in
    let zero : (n : ℕ) → n ≡ n - 0 = λ n. omega arith in
    let rooms : (len : ℕ) → rooms_for len now ≡ rooms_for len was - (if has_length len docs then 1 else 0) = λ len.
    elim c.if-len-gt0.branch [
      | then-len-gt0 w ↦
          ap (λ (board : Scores). rooms_for len board) w.board-is ∙ w.drop_room.ensures.rooms len
          ∙ ap (λ t. rooms_for len was - (if t then 1 else 0)) (sym (filled-length docs len (omega (arith, c.len.ensures.len, w.if-len-gt0.true))))
      | else-len-gt0 w ↦
          ap (λ (board : Scores). rooms_for len board) w.board-is ∙ zero (rooms_for len was)
          ∙ ap (λ t. rooms_for len was - (if t then 1 else 0)) (sym (empty-length docs len (omega (arith, c.len.ensures.len, w.if-len-gt0.false))))
    ] in
    let scores : KeepsScores was now =
    elim c.if-len-gt0.branch [
      | then-len-gt0 w ↦ subst (KeepsScores was) (sym w.board-is) w.drop_room.ensures.scores
      | else-len-gt0 w ↦ subst (KeepsScores was) (sym w.board-is) refl
    ] in
    record {
      rooms = λ len. left-rooms (has_length len) c.args.lists.now c.loop-list.list-index docs _ _ c.loop-list-test.true (c.loop-list.invariant.rooms len)
          (rooms len ∙ ap (λ (list : List DocId). rooms_for len was - (if has_length len list then 1 else 0)) c.list-item.is);
      scores = scores ∙ c.loop-list.invariant.scores;
    }

pub returns-clause-none : goal.returns-clause-none
returns-clause-none c =
    let past : length c.args.lists.now ≤ c.loop-list.list-index = search rules in
    no-rooms c.loop-list.board.rooms
    (λ len. c.loop-list.invariant.rooms len ∙ ap (count_by (has_length len)) (drop_all c.loop-list.list-index c.args.lists.now past))
