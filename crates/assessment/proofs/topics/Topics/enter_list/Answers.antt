use Rattle.std.proofs.Common.{◌≡◌, ◌<◌, ◌∙◌, None, ap, arith, length, map, refl, subst, sym}
use Rattle.score_index.specs.Scores.{rooms_for, run_docs_at}
use Rattle.assessment.specs.TopicFacts.{view_grades}
use Rattle.assessment.specs.TopicsFacts.{TopicsView, after_list, topics_facts}
use Rattle.assessment.proofs.RoomCounts.{own-length}
use Rattle.assessment.proofs.TopicBoards.{HasEntered, entered-facts, entered-standing, entered-within, has-entered, left-standing, list-none, list-there, stands-entered}
use Rattle.assessment.proofs.topics.Topics.enter_list.Goals.{After-len}
use Rattle.assessment.proofs.topics.Topics.enter_list.Goals as goal

on_topic : (c : After-len)
    → HasEntered c.self.inside.board c.self.inside.topics.items c.args.number c.args.run c.args.list c.index_mut-topic.result.now c.enter.new.self
on_topic c = has-entered c.self.view_is c.requires.room.on_topic c.index_mut-topic.ensures.value c.self.invariant c.enter.ensures

pub add_run-requires-clause-topic : goal.add_run-requires-clause-topic
add_run-requires-clause-topic c = entered-within (on_topic (goal.at.add_run-requires-clause-topic c).After-len)

pub add_run-requires-clause-room : goal.add_run-requires-clause-room
add_run-requires-clause-room c =
    subst (λ (v : TopicsView). 0 < rooms_for (length c.args.list) v.board) (sym c.self.view_is)
    (c.requires.room.on_board _ (own-length c.args.list (omega (arith, c.len.ensures.len, c.if-len-gt0.true))))

pub add_run-requires-clause-grades : goal.add_run-requires-clause-grades
add_run-requires-clause-grades c =
    let entered = on_topic (goal.at.add_run-requires-clause-grades c).After-len in
    stands-entered entered c.grades.ensures.graded
    (c.each_topic_stands.ensures c.self.inside.board (map view_grades c.self.inside.topics.items) c.args.number
    (entered-within entered) c.self.invariant.stands)

pub invariant_of-self : goal.invariant_of-self
invariant_of-self c = entered-standing (on_topic (goal.at.invariant_of-self c).After-len) c.add_run.new.self c.grades.ensures.graded c.add_run.ensures.stands

pub invariant_of-self-else-len-gt0 : goal.invariant_of-self-else-len-gt0
invariant_of-self-else-len-gt0 c = left-standing (on_topic (goal.at.invariant_of-self-else-len-gt0 c).After-len)

pub returns-then-len-gt0-clause-facts : goal.returns-then-len-gt0-clause-facts
returns-then-len-gt0-clause-facts c =
    let entered = on_topic (goal.at.returns-then-len-gt0-clause-facts c).After-len in
    entered-facts entered c.add_run.new.self
    (list-there c.self.inside.board c.args.number c.args.run c.args.list c.add_run.new.self
    (omega (arith, c.len.ensures.len, c.if-len-gt0.true)) c.add_run.ensures.lists) c.add_run.ensures.shape
    ∙ ap (after_list c.args.number c.args.run c.args.list) (ap topics_facts c.self.view_is)

pub returns-else-len-gt0-clause-facts : goal.returns-else-len-gt0-clause-facts
returns-else-len-gt0-clause-facts c =
    let entered = on_topic (goal.at.returns-else-len-gt0-clause-facts c).After-len in
    let none : run_docs_at c.self.inside.board c.args.run c.args.number ≡ None =
    ap (λ (v : TopicsView). run_docs_at v.board c.args.run c.args.number) c.self.view_is ∙ c.requires.is_new.on_board in
    entered-facts entered c.self.inside.board
    (list-none c.self.inside.board c.args.number c.args.run c.args.list (omega (arith, c.len.ensures.len, c.if-len-gt0.false)) none) refl
    ∙ ap (after_list c.args.number c.args.run c.args.list) (ap topics_facts c.self.view_is)
