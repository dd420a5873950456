use Rattle.std.proofs.Common.{◌≤◌, ◌+◌, ◌∙◌, ℕ, ap, map, subst, sym}
use Rattle.decimal_rank.specs.declared.naming.DocId.{DocId}
use Rattle.score_index.specs.Scores.{topic_scores_at}
use Rattle.score_index.specs.BoardGrades.{StandsAt, grades_at}
use Rattle.assessment.specs.Costs.{HaveLists, grade_steps}
use Rattle.assessment.specs.TopicFacts.{view_grades}
use Rattle.assessment.specs.TopicsFacts.{TopicsView, after_judgement, judgement_topic, topics_facts}
use Rattle.assessment.proofs.TopicBoards.{IsMarked, board-within, is-marked, marked-facts, marked-standing, marked-steps, stands-with, stays-small}
use Rattle.assessment.proofs.topics.Topics.mark.Given.{Over}
use Rattle.assessment.proofs.topics.Topics.mark.Goals.{After-mark-grade}
use Rattle.assessment.proofs.topics.Topics.mark.Goals as goal

marked : (g : Over) (c : After-mark-grade g)
    → IsMarked c.self.inside.board c.self.inside.topics.items c.args.mark c.place-number.result.0 c.place-number.result.1
    c.index_mut-topic.result.now c.mark-grade.new.self c.mark-grade.result.before
marked g c =
    is-marked c.self.view_is (ap (λ (p : ℕ × DocId). p.0) c.place-number.ensures) (ap (λ (p : ℕ × DocId). p.1) c.place-number.ensures)
    c.index_mut-topic.ensures.value c.self.invariant c.mark-grade.ensures.facts c.mark-grade.ensures.before
    c.requires.room c.requires.may_mark

-- the board stands for the grades before
stands : (g : Over) (c : After-mark-grade g)
    → StandsAt (topic_scores_at c.self.inside.board c.place-number.result.0) (grades_at (map view_grades c.self.inside.topics.items) c.place-number.result.0)
stands g c = c.each_topic_stands.ensures c.self.inside.board (map view_grades c.self.inside.topics.items) c.place-number.result.0
    (board-within (marked g c)) c.self.invariant.stands

pub regrade-requires-clause-topic : goal.regrade-requires-clause-topic
regrade-requires-clause-topic g c = board-within (marked g (goal.at.regrade-requires-clause-topic g c).After-mark-grade)

pub regrade-requires-clause-grade_now : goal.regrade-requires-clause-grade_now
regrade-requires-clause-grade_now g c =
    let before = (goal.at.regrade-requires-clause-grade_now g c).After-mark-grade in
    stands-with (marked g before) (stands g before)

pub regrade-requires-clause-few : goal.regrade-requires-clause-few
regrade-requires-clause-few g c =
    let before = (goal.at.regrade-requires-clause-few g c).After-mark-grade in
    stays-small (marked g before) (stands g before) c.mark-grade.result.after

pub invariant_of-self : goal.invariant_of-self
invariant_of-self g c =
    marked-standing (marked g (goal.at.invariant_of-self g c).After-mark-grade) c.regrade.new.self
    c.mark-grade.result.after c.mark-grade.ensures.after c.regrade.ensures.stands

pub returns-clause-facts : goal.returns-clause-facts
returns-clause-facts g c = record {
  facts = marked-facts (marked g (goal.at.returns-clause-facts g c).After-mark-grade) c.regrade.new.self c.regrade.ensures.lists c.regrade.ensures.shape
      ∙ ap (after_judgement c.args.mark) (ap topics_facts c.self.view_is);
  rooms = c.regrade.ensures.rooms ∙ ap (λ (v : TopicsView). v.board.rooms) c.self.view_is;
}

pub returns-clause-cost : goal.returns-clause-cost
returns-clause-cost g c = λ runs have.
    let all_have = subst (λ (v : TopicsView). HaveLists runs (topics_facts v)) (sym c.self.view_is) have in
    subst (λ (v : TopicsView). c.regrade.new.steps ≤ c.args.steps.now + grade_steps runs (judgement_topic c.args.mark) (topics_facts v)) c.self.view_is
    (marked-steps (marked g (goal.at.returns-clause-cost g c).After-mark-grade) runs c.args.steps.now
    c.mark-grade.new.steps c.regrade.new.steps c.mark-grade.ensures.cost
    (c.regrade.ensures.cost runs (λ run docs is. all_have run c.place-number.result.0 docs is)))
