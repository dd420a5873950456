use Rattle.std.proofs.Common.{◌≡◌, ◌<◌, ◌∙◌, List, true, arith, get_or, length, map, ap, subst, sym}
use Rattle.std.proofs.lemmas.List.{length-map, with_items_is, get_or-map}
use Rattle.depth_pool.specs.Holdings.{has_run}
use Rattle.score_index.specs.BoardGrades.{StandsFor}
use Rattle.assessment.specs.TopicFacts.{TopicFacts, TopicView, facts_of, view_grades, without_list}
use Rattle.assessment.specs.TopicsFacts.{Becomes, IsStanding, TopicsView, after_withdrawal, facts_by, topics_facts}
use Rattle.assessment.proofs.RunChanges.RunSteps.{grades-by, told-is, without-keeps}
use Rattle.assessment.proofs.topics.Topics.leave.Goals as goal

pub leave_each-requires : goal.leave_each-requires
leave_each-requires c = λ k d within.
    let topics : List TopicView = c.deref_mut.result.now in
    let same : map facts_of topics ≡ map facts_of c.args.self.now.topics =
    ap (map facts_of) c.deref_mut.ensures.value ∙ ap (λ (v : TopicsView). map facts_of v.topics) c.self.view_is in
    let inside : k < length (map facts_of c.args.self.now.topics) = omega (arith, within, length-map topics facts_of, ap length same) in
    subst (λ (facts : TopicFacts). has_run c.args.run facts.pool ≡ true)
    (ap (λ (fs : List TopicFacts). get_or fs k d.facts) (sym same) ∙ get_or-map facts_of topics k d d.facts within) (c.requires k d.facts inside)

pub invariant_of-self : goal.invariant_of-self
invariant_of-self c =
    let all = c.self.inside in
    let new : List TopicView = c.leave_each.new.topics in
    let long : length new ≡ all.topics.len = c.leave_each.auto.topics ∙ c.deref_mut.ensures.len in
    let graded : map (λ (facts : TopicFacts). facts.graded) (map facts_of new) ≡ map (λ (facts : TopicFacts). facts.graded) (map facts_of all.topics.items) =
    ap (map (λ (facts : TopicFacts). facts.graded))
    (c.leave_each.ensures ∙ ap (λ (ts : List TopicView). map (without_list c.args.run) (map facts_of ts)) c.deref_mut.ensures.value)
    ∙ without-keeps c.args.run (map facts_of all.topics.items) in
    subst (λ (topics : List TopicView). IsStanding topics c.drop_run.new.self) (sym (with_items_is all.topics new long))
    (record {
      few = omega (arith, c.self.invariant.few, c.leave_each.auto.topics, ap length c.deref_mut.ensures.value);
      stands = subst (StandsFor c.drop_run.new.self) (sym (grades-by new all.topics.items graded))
          (c.drop_run.ensures.stands (map view_grades all.topics.items) c.self.invariant.stands);
    })

pub returns : goal.returns
returns c =
    let all = c.self.inside in
    let new : List TopicView = c.leave_each.new.topics in
    let later = c.drop_run.new.self in
    let long : length new ≡ all.topics.len = c.leave_each.auto.topics ∙ c.deref_mut.ensures.len in
    subst (λ (topics : List TopicView). Becomes (after_withdrawal c.args.run (topics_facts c.args.self.now)) c.args.self.now
    (record { topics = topics; board = later })) (sym (with_items_is all.topics new long))
    (record {
      facts = told-is new later (after_withdrawal c.args.run (facts_by all.topics.items all.board))
          (c.leave_each.ensures ∙ ap (λ (ts : List TopicView). map (without_list c.args.run) (map facts_of ts)) c.deref_mut.ensures.value)
          c.drop_run.ensures.lists c.drop_run.ensures.shape
          ∙ ap (after_withdrawal c.args.run) (ap topics_facts c.self.view_is);
      rooms = c.drop_run.ensures.rooms ∙ ap (λ (v : TopicsView). v.board.rooms) c.self.view_is;
    })
