use Rattle.std.proofs.Common.{◌≡◌, ◌<◌, ◌∙◌, List, false, arith, get_or, length, map, ap, refl, subst, sym}
use Rattle.std.proofs.lemmas.List.{length-map, with_items_is, get_or-map}
use Rattle.depth_pool.specs.Holdings.{has_run}
use Rattle.score_index.specs.BoardGrades.{StandsFor}
use Rattle.assessment.specs.RunLists.{HavePlaces, each_with_list}
use Rattle.assessment.specs.TopicFacts.{TopicFacts, TopicView, facts_of}
use Rattle.assessment.specs.TopicsFacts.{Becomes, IsStanding, TopicsView, after_entry, facts_by, topics_facts}
use Rattle.assessment.proofs.RunChanges.RunSteps.{each-keeps, grades-by, told-is}
use Rattle.assessment.proofs.topics.Topics.enter.Goals as goal

pub enter_each-requires-clause-room : goal.enter_each-requires-clause-room
enter_each-requires-clause-room c =
    subst (λ (topics : List TopicView). HavePlaces c.args.lists.now topics)
    (sym (c.deref_mut.ensures.value ∙ ap (λ (v : TopicsView). v.topics) c.self.view_is)) c.requires.room

pub enter_each-requires-clause-is_new : goal.enter_each-requires-clause-is_new
enter_each-requires-clause-is_new c = λ k d within.
    let topics : List TopicView = c.deref_mut.result.now in
    let same : map facts_of topics ≡ map facts_of c.args.self.now.topics =
    ap (map facts_of) c.deref_mut.ensures.value ∙ ap (λ (v : TopicsView). map facts_of v.topics) c.self.view_is in
    let inside : k < length (map facts_of c.args.self.now.topics) = omega (arith, within, length-map topics facts_of, ap length same) in
    subst (λ (facts : TopicFacts). has_run c.args.run facts.pool ≡ false)
    (ap (λ (fs : List TopicFacts). get_or fs k d.facts) (sym same) ∙ get_or-map facts_of topics k d d.facts within) (c.requires.is_new k d.facts inside)

pub invariant_of-self : goal.invariant_of-self
invariant_of-self c =
    let all = c.self.inside in
    let new : List TopicView = c.enter_each.new.topics in
    let long : length new ≡ all.topics.len = c.enter_each.auto.topics ∙ c.deref_mut.ensures.len in
    let graded : map (λ (facts : TopicFacts). facts.graded) (map facts_of new) ≡ map (λ (facts : TopicFacts). facts.graded) (map facts_of all.topics.items) =
    ap (map (λ (facts : TopicFacts). facts.graded))
    (c.enter_each.ensures ∙ ap (λ (ts : List TopicView). each_with_list c.args.run c.args.lists.now (map facts_of ts)) c.deref_mut.ensures.value)
    ∙ each-keeps c.args.run c.args.lists.now (map facts_of all.topics.items) in
    subst (λ (topics : List TopicView). IsStanding topics all.board) (sym (with_items_is all.topics new long))
    (record {
      few = omega (arith, c.self.invariant.few, c.enter_each.auto.topics, ap length c.deref_mut.ensures.value);
      stands = subst (StandsFor all.board) (sym (grades-by new all.topics.items graded)) c.self.invariant.stands;
    })

pub returns : goal.returns
returns c =
    let all = c.self.inside in
    let new : List TopicView = c.enter_each.new.topics in
    let long : length new ≡ all.topics.len = c.enter_each.auto.topics ∙ c.deref_mut.ensures.len in
    subst (λ (topics : List TopicView). Becomes (after_entry c.args.run c.args.lists.now (topics_facts c.args.self.now)) c.args.self.now
    (record { topics = topics; board = all.board })) (sym (with_items_is all.topics new long))
    (record {
      facts = told-is new all.board (after_entry c.args.run c.args.lists.now (facts_by all.topics.items all.board))
          (c.enter_each.ensures ∙ ap (λ (ts : List TopicView). each_with_list c.args.run c.args.lists.now (map facts_of ts)) c.deref_mut.ensures.value)
          (λ run on. refl) refl
          ∙ ap (after_entry c.args.run c.args.lists.now) (ap topics_facts c.self.view_is);
      rooms = ap (λ (v : TopicsView). v.board.rooms) c.self.view_is;
    })
