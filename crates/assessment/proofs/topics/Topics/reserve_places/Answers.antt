use Rattle.std.proofs.Common.{◌≡◌, ◌∙◌, List, ap, length, map, refl, subst, sym}
use Rattle.std.proofs.lemmas.List.{with_items_is}
use Rattle.std.specs.Prelude.{OnOk}
use Rattle.assessment.specs.RunLists.{HavePlaces}
use Rattle.assessment.specs.TopicFacts.{TopicView, facts_of}
use Rattle.assessment.specs.TopicsFacts.{Becomes, IsStanding, TopicsView, topics_facts}
use Rattle.assessment.proofs.ListFacts.{on-ok}
use Rattle.assessment.proofs.RunChanges.RunSteps.{told-same}
use Rattle.assessment.proofs.TopicBoards.{standing-same}
use Rattle.assessment.proofs.topics.Topics.reserve_places.Goals as goal

pub invariant_of-self : goal.invariant_of-self
invariant_of-self c =
    let all = c.self.inside in
    let new : List TopicView = c.reserve_places.new.topics in
    let long : length new ≡ all.topics.len = c.reserve_places.auto.topics ∙ c.deref_mut.ensures.len in
    subst (λ (topics : List TopicView). IsStanding topics all.board) (sym (with_items_is all.topics new long))
    (standing-same new all.topics.items all.board all.board
    (c.reserve_places.ensures.facts ∙ ap (map facts_of) c.deref_mut.ensures.value) refl c.self.invariant)

pub returns-clause-room : goal.returns-clause-room
returns-clause-room c =
    let all = c.self.inside in
    let new : List TopicView = c.reserve_places.new.topics in
    let long : length new ≡ all.topics.len = c.reserve_places.auto.topics ∙ c.deref_mut.ensures.len in
    let asked : length c.args.lists.now ≡ length all.topics.items = c.requires ∙ ap (λ (v : TopicsView). length v.topics) (sym c.self.view_is) in
    let as_many : length c.args.lists.now ≡ length new = asked ∙ sym (c.reserve_places.auto.topics ∙ ap length c.deref_mut.ensures.value) in
    subst (λ (topics : List TopicView). OnOk c.reserve_places.result (HavePlaces c.args.lists.now topics)) (sym (with_items_is all.topics new long))
    (on-ok c.reserve_places.result (λ places. record { as_many = as_many; on_topics = places }) c.reserve_places.ensures.room)

pub returns-clause-unchanged : goal.returns-clause-unchanged
returns-clause-unchanged c =
    let all = c.self.inside in
    let new : List TopicView = c.reserve_places.new.topics in
    let long : length new ≡ all.topics.len = c.reserve_places.auto.topics ∙ c.deref_mut.ensures.len in
    subst (λ (topics : List TopicView). Becomes (topics_facts c.args.self.now) c.args.self.now (record { topics = topics; board = all.board }))
    (sym (with_items_is all.topics new long))
    (record {
      facts = told-same new all.topics.items all.board all.board (c.reserve_places.ensures.facts ∙ ap (map facts_of) c.deref_mut.ensures.value) refl
          ∙ ap topics_facts c.self.view_is;
      rooms = ap (λ (v : TopicsView). v.board.rooms) c.self.view_is;
    })
