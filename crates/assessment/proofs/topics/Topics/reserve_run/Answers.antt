use Rattle.std.proofs.Common.{◌≡◌, ◌∙◌, List, ap, length, map, refl, subst, sym}
use Rattle.std.specs.Prelude.{OnOk}
use Rattle.std.proofs.lemmas.List.{with_items_is}
use Rattle.assessment.specs.RunLists.{HasRooms}
use Rattle.assessment.specs.TopicFacts.{TopicView, facts_of}
use Rattle.assessment.specs.TopicsFacts.{IsStanding, TopicsView}
use Rattle.assessment.proofs.ListFacts.{on-ok}
use Rattle.assessment.proofs.TopicBoards.{standing-same}
use Rattle.assessment.proofs.topics.Topics.reserve_run.Goals as goal

pub invariant_of-self : goal.invariant_of-self
invariant_of-self c =
    let all = c.self.inside in
    let new : List TopicView = c.reserve_places.new.topics in
    let long : length new ≡ all.topics.len = c.reserve_places.auto.topics ∙ c.deref_mut.ensures.len in
    subst (λ (topics : List TopicView). IsStanding topics all.board) (sym (with_items_is all.topics new long))
    (standing-same new all.topics.items all.board all.board
    (c.reserve_places.ensures.facts ∙ ap (map facts_of) c.deref_mut.ensures.value) refl c.self.invariant)

pub invariant_of-self-2 : goal.invariant_of-self-2
invariant_of-self-2 c =
    let all = c.self.inside in
    let new : List TopicView = c.reserve_places.new.topics in
    let long : length new ≡ all.topics.len = c.reserve_places.auto.topics ∙ c.deref_mut.ensures.len in
    subst (λ (topics : List TopicView). IsStanding topics c.reserve_lists.new.board) (sym (with_items_is all.topics new long))
    (standing-same new all.topics.items c.reserve_lists.new.board all.board
    (c.reserve_places.ensures.facts ∙ ap (map facts_of) c.deref_mut.ensures.value) c.reserve_lists.ensures.scores c.self.invariant)

pub returns-clause-ok : goal.returns-clause-ok
returns-clause-ok c =
    let all = c.self.inside in
    let new : List TopicView = c.reserve_places.new.topics in
    let board = c.reserve_lists.new.board in
    let long : length new ≡ all.topics.len = c.reserve_places.auto.topics ∙ c.deref_mut.ensures.len in
    let asked : length c.args.lists.now ≡ length all.topics.items = c.requires.as_many ∙ ap (λ (v : TopicsView). length v.topics) (sym c.self.view_is) in
    let as_many : length c.args.lists.now ≡ length new = asked ∙ sym (c.reserve_places.auto.topics ∙ ap length c.deref_mut.ensures.value) in
    subst (λ (topics : List TopicView). OnOk c.reserve_lists.result (HasRooms c.args.lists.now topics board)) (sym (with_items_is all.topics new long))
    (on-ok c.reserve_lists.result
    (λ rooms. record { on_topics = record { as_many = as_many; on_topics = c.in_ok-reserve_places.ensures.room }; on_board = rooms })
    c.reserve_lists.ensures.ok)
