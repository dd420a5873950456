use Rattle.std.proofs.Common.{◌≡◌, ◌∙◌, List, length, subst, sym}
use Rattle.decimal_rank.specs.declared.naming.DocId.{DocId}
use Rattle.assessment.specs.Changes.{HasRunRoom}
use Rattle.assessment.specs.TopicsFacts.{Becomes, after_entry, topics_facts}
use Rattle.assessment.proofs.RunChanges.WaitingChanges.{waits-come, waits-listed}
use Rattle.assessment.proofs.effects.enter.Goals.{After-enter-2}
use Rattle.assessment.proofs.effects.enter.Goals as goal

becomes : (c : After-enter-2) → Becomes (after_entry c.args.run c.args.lists.items (topics_facts c.args.topics.now)) c.args.topics.now c.enter.new.self
becomes c = subst (λ (lists : List (List DocId)). Becomes (after_entry c.args.run lists (topics_facts c.args.topics.now)) c.args.topics.now c.enter.new.self)
    c.as_slice.ensures.value c.enter.ensures

pub returns-clause-facts : goal.returns-clause-facts
returns-clause-facts c =
    waits-listed c.args.run c.args.lists.items c.args.topics.now c.enter.new.self c.args.waiting.now c.enter-2.new.self
    (becomes (goal.at.returns-clause-facts c).After-enter-2) c.enter-2.ensures

pub returns-clause-may_come : goal.returns-clause-may_come
returns-clause-may_come c =
    let at = (goal.at.returns-clause-may_come c).After-enter-2 in
    let many : length c.args.lists.items ≡ length c.args.topics.now.topics =
    (subst (λ t. HasRunRoom t c.args.lists.items c.args.topics.now c.args.waiting.now)
    (sym c.is_on_board.ensures.on_board ∙ c.if-is_on_board.false) c.requires.room).0.as_many in
    waits-come c.args.run c.args.lists.items c.args.topics.now c.enter.new.self c.args.waiting.now c.enter-2.new.self
    (becomes at) c.enter-2.ensures c.requires.may_come c.requires.is_new many
