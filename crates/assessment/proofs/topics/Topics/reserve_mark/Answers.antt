use Rattle.std.proofs.Common.{◌<◌, ◌∙◌, ap, arith, get_or-set_same, length, refl, rules, set}
use Rattle.std.proofs.Math.ListN.{length-set}
use Rattle.decimal_rank.proofs.Lists.{at-some, map-set_same}
use Rattle.assessment.specs.TopicFacts.{AwaitsJudgement, facts_of}
use Rattle.assessment.specs.TopicsFacts.{TopicsView, topics_facts}
use Rattle.assessment.proofs.ListFacts.{on-ok}
use Rattle.assessment.proofs.RunChanges.RunSteps.{told-same}
use Rattle.assessment.proofs.TopicBoards.{standing-same}
use Rattle.assessment.proofs.topics.Topics.reserve_mark.Goals as goal

pub invariant_of-self : goal.invariant_of-self
invariant_of-self c =
    let all = c.self.inside in
    let topics = all.topics.items in
    let new = c.reserve_mark.new.self in
    let within : c.args.number < length topics = omega (arith, c.requires, ap (λ (v : TopicsView). length v.topics) c.self.view_is) in
    let same = map-set_same facts_of topics c.args.number new c.index_mut.result.now within (search rules) in
    standing-same (set topics c.args.number new) topics all.board all.board same refl c.self.invariant

pub returns-clause-room : goal.returns-clause-room
returns-clause-room c =
    let topics = c.self.inside.topics.items in
    let new = c.reserve_mark.new.self in
    let i = c.args.number in
    let within : i < length topics = omega (arith, c.requires, ap (λ (v : TopicsView). length v.topics) c.self.view_is) in
    let inside : i < length (set topics i new) = omega (arith, within, length-set topics i new) in
    on-ok c.reserve_mark.result
    (λ (room : AwaitsJudgement c.args.doc new). at-some (AwaitsJudgement c.args.doc) (set topics i new) i new inside (rw get_or-set_same room))
    c.reserve_mark.ensures.room

pub returns-clause-unchanged : goal.returns-clause-unchanged
returns-clause-unchanged c =
    let all = c.self.inside in
    let topics = all.topics.items in
    let new = c.reserve_mark.new.self in
    let within : c.args.number < length topics = omega (arith, c.requires, ap (λ (v : TopicsView). length v.topics) c.self.view_is) in
    let same = map-set_same facts_of topics c.args.number new c.index_mut.result.now within (search rules) in
    record {
      facts = told-same (set topics c.args.number new) topics all.board all.board same refl ∙ ap topics_facts c.self.view_is;
      rooms = ap (λ (v : TopicsView). v.board.rooms) c.self.view_is;
    }
