use Rattle.std.proofs.Common.{◌≡◌, ◌∙◌, [], ap, arith, length, map, rules, subst}
use Rattle.std.specs.Prelude.{replicate}
use Rattle.score_index.specs.BoardGrades.{StandsFor}
use Rattle.std.proofs.lemmas.List.{length-map}
use Rattle.assessment.specs.declared.topic.TopicRules.{TopicRules}
use Rattle.assessment.proofs.RoomCounts.{no-rooms}
use Rattle.assessment.proofs.TopicBoards.{new-standing}
use Rattle.assessment.proofs.topics.Topics.new.Goals as goal

pub invariant_of-result : goal.invariant_of-result
invariant_of-result c =
    let rules = c.args.rules in
    let board = c.in_ok-board.board in
    let levels_are : c.deref-2.result.now ≡ map (λ (one : TopicRules). one.level) rules.items =
    c.deref-2.ensures.value ∙ c.in_ok-levels.ensures ∙ ap (map (λ (one : TopicRules). one.level)) c.deref.ensures.value in
    let long : length c.deref-2.result.now ≡ length rules.items = ap length levels_are ∙ length-map rules.items (λ (one : TopicRules). one.level) in
    new-standing c.in_ok-topics.topics.items rules.items board c.in_ok-topics.ensures (omega (arith, c.requires, rules.ok.0))
    (subst (λ n. StandsFor board (replicate n [])) long c.in_ok-board.ensures.stands)

pub returns : goal.returns
returns c = record { facts = search rules; none = no-rooms c.in_ok-board.board.rooms c.in_ok-board.ensures.rooms }
