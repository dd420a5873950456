use Rattle.std.proofs.Common.{◌∙◌, [], List, ap, arith, get_or, length, map, replicate, subst, sym}
use Rattle.std.specs.List.{AllZip}
use Rattle.std.proofs.lemmas.List.{length-map}
use Rattle.score_index.specs.KeptBoards.{topic_scores}
use Rattle.score_index.specs.Scores.{TopicScores, new_topic_scores, no_topic, run_docs}
use Rattle.score_index.specs.BoardGrades.{StandsAt}
use Rattle.score_index.proofs.KeptTopics.Boards.{new_are_kept, new_levels, new_stands, none_listed}
use Rattle.score_index.proofs.board.Board.new.Goals as goal

pub invariant_of-result : goal.invariant_of-result
invariant_of-result c =
    let topics = c.in_ok-new_topics.field-0.items in
    let levels = c.args.levels.now in
    let are = c.in_ok-new_topics.ensures.topics in
    let none = ap length c.new.ensures.items in (
      record {
        few = omega (arith, length-map topics topic_scores, ap length are, length-map levels new_topic_scores, c.requires);
        topics_are = new_are_kept topics levels are;
        empties = c.in_ok-new_topics.ensures.empties;
        places = λ k d within. omega (arith, none);
      },
      λ k d within. absurd (omega (arith, within, none)),
    )

pub returns-clause-levels : goal.returns-clause-levels
returns-clause-levels c = ap (map (λ (topic : TopicScores). topic.level)) c.in_ok-new_topics.ensures.topics ∙ new_levels c.args.levels.now

pub returns-clause-lists : goal.returns-clause-lists
returns-clause-lists c = λ run topic. ap (λ (ts : List TopicScores). run_docs run (get_or ts topic no_topic)) c.in_ok-new_topics.ensures.topics
    ∙ none_listed run c.args.levels.now topic

pub returns-clause-stands : goal.returns-clause-stands
returns-clause-stands c =
    subst (λ (ts : List TopicScores). AllZip StandsAt ts (replicate (length c.args.levels.now) []))
    (sym c.in_ok-new_topics.ensures.topics) (new_stands c.args.levels.now)
