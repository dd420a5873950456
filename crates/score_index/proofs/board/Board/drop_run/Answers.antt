use Rattle.std.proofs.Common.{◌≡◌, ◌≤◌, ◌∙◌, None, List, [], ◌∷◌, ap, refl, sym, subst, arith, cond, eqb, get_or, length, map}
use Rattle.std.specs.Prelude.{All}
use Rattle.std.specs.List.{AllZip}
use Rattle.std.specs.Vec.{with_items}
use Rattle.std.proofs.lemmas.List.{with_items_is}
use Rattle.depth_pool.specs.declared.runs.RunId.{RunId}
use Rattle.score_index.specs.KeptBoards.{HasEmptyCell, IsKept, IsTopicKept, scores_without_run, spare, topic_scores}
use Rattle.score_index.specs.Scores.{Scores, TopicScores, board_levels, no_topic, run_docs, run_docs_at}
use Rattle.score_index.specs.BoardGrades.{StandsAt, StandsFor}
use Rattle.score_index.specs.declared.topics.ScoredTopic.{ScoredTopic}
use Rattle.score_index.proofs.KeptTopics.Boards.{all_seen, docs_dropped}
use Rattle.score_index.proofs.KeptTopics.ListFacts.{zip-map}
use Rattle.score_index.proofs.GradeChanges.Standings.{kept-without, stands-without}
use Rattle.score_index.proofs.board.Board.drop_run.Goals.{After-drop_run}
use Rattle.score_index.proofs.board.Board.drop_run.Goals as goal

items_are : (c : After-drop_run) → (with_items c.self.inside.topics c.drop_run.new.topics).items ≡ c.drop_run.new.topics
items_are c = with_items_is c.self.inside.topics c.drop_run.new.topics (omega (arith, c.drop_run.auto.topics, c.deref_mut.ensures.len))

-- what contracts see of the topics
are : (c : After-drop_run) → map topic_scores c.drop_run.new.topics ≡ map (scores_without_run c.args.run) (map topic_scores c.self.inside.topics.items)
are c = c.drop_run.ensures.seen ∙ ap (λ (ts : List ScoredTopic). map (scores_without_run c.args.run) (map topic_scores ts)) c.deref_mut.ensures.value

pub invariant_of-self : goal.invariant_of-self
invariant_of-self c =
    let all = (goal.at.invariant_of-self c).After-drop_run in
    let topics = c.self.inside.topics.items in
    let new = c.drop_run.new.topics in
    let rooms = length c.self.inside.rooms.items in (
      subst (λ (ts : List ScoredTopic). IsKept ts rooms) (sym (items_are all)) (record {
        few = omega (arith, c.self.invariant.0.few, ap length c.deref_mut.ensures.value, c.drop_run.auto.topics);
        topics_are = all_seen (IsTopicKept) (scores_without_run c.args.run) topics new (kept-without c.args.run) (are all) c.self.invariant.0.topics_are;
        empties = c.drop_run.ensures.kept.empties (subst (All HasEmptyCell) (sym c.deref_mut.ensures.value) c.self.invariant.0.empties);
        places = c.drop_run.ensures.kept.places rooms
            (subst (All (λ (topic : ScoredTopic). rooms ≤ spare topic)) (sym c.deref_mut.ensures.value) c.self.invariant.0.places);
      }),
      c.self.invariant.1,
    )

pub returns-clause-stands : goal.returns-clause-stands
returns-clause-stands c = λ grades stood.
    let all = (goal.at.returns-clause-stands c).After-drop_run in
    let topics = c.self.inside.topics.items in
    let held = subst (λ (s : Scores). StandsFor s grades) (sym c.self.view_is) stood in
    let kept : AllZip StandsAt (map (scores_without_run c.args.run) (map topic_scores topics)) grades =
    zip-map StandsAt (scores_without_run c.args.run) (λ topic graded. stands-without topic.level c.args.run topic graded)
    (map topic_scores topics) grades held in
    subst (λ (ts : List TopicScores). AllZip StandsAt ts grades) (sym (ap (map topic_scores) (items_are all) ∙ are all)) kept

pub returns-clause-lists : goal.returns-clause-lists
returns-clause-lists c = λ other on.
    let all = (goal.at.returns-clause-lists c).After-drop_run in
    ap (λ (ts : List TopicScores). run_docs other (get_or ts on no_topic)) (ap (map topic_scores) (items_are all) ∙ are all)
    ∙ docs_dropped c.args.run other (map topic_scores c.self.inside.topics.items) on
    ∙ ap (λ (s : Scores). cond (eqb c.args.run.0 other.0) None (run_docs_at s other on)) c.self.view_is

levels_without : (run : RunId) (topics : List TopicScores)
    → map (λ (topic : TopicScores). topic.level) (map (scores_without_run run) topics) ≡ map (λ (topic : TopicScores). topic.level) topics
levels_without run [] = refl
levels_without run (topic ∷ topics) = ap (λ ls. topic.level ∷ ls) (levels_without run topics)

pub returns-clause-shape : goal.returns-clause-shape
returns-clause-shape c =
    let all = (goal.at.returns-clause-shape c).After-drop_run in
    ap (map (λ (topic : TopicScores). topic.level)) (ap (map topic_scores) (items_are all) ∙ are all)
    ∙ levels_without c.args.run (map topic_scores c.self.inside.topics.items) ∙ ap board_levels c.self.view_is
