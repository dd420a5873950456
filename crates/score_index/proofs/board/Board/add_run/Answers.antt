use Rattle.std.proofs.Common.{◌≡◌, ◌∙◌, ◌&&◌, cond, eqb, Some, None, ap, refl, sym, subst, arith, length}
use Rattle.score_index.specs.KeptBoards.{IsTopicKept, listed_with, scores_with_list, topic_scores}
use Rattle.score_index.specs.Scores.{ScoreList, Scores, TopicScores, board_levels, run_docs, run_docs_at}
use Rattle.score_index.specs.BoardGrades.{ListStandsFor, StandsAt, StandsFor}
use Rattle.score_index.proofs.KeptTopics.Boards.{IsTopicOf, docs_added, empty_with_list, kept_set, levels_set, stands_here, stands_set, topic-of}
use Rattle.score_index.proofs.GradeChanges.Standings.{kept-with_list, stands-with_list}
use Rattle.score_index.proofs.board.Board.add_run.Goals.{After-add_list}
use Rattle.score_index.proofs.board.Board.add_run.Goals as goal

topic : (c : After-add_list) → IsTopicOf c.self.inside.topics.items (length c.self.inside.rooms.items) c.args.self.now c.args.topic c.index_mut-topic.result.now
topic c = topic-of c.self.view_is refl c.self.invariant.0 c.requires.topic c.index_mut-topic.ensures.value

-- the list that is added to it
abbrev list : After-add_list → ScoreList
list c = listed_with c.index_mut-topic.result.now.level c.args.view.now.graded c.args.run c.args.ranking
    c.index_mut-topic.result.now.counts.relevant c.index_mut-topic.result.now.counts.non_relevant

stands : (c : After-add_list) → ListStandsFor c.index_mut-topic.result.now.level c.args.view.now.graded (list c)
stands c = record { relevant_are = refl; lower_are = refl }

topic_stands : (c : After-add_list) → StandsAt (topic_scores c.index_mut-topic.result.now) c.args.view.now.graded
topic_stands c = stands_here c.args.view.now.graded (topic c) c.requires.grades

added : (c : After-add_list) → topic_scores c.add_list.new.topic ≡ scores_with_list (list c) (topic_scores c.index_mut-topic.result.now)
added c = c.add_list.ensures.seen ∙ ap (λ (l : ScoreList). scores_with_list l (topic_scores c.index_mut-topic.result.now)) c.listed-list.ensures

none : (c : After-add_list) → run_docs c.args.run (topic_scores c.index_mut-topic.result.now) ≡ None
none c = ap (run_docs c.args.run) (sym (topic c).topic_is) ∙ c.requires.is_new

pub add_list-requires-clause-by_run : goal.add_list-requires-clause-by_run
add_list-requires-clause-by_run c =
    let of : IsTopicOf c.self.inside.topics.items (length c.self.inside.rooms.items) c.args.self.now c.args.topic c.index_mut-topic.result.now =
    topic-of c.self.view_is refl c.self.invariant.0 c.requires.topic c.index_mut-topic.ensures.value in
    of.kept.by_run

pub invariant_of-self : goal.invariant_of-self
invariant_of-self c =
    let all = (goal.at.invariant_of-self c).After-add_list in
    let of = topic all in
    let was = c.index_mut-topic.result.now in
    let level = was.level in (
      kept_set c.self.inside.topics.items (length c.self.inside.rooms.items)
          (length c.take_room-room.new.rooms.items) c.args.topic c.add_list.new.topic c.self.invariant.0 (omega (arith, c.take_room-room.ensures.one))
          (subst IsTopicKept (sym (added all))
          (kept-with_list level (topic_scores was) c.args.view.now.graded (list all) c.len.ensures.few c.len.ensures.distinct
          (stands all) refl refl (none all) (topic_stands all) of.kept))
          (empty_with_list was c.add_list.new.topic (list all) c.add_list.ensures.empty (added all) of.empty)
          (omega (arith, of.place, c.add_list.ensures.places, c.take_room-room.ensures.one)),
      c.take_room-room.ensures.fresh,
    )

pub returns-clause-stands : goal.returns-clause-stands
returns-clause-stands c = λ grades stood.
    let all = (goal.at.returns-clause-stands c).After-add_list in
    let level = c.index_mut-topic.result.now.level in
    let graded = c.args.view.now.graded in
    stands_set c.self.inside.topics.items grades c.args.topic c.add_list.new.topic graded
    (subst (λ (s : Scores). StandsFor s grades) (sym c.self.view_is) stood)
    (subst (λ (topic : TopicScores). StandsAt topic graded) (sym (added all))
    (stands-with_list level (topic_scores c.index_mut-topic.result.now) graded (list all) (stands all) (topic_stands all)))

pub returns-clause-lists : goal.returns-clause-lists
returns-clause-lists c = λ other on.
    let all = (goal.at.returns-clause-lists c).After-add_list in
    let of = topic all in
    docs_added other c.self.inside.topics.items c.args.topic on c.index_mut-topic.result.now c.add_list.new.topic
    (list all) of.within of.at (added all) (none all)
    ∙ ap (λ (s : Scores). cond (eqb c.args.run.0 other.0 && eqb c.args.topic on) (Some c.args.ranking) (run_docs_at s other on)) c.self.view_is

pub returns-clause-shape : goal.returns-clause-shape
returns-clause-shape c =
    let all = (goal.at.returns-clause-shape c).After-add_list in
    levels_set c.self.inside.topics.items c.args.topic c.index_mut-topic.result.now c.add_list.new.topic
    (topic all).within c.index_mut-topic.ensures.value (ap (λ (t : TopicScores). t.level) (added all))
    ∙ ap board_levels c.self.view_is
