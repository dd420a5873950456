use Rattle.std.proofs.Common.{◌≡◌, ◌<◌, ◌+◌, ◌∙◌, ℕ, List, Option, ap, arith, eq-eqb, length, map, refl, subst, sym, true}
use Rattle.std.specs.Prelude.{◌==◌, ◌&&◌, count_by, if◌then◌else◌, slice_index_or}
use Rattle.decimal_rank.specs.declared.naming.DocId.{DocId}
use Rattle.depth_pool.specs.declared.runs.RunId.{RunId}
use Rattle.score_index.specs.Scores.{TopicScores, no_topic, rooms_for, run_docs, run_docs_at}
use Rattle.score_index.specs.BoardGrades.{StandsAt, grades_at}
use Rattle.assessment.specs.RunLists.{unless_empty}
use Rattle.assessment.specs.TopicFacts.{view_grades}
use Rattle.assessment.specs.TopicsFacts.{TopicsView, after_one_list, facts_by, topics_facts}
use Rattle.assessment.proofs.RoomCounts.{no-rooms, used-room}
use Rattle.assessment.proofs.RunChanges.RunSteps.{told-is}
use Rattle.assessment.proofs.TopicBoards.{as-long, graded-at, list-none, list-there, listed-standing, standing-same}
use Rattle.assessment.proofs.topics.Topics.list.Goals as goal

pub add_run-requires-clause-topic : goal.add_run-requires-clause-topic
add_run-requires-clause-topic c =
    let all = c.self.inside in
    let inside : c.args.number < length all.topics.items = omega (arith, c.requires.topic, ap (λ (v : TopicsView). length v.topics) c.self.view_is) in
    omega (arith, inside, ap length c.reserve.ensures.scores, as-long all.board all.topics.items c.self.invariant.stands)

pub add_run-requires-clause-room : goal.add_run-requires-clause-room
add_run-requires-clause-room c =
    let len = length c.args.list in
    let own : (len == len) ≡ true = eq-eqb len len refl in
    let one : rooms_for len c.reserve.new.self ≡ rooms_for len c.self.inside.board + 1 =
    c.in_ok-reserve.ensures.room len ∙ ap (λ t. rooms_for len c.self.inside.board + (if t then 1 else 0)) own in
    omega (arith, one)

pub add_run-requires-clause-grades : goal.add_run-requires-clause-grades
add_run-requires-clause-grades c =
    let all = c.self.inside in
    let inside : c.args.number < length all.topics.items = omega (arith, c.requires.topic, ap (λ (v : TopicsView). length v.topics) c.self.view_is) in
    let stands : StandsAt (slice_index_or all.board.topics c.args.number no_topic) (grades_at (map view_grades all.topics.items) c.args.number) =
    c.each_topic_stands.ensures all.board (map view_grades all.topics.items) c.args.number
    (omega (arith, inside, as-long all.board all.topics.items c.self.invariant.stands)) c.self.invariant.stands in
    let seen = graded-at all.topics.items c.args.number c.index.result.now inside c.index.ensures in
    subst (StandsAt (slice_index_or c.reserve.new.self.topics c.args.number no_topic)) (seen ∙ sym c.grades.ensures.graded)
    (subst (λ (ts : List TopicScores). StandsAt (slice_index_or ts c.args.number no_topic) (grades_at (map view_grades all.topics.items) c.args.number))
    (sym c.reserve.ensures.scores) stands)

pub invariant_of-self-then-len-gt0 : goal.invariant_of-self-then-len-gt0
invariant_of-self-then-len-gt0 c =
    let all = c.self.inside in
    let inside : c.args.number < length all.topics.items = omega (arith, c.requires.topic, ap (λ (v : TopicsView). length v.topics) c.self.view_is) in
    listed-standing all.topics.items c.reserve.new.self c.add_run.new.self c.args.number c.index.result.now
    c.grades.result.now.graded inside c.index.ensures c.grades.ensures.graded
    (standing-same all.topics.items all.topics.items c.reserve.new.self all.board refl c.reserve.ensures.scores c.self.invariant) c.add_run.ensures.stands

pub returns-in_ok-reserve : goal.returns-in_ok-reserve
returns-in_ok-reserve c =
    let all = c.self.inside in
    let number = c.args.number in
    let docs = c.args.list in
    let run = c.args.run in
    let filled : 0 < length docs = omega (arith, c.len.ensures.len, c.if-len-gt0.true) in
    let same : (other : RunId) (on : ℕ) → run_docs_at c.reserve.new.self other on ≡ run_docs_at all.board other on = λ other on.
    ap (λ (ts : List TopicScores). run_docs other (slice_index_or ts on no_topic)) c.reserve.ensures.scores in
    record {
      facts = told-is all.topics.items c.add_run.new.self (after_one_list number run docs (facts_by all.topics.items all.board)) refl
          (λ other on. list-there c.reserve.new.self number run docs c.add_run.new.self filled c.add_run.ensures.lists other on
          ∙ ap (λ (rest : Option (List DocId)). if (run.0 == other.0) && (number == on) then unless_empty docs else rest) (same other on))
          (c.add_run.ensures.shape ∙ ap (map (λ (topic : TopicScores). topic.level)) c.reserve.ensures.scores)
          ∙ ap (after_one_list number run docs) (ap topics_facts c.self.view_is);
      none = no-rooms c.add_run.new.self.rooms
          (λ len. used-room (length docs == len) (rooms_for len all.board) (rooms_for len c.reserve.new.self) (rooms_for len c.add_run.new.self)
          (c.in_ok-reserve.ensures.room len) (c.add_run.ensures.rooms len)
          (ap (count_by (λ room. room == len)) (ap (λ (v : TopicsView). v.board.rooms) c.self.view_is ∙ c.requires.none)));
    }

pub returns-else-len-gt0 : goal.returns-else-len-gt0
returns-else-len-gt0 c =
    let all = c.args.self.now in
    let docs = c.args.list in
    record {
      facts = told-is all.topics all.board (after_one_list c.args.number c.args.run docs (topics_facts all)) refl
          (list-none all.board c.args.number c.args.run docs (omega (arith, c.len.ensures.len, c.if-len-gt0.false)) c.requires.is_new) refl;
      none = c.requires.none;
    }
