use Rattle.std.proofs.Common.{◌≡◌, ◌∙◌, [], ap, refl, sym, subst, arith, length, map}
use Rattle.std.proofs.lemmas.List.{length-map}
use Rattle.qrels_view.specs.Grades.{is_non_relevant, is_relevant, with_grade}
use Rattle.qrels_view.proofs.NewGrades.{counts_least}
use Rattle.score_index.specs.KeptBoards.{IsTopicKept, topic_scores}
use Rattle.score_index.specs.Scores.{HasRuns, Scores, TopicScores, board_levels, no_topic, run_docs, run_docs_at, steps_of, topic_scores_at}
use Rattle.score_index.specs.BoardGrades.{StandsAt, StandsFor, StaysSmall, grades_at}
use Rattle.score_index.proofs.KeptTopics.Boards.{IsTopicOf, docs-with_regrade, docs_kept, kept_set, levels_set, stands_here, stands_set, topic-of}
use Rattle.score_index.proofs.GradeChanges.Costs.{lists_within}
use Rattle.score_index.proofs.KeptTopics.ListFacts.{zip_at}
use Rattle.score_index.proofs.GradeChanges.Standings.{can-remark, kept-regraded, stands-regraded}
use Rattle.score_index.proofs.board.Board.regrade.Given.{Over}
use Rattle.score_index.proofs.board.Board.regrade.Goals.{After-index_mut-topic}
use Rattle.score_index.proofs.board.Board.regrade.Goals as goal

topic : (g : Over) (c : After-index_mut-topic g)
    → IsTopicOf c.self.inside.topics.items (length c.self.inside.rooms.items) c.args.self.now c.args.topic c.index_mut-topic.result.now
topic g c = topic-of c.self.view_is refl c.self.invariant.0 c.requires.topic c.index_mut-topic.ensures.value

-- it stands for grades in which the document has its grade
stands : (g : Over) (c : After-index_mut-topic g) → StandsAt (topic_scores c.index_mut-topic.result.now) c.requires.grade_now.graded
stands g c = stands_here c.requires.grade_now.graded (topic g c) c.requires.grade_now.stands

small : (g : Over) (c : After-index_mut-topic g)
    → StaysSmall c.index_mut-topic.result.now.level (topic_scores c.index_mut-topic.result.now) c.args.old c.args.new
small g c =
    let of = topic g c in
    subst (λ (t : TopicScores). StaysSmall t.level t c.args.old c.args.new) of.topic_is c.requires.few

pub regrade-requires-clause-counted : goal.regrade-requires-clause-counted
regrade-requires-clause-counted g c =
    let held = stands g (goal.at.regrade-requires-clause-counted g c).After-index_mut-topic in
    let graded = c.requires.grade_now.graded in
    let level = c.index_mut-topic.result.now.level in
    record {
      relevant = omega (arith, held.relevant_is, counts_least (is_relevant level) refl c.args.doc c.args.old graded c.requires.grade_now.grade_is);
      non_relevant = omega (arith, held.non_relevant_is, counts_least (is_non_relevant level) refl c.args.doc c.args.old graded c.requires.grade_now.grade_is);
    }

pub regrade-requires-clause-few : goal.regrade-requires-clause-few
regrade-requires-clause-few g c = small g (goal.at.regrade-requires-clause-few g c).After-index_mut-topic

pub regrade-requires-clause-lists : goal.regrade-requires-clause-lists
regrade-requires-clause-lists g c =
    let before = (goal.at.regrade-requires-clause-lists g c).After-index_mut-topic in
    let few = small g before in
    can-remark c.index_mut-topic.result.now.level c.args.doc c.args.old c.args.new
    (topic_scores c.index_mut-topic.result.now) c.requires.grade_now.graded c.requires.grade_now.grade_is few.relevant few.non_relevant
    (stands g before) (topic g before).kept

pub invariant_of-self : goal.invariant_of-self
invariant_of-self g c =
    let before = (goal.at.invariant_of-self g c).After-index_mut-topic in
    let of = topic g before in
    let few = small g before in
    let level = c.index_mut-topic.result.now.level in
    let rooms = length c.self.inside.rooms.items in (
      kept_set c.self.inside.topics.items rooms rooms c.args.topic c.regrade.new.topic c.self.invariant.0 (omega arith)
          (subst (IsTopicKept) (sym c.regrade.ensures.seen)
          (kept-regraded level c.args.doc c.args.old c.args.new (topic_scores c.index_mut-topic.result.now) c.requires.grade_now.graded
          c.requires.grade_now.grade_is few.relevant few.non_relevant (stands g before) of.kept))
          c.regrade.ensures.empty (omega (arith, of.place, c.regrade.ensures.places)),
      c.self.invariant.1,
    )

pub returns-clause-stands : goal.returns-clause-stands
returns-clause-stands g c = λ grades stood is.
    let of = topic g (goal.at.returns-clause-stands g c).After-index_mut-topic in
    let level = c.index_mut-topic.result.now.level in
    let topics = c.self.inside.topics.items in
    let i = c.args.topic in
    let was = topic_scores c.index_mut-topic.result.now in
    let held = subst (λ (s : Scores). StandsFor s grades) (sym c.self.view_is) stood in
    let here : StandsAt was (grades_at grades i) =
    subst (λ (topic : TopicScores). StandsAt topic (grades_at grades i)) of.at
    (zip_at StandsAt (map topic_scores topics) grades i no_topic [] held (omega (arith, of.within, length-map topics topic_scores))) in
    stands_set topics grades i c.regrade.new.topic (with_grade c.args.doc c.args.new (grades_at grades i)) held
    (subst (λ (topic : TopicScores). StandsAt topic (with_grade c.args.doc c.args.new (grades_at grades i))) (sym c.regrade.ensures.seen)
    (stands-regraded level c.args.doc c.args.old c.args.new was (grades_at grades i) (λ k d h. (of.kept.lists k d h).distinct) is here))

pub returns-clause-lists : goal.returns-clause-lists
returns-clause-lists g c = λ run on.
    let of = topic g (goal.at.returns-clause-lists g c).After-index_mut-topic in
    let was = c.index_mut-topic.result.now in
    docs_kept run c.self.inside.topics.items c.args.topic on was c.regrade.new.topic of.within of.at
    (ap (run_docs run) c.regrade.ensures.seen ∙ docs-with_regrade run was.level c.args.doc c.args.old c.args.new (topic_scores was))
    ∙ ap (λ (s : Scores). run_docs_at s run on) c.self.view_is

pub returns-clause-cost : goal.returns-clause-cost
returns-clause-cost g c = λ runs has.
    let of = topic g (goal.at.returns-clause-cost g c).After-index_mut-topic in
    let was = c.index_mut-topic.result.now in
    let steps : steps_of runs (topic_scores_at c.args.self.now c.args.topic) ≡ steps_of runs (topic_scores was) = ap (steps_of runs) of.topic_is in
    omega (
      arith,
      steps,
      lists_within runs was.lists.items of.kept.by_run (λ run docs is. subst (HasRuns runs) of.topic_is has run docs is),
      c.regrade.ensures.cost,
    )

pub returns-clause-shape : goal.returns-clause-shape
returns-clause-shape g c =
    let of = topic g (goal.at.returns-clause-shape g c).After-index_mut-topic in
    levels_set c.self.inside.topics.items c.args.topic c.index_mut-topic.result.now c.regrade.new.topic of.within c.index_mut-topic.ensures.value
    (ap (λ (t : TopicScores). t.level) c.regrade.ensures.seen)
    ∙ ap board_levels c.self.view_is
