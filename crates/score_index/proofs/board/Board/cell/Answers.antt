use Rattle.std.proofs.Common.{◌≡◌, ◌<◌, ◌∙◌, ap, sym, subst, arith, get_or, length, map, []}
use Rattle.std.proofs.lemmas.List.{get_or-map, length-map}
use Rattle.score_index.specs.KeptBoards.{kept_cell, topic_scores}
use Rattle.score_index.specs.Scores.{Scores, no_topic, topic_scores_at}
use Rattle.score_index.specs.BoardGrades.{StandsAt, StandsFor, cell_from, grades_at, listed_in}
use Rattle.score_index.proofs.KeptTopics.ListFacts.{zip_at}
use Rattle.score_index.proofs.GradeChanges.Standings.{cell_is}
use Rattle.score_index.proofs.board.Board.cell.Goals as goal

pub returns-clause-cell : goal.returns-clause-cell
returns-clause-cell c = λ grades stands.
    let topics = c.self.inside.topics.items in
    let run = c.args.run in
    let i = c.args.topic in
    let Told : Scores → Type 0 = λ s. StandsFor s grades → i < length s.topics
    → c.cell_in.result.now ≡ cell_from (topic_scores_at s i).level (grades_at grades i) (listed_in run (topic_scores_at s i)) in
    subst Told c.self.view_is
    (λ held within.
    let inside : i < length topics = omega (arith, within, length-map topics topic_scores) in
    let at : topic_scores c.index.result.now ≡ get_or (map topic_scores topics) i no_topic =
    ap topic_scores c.index.ensures ∙ sym (get_or-map topic_scores topics i c.index.result.now no_topic inside) in
    c.cell_in.ensures.cell ∙ ap (kept_cell run) at
    ∙ cell_is (get_or (map topic_scores topics) i no_topic).level run (get_or (map topic_scores topics) i no_topic)
    (grades_at grades i) (zip_at StandsAt (map topic_scores topics) grades i no_topic [] held within))
    stands c.requires
