use Rattle.std.proofs.Common.{◌≡◌, ◌∙◌, List, ap, sym, subst, arith, map, take}
use Rattle.std.proofs.lemmas.List.{take_all}
use Rattle.measures.specs.Means.{summary_of}
use Rattle.score_index.specs.KeptBoards.{kept_cells, topic_scores}
use Rattle.score_index.specs.Scores.{Scores}
use Rattle.score_index.specs.BoardGrades.{StandsFor, cells_of}
use Rattle.score_index.specs.declared.topics.ScoredTopic.{ScoredTopic}
use Rattle.score_index.proofs.GradeChanges.Standings.{cells_are}
use Rattle.score_index.proofs.board.Board.summary.Goals as goal

pub returns-clause-summary : goal.returns-clause-summary
returns-clause-summary c = λ grades stands.
    let topics = c.self.inside.topics.items in
    let run = c.args.run in
    let i = c.loop-topic.topic-index in
    let read : List ScoredTopic = c.deref-topic-items.result.now in
    let Told : Scores → Type 0 = λ s. StandsFor s grades → c.mean.result ≡ summary_of (cells_of run s.topics grades) in
    subst Told c.self.view_is
    (λ held.
    c.mean.ensures.mean (kept_cells run (map topic_scores (take i read))) c.loop-topic.invariant.sums
    ∙ ap (λ (s : Scores). summary_of (kept_cells run (map topic_scores (take i read)))) (sym c.self.view_is)
    ∙ ap (λ (ts : List ScoredTopic). summary_of (kept_cells run (map topic_scores ts)))
    (take_all i read (omega (arith, c.loop-topic-test.false)) ∙ c.deref-topic-items.ensures.value)
    ∙ ap summary_of (cells_are run (map topic_scores topics) grades held))
    stands
