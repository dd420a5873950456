use Rattle.std.proofs.Common.{◌≡◌, ◌≤◌, ◌∙◌, [], None, Some, arith, rules, subst, sym}
use Rattle.std.specs.Prelude.{find}
use Rattle.measures.specs.Cells.{IsSound}
use Rattle.rank_trees.specs.PlacesOn.{count_on}
use Rattle.score_index.specs.KeptBoards.{IsListKept, topic_scores}
use Rattle.score_index.specs.Scores.{ScoreList, is_of_run}
use Rattle.score_index.proofs.Cells.ByPlaces.{by-places}
use Rattle.score_index.proofs.Cells.KeptCells.{cell-sound, empty-cell, found-cell}
use Rattle.score_index.proofs.GradeChanges.Standings.{found_all}
use Rattle.score_index.proofs.topics.cell_in.Goals as goal

pub returns-in-Some-clause-cell : goal.returns-in-Some-clause-cell
returns-in-Some-clause-cell c =
    let list : ScoreList = c.in-Some.list.now in
    let found : find (is_of_run c.args.run) c.args.topic.now.lists.items ≡ Some list = search rules in
    let kept = found_all (IsListKept c.args.topic.now.counts.relevant c.args.topic.now.counts.non_relevant)
    (is_of_run c.args.run) c.args.topic.now.lists.items list c.requires.kept.lists found in
    c.cell.ensures ∙ found-cell c.args.run (topic_scores c.args.topic.now) list found kept

pub returns-in-Some-clause-sound : goal.returns-in-Some-clause-sound
returns-in-Some-clause-sound c =
    let list : ScoreList = c.in-Some.list.now in
    let found : find (is_of_run c.args.run) c.args.topic.now.lists.items ≡ Some list = search rules in
    let kept = found_all (IsListKept c.args.topic.now.counts.relevant c.args.topic.now.counts.non_relevant)
    (is_of_run c.args.run) c.args.topic.now.lists.items list c.requires.kept.lists found in
    subst IsSound (sym (c.cell.ensures))
    (cell-sound list.relevant list.lower list.rel list.low (subst (λ r. count_on list.relevant ≤ r) (sym kept.rel_is) kept.relevant_within))

pub returns-in-None-clause-cell : goal.returns-in-None-clause-cell
returns-in-None-clause-cell c =
    let none : find (is_of_run c.args.run) c.args.topic.now.lists.items ≡ None = search rules in
    c.requires.empty ∙ empty-cell c.args.topic.now.level c.args.run (topic_scores c.args.topic.now) none

pub returns-in-None-clause-sound : goal.returns-in-None-clause-sound
returns-in-None-clause-sound c =
    subst IsSound (sym (c.requires.empty ∙ by-places [] c.args.topic.now.counts.relevant c.args.topic.now.counts.non_relevant c.args.topic.now.level))
    (cell-sound [] [] c.args.topic.now.counts.relevant c.args.topic.now.counts.non_relevant (omega arith))
