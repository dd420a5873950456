-- The grades are those of the documents so far.
use Rattle.std.proofs.Common.{◌≡◌, ◌≤◌, List, Some, length, map, take}
use Rattle.std.specs.Prelude.{IsTrue}
use Rattle.rulebook.specs.Words.{Text}
use Rattle.campaign_core.specs.Views.LentTopics.{topic_at}
use Rattle.campaign_core.specs.Numbering.Numbers.{are_named, docs_in, names_of}
use Rattle.leave_out.specs.Reuse.{reduced_grade}
use Rattle.leave_out.proofs.precision.listed_grades.Given as goal

abbrev pub invariant-loop-place : goal.invariant-loop-place
invariant-loop-place l =
    let H = l.state.history in
    record {
      grades : (id : Text) (docs : List Text) → topic_at H l.topic ≡ Some id → IsTrue (are_named (names_of H) docs) → l.ranking ≡ docs_in (names_of H) docs
          → l.grades.items ≡ map (reduced_grade H l.group id) (take l.place docs);
      few : length l.grades.items ≤ l.place;
    }
