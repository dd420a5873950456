-- The order of a topic's runs, and the document that an assessor is told to grade next.
use Rattle.std.specs.Prelude.{ℕ, Bool, not, ◌&&◌, ◌||◌, ◌==◌, ◌+◌, List, Option, find, filter, is_some, length, nat_le, nat_lt}
use Rattle.std.specs.List.{list_all, list_any}
use Rattle.std.specs.Option.{option_and_then, option_map}
use Rattle.mtf_queue.specs.Rule.{is_before_by_trail}
use Rattle.rulebook.specs.Words.{Text}
use Rattle.rulebook.specs.Campaign.{History, Run, held_documents, level, need, numbered_runs, run_holds}
use Rattle.rulebook.specs.Judgements.Grades.{effective, is_labelled_by, labels_on, trail}
use Rattle.rulebook.specs.Judgements.Leases.{has_lease, live_leases_on}

-- whether a document is relevant; none where it has no effective grade
abbrev pub relevance : History → Text → Text → Option Bool
relevance H topic doc = option_map (λ grade. nat_le (level H topic) grade) (effective H topic doc)

-- whether a run comes before another: the last document of the trail that has an effective grade and that one of the
-- two holds alone puts its holder first where it is relevant, and last where it isn't; without one the earlier
-- submitted run is first
abbrev pub comes_before : History → Text → ℕ × Run → ℕ × Run → Bool
comes_before H topic r s =
    is_before_by_trail (λ run. run.0) (relevance H topic) (λ run doc. run_holds H topic run.1 doc) (trail H topic) r s

-- the first of these runs: it comes before each other one
abbrev pub first_of : History → Text → List (ℕ × Run) → Option (ℕ × Run)
first_of H topic runs = find (λ r. list_all (λ s. (r.0 == s.0) || comes_before H topic r s) runs) runs

-- whether a document may be leased to an assessor
abbrev pub is_open_to : History → ℕ → Text → Text → Text → Bool
is_open_to H now assessor topic doc =
    not (is_some (effective H topic doc))
    && not (is_labelled_by H topic doc assessor)
    && not (has_lease H now topic doc assessor)
    && nat_lt (length (labels_on H topic doc) + length (live_leases_on H now topic doc)) (need H topic)

abbrev pub holds_open : History → ℕ → Text → Text → ℕ × Run → Bool
holds_open H now assessor topic run = list_any (is_open_to H now assessor topic) (held_documents H topic run.1)

-- the document that an assessor is told to grade: of the live runs that hold an open one, the first one's open document of least rank
abbrev pub named_document : History → ℕ → Text → Text → Option Text
named_document H now assessor topic =
    option_and_then (λ run. find (is_open_to H now assessor topic) (held_documents H topic run.1))
    (first_of H topic (filter (holds_open H now assessor topic) (numbered_runs H)))
