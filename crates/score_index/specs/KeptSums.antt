-- What is kept of a list beside its places, and what a document's mark says.
use Rattle.std.specs.Prelude.{◌≡◌, ℕ, ◌+◌, ◌-◌, ◌≤◌, Bool, true, false, List, None, Option, Some, length, map, min, slice_index_or, slice_set, take}
use Rattle.decimal_rank.specs.Rankings.Places.{place_in}
use Rattle.decimal_rank.specs.declared.naming.DocId.{DocId}
use Rattle.measures.specs.Cells.{cutoffs}
use Rattle.measures.specs.declared.cells.Cell.{Cell}
use Rattle.rank_trees.specs.PlacesOn.{count_on}
use Rattle.score_index.specs.Filters.{AdmitsAll, Bits}
use Rattle.score_index.specs.Places.{Places, cell_by, precisions, preferences}
use Rattle.score_index.specs.Scores.{ScoreList}
use Rattle.score_index.specs.declared.relevance.Relevance.{Relevance}
use Rattle.score_index.specs.declared.relevance.Relevance.TheVariants.{Lower, Relevant, Unjudged}
use Rattle.score_index.specs.declared.sums.Sums.{Sums}

-- the sums of a list whose topic has a cap
pub record AreSums (cap : ℕ) (places : Places) (sums : Sums) : Type 0 where
  pub few : length places.relevant ≤ 1000
  pub long : length places.lower ≡ length places.relevant
  pub rel_ret : sums.rel_ret ≡ count_on places.relevant
  pub at : sums.at ≡ map (λ k. count_on (take k places.relevant)) cutoffs
  pub ap_sum : sums.ap_sum ≡ precisions 1 0 places.relevant
  pub preferences : sums.preferences ≡ preferences cap 0 places.relevant places.lower

-- whether a document with this mark is relevant
abbrev pub is_relevant_standing : Relevance → Bool
is_relevant_standing Relevant = true
is_relevant_standing Lower = false
is_relevant_standing Unjudged = false

-- whether a document with this mark is judged lower
abbrev pub is_lower_standing : Relevance → Bool
is_lower_standing Relevant = false
is_lower_standing Lower = true
is_lower_standing Unjudged = false

-- a place of the list is on, or off; where the list doesn't have the document nothing is said
abbrev pub IsOnAt : Option ℕ → Bool → List Bool → Type 0
IsOnAt None b on = Unit {0}
IsOnAt (Some place) b on = (1 ≤ place) × (place ≤ length on) × (slice_index_or on (place - 1) false ≡ b)

-- a place of the list has this mark
pub record HasRelevance (place : Option ℕ) (mark : Relevance) (places : Places) : Type 0 where
  pub relevant : IsOnAt place (is_relevant_standing mark) places.relevant
  pub lower : IsOnAt place (is_lower_standing mark) places.lower

-- the places where one is relevant, or isn't
abbrev pub with_relevant : ℕ → Bool → Places → Places
with_relevant place on places = record { relevant = slice_set places.relevant (place - 1) on; lower = places.lower }

-- the places where one is judged lower, or isn't
abbrev pub with_lower : ℕ → Bool → Places → Places
with_lower place on places = record { relevant = places.relevant; lower = slice_set places.lower (place - 1) on }

-- a cap that moves by one at most, and stays small
pub record AreNear (from to : ℕ) : Type 0 where
  pub up : to ≤ from + 1
  pub down : from ≤ to + 1
  pub few : from ≤ 268435456
  pub still_few : to ≤ 268435456

-- the places of a list
abbrev pub list_places : ScoreList → Places
list_places list = record { relevant = list.relevant; lower = list.lower }

-- the counts of a list's topic move by one at most, and stay small
pub record CanFollow (rel low : ℕ) (list : ScoreList) : Type 0 where
  pub relevant_near : AreNear list.rel rel
  pub cap_near : AreNear (min list.rel list.low) (min rel low)
  pub few_lower : low ≤ 268435456

-- a document has these marks in a list, whose topic's counts move by one at most
pub record CanRemark (doc : DocId) (relevant lower : Bool) (rel low : ℕ) (list : ScoreList) : Type 0 where
  pub relevant_at : IsOnAt (place_in list.docs doc) relevant list.relevant
  pub lower_at : IsOnAt (place_in list.docs doc) lower list.lower
  pub follows : CanFollow rel low list

-- the filter of a list admits its documents, and its sums and its cell are those of its places
pub record IsScoredList (docs : List DocId) (filter : Bits) (places : Places) (sums : Sums) (rel low : ℕ) (cell : Cell) : Type 0 where
  pub admitted : AdmitsAll filter docs
  pub long : length places.relevant ≡ length docs
  pub sums_are : AreSums (min rel low) places sums
  pub cell_is : cell ≡ cell_by places.relevant places.lower rel low
