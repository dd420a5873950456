-- The lines of a run by topic, as they are ranked.
use Rattle.std.specs.Prelude.{◌≡◌, ◌≢◌, ℕ, Bool, false, List, ◌∷◌, ◌++◌, All, AllPairs, Some, slice_get}
use Rattle.std.specs.List.Sorted.{IsPermutation}
use Rattle.std.specs.Cmp.Lexicographic.{slice_cmp}
use Rattle.std.specs.Option.{option_map}
use Rattle.std.specs.Ordering.{nat_cmp, is_lt}
use Rattle.decimal_rank.specs.Rankings.Ranks.{standing_cmp}
use Rattle.trec_formats.specs.declared.runs.lists.TopicList.{TopicList}
use Rattle.trec_formats.specs.declared.runs.RunLine.{RunLine}
use Rattle.trec_formats.specs.RunFormat.Lists.{lines_on, standing, AreRanked}

abbrev pub topic_lt : RunLine → RunLine → Bool
topic_lt a b = is_lt (slice_cmp nat_cmp a.topic b.topic)

-- no line's topic is below that of an earlier line
abbrev pub IsAscending : List RunLine → Type 0
IsAscending lines = AllPairs (λ a b. topic_lt b a ≡ false) lines

-- the lines by ascending topic, those of each topic in their order
pub record AreByTopic (lines order : List RunLine) : Type 0 where
  pub ascending : IsAscending order
  pub same : (topic : List ℕ) → lines_on topic order ≡ lines_on topic lines

-- the group is the lines in front that have the topic of the first
pub record IsFirstGroup (lines group : List RunLine) : Type 0 where
  pub first : RunLine
  pub others : List RunLine
  pub after : List RunLine
  pub group_is : group ≡ first ∷ others
  pub cut : lines ≡ group ++ after
  pub same : All (λ line. line.topic ≡ first.topic) group
  pub apart : (next : RunLine) (rest : List RunLine) → after ≡ next ∷ rest → next.topic ≢ first.topic

-- no two lines have one document
abbrev pub DocsDiffer : List RunLine → Type 0
DocsDiffer lines = AllPairs (λ a b. a.doc ≢ b.doc) lines

-- the lines by rank: none stands before an earlier one
pub record AreByRank (lines order : List RunLine) : Type 0 where
  pub same : IsPermutation lines order
  pub ranked : AllPairs (λ a b. is_lt (standing_cmp (standing a) (standing b)) ≡ false) order

-- the list of a topic's lines
pub record IsGroupList (lines : List RunLine) (list : TopicList) : Type 0 where
  pub topic : option_map (λ line. line.topic) (slice_get lines 0) ≡ Some list.topic
  pub line : option_map (λ line. line.line) (slice_get lines 0) ≡ Some list.line
  pub docs : AreRanked lines list.docs
  pub distinct : DocsDiffer lines
