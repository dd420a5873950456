-- How many lines each topic has, as a list of topics and a list of counts.
use Rattle.std.specs.Prelude.{◌≡◌, ◌≤◌, ◌<◌, ◌+◌, ℕ, Bool, List, [], ◌∷◌, length, if◌then◌else◌, MatchBool, slice_index_or, bytes_eq, set}
use Rattle.trec_formats.specs.declared.runs.topic_counts.TopicCounts.{TopicCounts}

-- the count of a topic; 0 where it isn't among them
abbrev pub count_in : List (List ℕ) → List ℕ → List ℕ → ℕ
count_in (name ∷ names) (count ∷ counts) topic = if bytes_eq topic name then count else count_in names counts topic
count_in (name ∷ names) [] topic = 0
count_in [] counts topic = 0

abbrev pub count_at : TopicCounts → List ℕ → ℕ
count_at counts topic = count_in counts.topics counts.counts.items topic

-- each topic has a count, which is at most 1,000
pub record AreTopicCounts (counts : TopicCounts) : Type 0 where
  pub sized : length counts.counts.items ≡ length counts.topics
  pub most : (topic : List ℕ) → count_at counts topic ≤ 1000

-- whether a count was below 1,000, and the counts with one more there if so
abbrev pub IsOneMore : List ℕ → ℕ → Bool → List ℕ → Type 0
IsOneMore old place counted new = MatchBool counted
    ((slice_index_or old place 0 < 1000) × (new ≡ set old place (slice_index_or old place 0 + 1)))
    ((1000 ≤ slice_index_or old place 0) × (new ≡ old))
