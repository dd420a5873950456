-- What holds of the topics of every text.
use Rattle.std.specs.Prelude.{◌≡◌, ◌≢◌, ◌&&◌, ℕ, Bool, true, nat_le, List, length, AllPairs}
use Rattle.std.specs.List.{list_all}
use Rattle.decimal_rank.specs.Bytes.{space, tilde}
use Rattle.trec_formats.specs.declared.topics.Topic.{Topic}
use Rattle.trec_formats.specs.Names.{is_between, is_name}

-- a text of at most so many bytes, each a space or visible ASCII
abbrev pub is_kept : ℕ → List ℕ → Bool
is_kept most text = nat_le (length text) most && list_all (is_between space tilde) text

abbrev pub is_sound_topic : Topic → Bool
is_sound_topic topic = is_name topic.id && is_kept 1000 topic.title && is_kept 8192 topic.desc && is_kept 8192 topic.narr

-- topics within the limits of the format, of which no two have one id
pub record AreSoundTopics (topics : List Topic) : Type 0 where
  pub each : list_all is_sound_topic topics ≡ true
  pub differ : AllPairs (λ a b. a.id ≢ b.id) topics
