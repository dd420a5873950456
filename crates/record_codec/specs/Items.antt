-- What lists of an entry are made of.
use Rattle.std.specs.Prelude.{Bool, length, nat_lt}
use Rattle.rulebook.specs.declared.rules.TopicLevel.{TopicLevel}
use Rattle.rulebook.specs.Words.{Text}

-- its length is a byte
abbrev pub has_byte_length : Text → Bool
has_byte_length text = nat_lt (length text) 256

-- the length of its topic is a byte
abbrev pub is_short_level : TopicLevel → Bool
is_short_level own = has_byte_length own.topic
