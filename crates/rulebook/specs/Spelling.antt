-- Entries as bytes. Integers are little-endian; a short text is a byte for its length and its bytes, a long text two
-- bytes for its length and its bytes; a list is four bytes for its count and its items.
use Rattle.std.specs.Prelude.{◌≡◌, ℕ, Bool, true, not, ◌&&◌, ◌-◌, ◌^◌, List, [], ◌∷◌, ◌++◌, Option, None, Some, map, length, nat_le, nat_lt}
use Rattle.std.specs.List.{list_all, flat_map}
use Rattle.std.specs.Int.{to_le_bytes, w16, w32, w64}
use Rattle.std.specs.Ordering.{nat_cmp, is_lt}
use Rattle.std.specs.Cmp.Lexicographic.{slice_cmp}
use Rattle.trec_formats.specs.declared.Topic.{Topic}
use Rattle.trec_formats.specs.declared.TopicList.{TopicList}
use Rattle.trec_formats.specs.Names.{is_name, is_docno, is_between}
use Rattle.rulebook.specs.Requests.Limits.{max_depth, max_desc, max_docs, max_hold, max_moment, max_narr, max_term, max_title, max_top_grade, max_topics, number_bound}
use Rattle.rulebook.specs.declared.rules.Role.{Role}
use Rattle.rulebook.specs.declared.rules.Role.TheVariants.{Organiser, Group, Assessor}
use Rattle.rulebook.specs.declared.rules.Rules.{Rules}
use Rattle.rulebook.specs.declared.rules.TopicLevel.{TopicLevel}
use Rattle.rulebook.specs.declared.ask.Command.{Command}
use Rattle.rulebook.specs.declared.ask.Command.TheVariants.{Found, Topics, Submit, Open, Lease, Grade, Release, Amend, Rule, Withdraw, Publish}
use Rattle.rulebook.specs.declared.entry.EntryCore.{EntryCore}
use Rattle.rulebook.specs.Words.{Text, contains_text}

-- The bytes

abbrev pub short : Text → Text
short text = length text ∷ text

abbrev pub long : Text → Text
long text = to_le_bytes w16 (length text) ++ text

abbrev pub spelled_list : {X : Type 0} → (X → Text) → List X → Text
spelled_list spell items = to_le_bytes w32 (length items) ++ flat_map spell items

abbrev pub role_byte : Role → ℕ
role_byte Organiser = 1
role_byte Group = 2
role_byte Assessor = 3

abbrev pub number_bytes : Option ℕ → Text
number_bytes None = 0 ∷ []
number_bytes (Some n) = 1 ∷ to_le_bytes w64 n

abbrev pub rules_bytes : Rules → Text
rules_bytes r = to_le_bytes w16 r.depth ++ to_le_bytes w64 r.term ++ r.hold ∷ r.level ∷ r.top_grade ∷ spelled_list short r.doubles

abbrev pub level_bytes : TopicLevel → Text
level_bytes own = short own.topic ++ own.level ∷ []

-- where topics have levels of their own, these stand behind the other rules, and the kind says so
abbrev pub found_bytes : Rules → List TopicLevel → Text
found_bytes r [] = 1 ∷ rules_bytes r
found_bytes r (own ∷ levels) = 12 ∷ rules_bytes r ++ spelled_list level_bytes (own ∷ levels)

abbrev pub topic_bytes : Topic → Text
topic_bytes t = short t.id ++ long t.title ++ long t.desc ++ long t.narr

abbrev pub list_bytes : TopicList → Text
list_bytes l = short l.topic ++ to_le_bytes w32 l.line ++ spelled_list short l.docs

-- The values that may be spelled

-- each is before the next in byte order
abbrev pub is_ascending : List Text → Bool
is_ascending [] = true
is_ascending (a ∷ []) = true
is_ascending (a ∷ b ∷ rest) = is_lt (slice_cmp nat_cmp a b) && is_ascending (b ∷ rest)

-- none stands twice
abbrev pub differ : List Text → Bool
differ [] = true
differ (a ∷ rest) = not (contains_text rest a) && differ rest

-- so many bytes of printable ASCII at most, the space included
abbrev pub is_printable : ℕ → Text → Bool
is_printable most text = nat_le (length text) most && list_all (is_between 32 126) text

-- the rules but for levels of topics
abbrev pub are_settings : Rules → Bool
are_settings r =
    is_between 1 max_depth r.depth && is_between 1 max_term r.term && is_between 1 max_hold r.hold
    && is_between 1 max_top_grade r.top_grade && is_between 1 r.top_grade r.level
    && nat_le (length r.doubles) max_topics && list_all is_name r.doubles && is_ascending r.doubles

abbrev pub is_topic_level : ℕ → TopicLevel → Bool
is_topic_level top own = is_name own.topic && is_between 1 top own.level

abbrev pub are_levels : Rules → Bool
are_levels r = nat_le (length r.levels) max_topics && list_all (is_topic_level r.top_grade) r.levels && is_ascending (map (λ own. own.topic) r.levels)

abbrev pub are_rules : Rules → Bool
are_rules r = are_settings r && are_levels r

abbrev pub is_plain_topic : Topic → Bool
is_plain_topic t = is_name t.id && is_printable max_title t.title && is_printable max_desc t.desc && is_printable max_narr t.narr

abbrev pub is_plain_list : TopicList → Bool
is_plain_list l = is_name l.topic && nat_lt l.line (2 ^ 32) && is_between 1 max_docs (length l.docs) && list_all is_docno l.docs && differ l.docs

-- Commands

-- the kind and the fields of a command as bytes, and whether the fields may be spelled
pub record CommandSpelling : Type 0 where
  pub bytes : Text
  pub plain : Bool

-- of a kind with a topic, a document and its grade
abbrev pub doc_grade_spelling : ℕ → Text → Text → ℕ → CommandSpelling
doc_grade_spelling kind topic doc grade =
    record { bytes = kind ∷ short topic ++ short doc ++ grade ∷ []; plain = is_name topic && is_docno doc && nat_lt grade 256 }

abbrev pub spelling : Command → CommandSpelling
spelling (Found rules) = record { bytes = found_bytes rules rules.levels; plain = are_rules rules }
spelling (Topics topics) =
    record {
      bytes = 2 ∷ spelled_list topic_bytes topics;
      plain = nat_lt (length topics) (2 ^ 32) && list_all is_plain_topic topics && differ (map (λ t. t.id) topics);
    }
spelling (Submit run lists) =
    record {
      bytes = 3 ∷ short run ++ spelled_list list_bytes lists;
      plain = is_name run && is_between 1 (2 ^ 32 - 1) (length lists) && list_all is_plain_list lists && is_ascending (map (λ l. l.topic) lists);
    }
spelling Open = record { bytes = 4 ∷ []; plain = true }
spelling (Lease topic) = record { bytes = 5 ∷ short topic; plain = is_name topic }
spelling (Grade lease grade) =
    record { bytes = 6 ∷ to_le_bytes w32 lease ++ grade ∷ []; plain = nat_lt lease (2 ^ 32) && nat_lt grade 256 }
spelling (Release lease) = record { bytes = 7 ∷ to_le_bytes w32 lease; plain = nat_lt lease (2 ^ 32) }
spelling (Amend topic doc grade) = doc_grade_spelling 8 topic doc grade
spelling (Rule topic doc grade) = doc_grade_spelling 9 topic doc grade
spelling (Withdraw run) = record { bytes = 10 ∷ short run; plain = is_name run }
spelling Publish = record { bytes = 11 ∷ []; plain = true }

abbrev pub command_bytes : Command → Text
command_bytes c = (spelling c).bytes

abbrev pub is_plain : Command → Bool
is_plain c = (spelling c).plain

-- Entries

abbrev pub entry_bytes : EntryCore → Text
entry_bytes e =
    short e.caller.name ++ role_byte e.caller.role ∷ number_bytes e.number ++ to_le_bytes w64 e.moment ++ command_bytes e.command

abbrev pub is_number : Option ℕ → Bool
is_number None = true
is_number (Some n) = nat_lt n number_bound

abbrev pub has_spelling : EntryCore → Bool
has_spelling e = is_name e.caller.name && is_number e.number && nat_le e.moment max_moment && is_plain e.command

-- the bytes are the entry's
abbrev pub IsSpelling : Text → EntryCore → Type 0
IsSpelling bytes e = (has_spelling e ≡ true) × (bytes ≡ entry_bytes e)
