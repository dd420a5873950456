-- What the parts of an entry with a spelling may be written as.
use Rattle.std.proofs.Common.{◌≡◌, ◌++◌, ◌∙◌, ℕ, append_assoc, ◌^◌, ◌<◌, ◌&&◌, Bool, true, List, [], ◌∷◌, zero, suc, get_or, length, refl, arith}
use Rattle.std.specs.Prelude.{IsTrue, nat_le, nat_lt}
use Rattle.std.specs.List.{list_all}
use Rattle.std.proofs.lemmas.Bool.{and_from, and_parts, lt-ltb, ltb-true}
use Rattle.trec_formats.specs.declared.TopicList.{TopicList}
use Rattle.trec_formats.specs.Names.{is_between, is_docno, is_name}
use Rattle.rulebook.specs.Requests.Limits.{max_moment}
use Rattle.rulebook.specs.declared.rules.Rules.{Rules}
use Rattle.rulebook.specs.declared.rules.TopicLevel.{TopicLevel}
use Rattle.rulebook.specs.declared.entry.EntryCore.{EntryCore}
use Rattle.rulebook.specs.Spelling.{are_rules, are_settings, differ, has_spelling, is_ascending, is_number, is_plain, is_plain_list, is_topic_level, found_bytes, level_bytes, spelled_list, rules_bytes}
use Rattle.rulebook.specs.Words.{Text}
use Rattle.record_codec.specs.Items.{has_byte_length, is_short_level}
use Rattle.record_codec.specs.Readings.{are_in_range, few_doubles, is_length}
use Rattle.record_codec.proofs.FieldCodes.ListCodes.{rules_parts}
use Rattle.record_codec.proofs.ShortTexts.{docno_short, name_short}

abbrev pub AreShort : List Text → Type 0
AreShort texts = IsTrue (list_all has_byte_length texts)

all_short : (test : Text → Bool) → ((text : Text) → test text ≡ true → length text < 256) → (texts : List Text)
    → list_all test texts ≡ true → AreShort texts
all_short test short [] all = refl
all_short test short (text ∷ texts) all =
    let parts = and_parts (test text) (list_all test texts) all in
    and_from (has_byte_length text) (list_all has_byte_length texts) (lt-ltb (length text) 256 (short text parts.0)) (all_short test short texts parts.1)

-- each of short texts is short
pub short_at : (texts : List Text) (place : ℕ) (other : Text) → AreShort texts → place < length texts → length (get_or texts place other) < 256
short_at [] place other are less = absurd (omega (arith, less))
short_at (text ∷ texts) zero other are less = ltb-true (length text) 256 (and_parts (has_byte_length text) (list_all has_byte_length texts) are).0
short_at (text ∷ texts) (suc place) other are less =
    short_at texts place other (and_parts (has_byte_length text) (list_all has_byte_length texts) are).1 (omega (arith, less))

pub doubles_short : (r : Rules) → IsTrue (are_settings r) → AreShort r.doubles
doubles_short r is =
    let a = and_parts (are_in_range r && few_doubles (length r.doubles) && list_all is_name r.doubles)
    (is_ascending r.doubles) is in
    let b = and_parts (are_in_range r && few_doubles (length r.doubles)) (list_all is_name r.doubles) a.0 in
    all_short is_name name_short r.doubles b.1

levels_short_from : (top : ℕ) (levels : List TopicLevel) → IsTrue (list_all (is_topic_level top) levels)
    → IsTrue (list_all is_short_level levels)
levels_short_from top [] all = refl
levels_short_from top (own ∷ levels) all =
    let parts = and_parts (is_topic_level top own) (list_all (is_topic_level top) levels) all in
    let name = (and_parts (is_name own.topic) (is_between 1 top own.level) parts.0).0 in
    and_from (is_short_level own) (list_all is_short_level levels)
    (lt-ltb (length own.topic) 256 (name_short own.topic name)) (levels_short_from top levels parts.1)

-- the topics with levels are short
pub levels_short : (r : Rules) → IsTrue (are_rules r) → IsTrue (list_all is_short_level r.levels)
levels_short r are = levels_short_from r.top_grade r.levels (rules_parts r are).1.1.0

-- the rules behind their kind, and the levels behind them
pub found_joined : (text : Text) (r : Rules) (levels : List TopicLevel) → 0 < length levels
    → ((text ++ 12 ∷ []) ++ rules_bytes r) ++ spelled_list level_bytes levels ≡ text ++ found_bytes r levels
found_joined text r [] some = absurd (omega (arith, some))
found_joined text r (own ∷ levels) some =
    append_assoc (text ++ 12 ∷ []) (rules_bytes r) (spelled_list level_bytes (own ∷ levels))
    ∙ append_assoc text (12 ∷ []) (rules_bytes r ++ spelled_list level_bytes (own ∷ levels))

pub docs_short : (l : TopicList) → IsTrue (is_plain_list l) → AreShort l.docs
docs_short l is =
    let a = and_parts (is_name l.topic && nat_lt l.line (2 ^ 32) && is_length (length l.docs)
    && list_all is_docno l.docs) (differ l.docs) is in
    let b = and_parts (is_name l.topic && nat_lt l.line (2 ^ 32) && is_length (length l.docs))
    (list_all is_docno l.docs) a.0 in
    all_short is_docno docno_short l.docs b.1

pub command_plain : (core : EntryCore) → IsTrue (has_spelling core) → IsTrue (is_plain core.command)
command_plain core is =
    (and_parts (is_name core.caller.name && is_number core.number && nat_le core.moment max_moment)
    (is_plain core.command) is).1
