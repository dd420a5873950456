-- The laws of the lists of an entry.
use Rattle.std.proofs.Common.{ℕ, ◌-◌, ◌^◌, ◌<◌, ◌≤◌, ◌≡◌, ◌&&◌, ◌++◌, Bool, List, [], ◌∷◌, length, refl, sym, ap, append_assoc, arith}
use Rattle.std.specs.Prelude.{IsTrue, nat_le, nat_lt}
use Rattle.std.specs.List.{AllByRecursion, list_all}
use Rattle.std.specs.Int.{w16, w32, w64, to_le_bytes}
use Rattle.std.proofs.lemmas.Bool.{and_from, and_parts, leb-true, le-leb, lt-ltb, ltb-true}
use Rattle.trec_formats.specs.declared.Topic.{Topic}
use Rattle.trec_formats.specs.declared.TopicList.{TopicList}
use Rattle.trec_formats.specs.Names.{is_between, is_docno, is_name}
use Rattle.rulebook.specs.Requests.Limits.{max_topics}
use Rattle.rulebook.specs.declared.rules.Rules.{Rules}
use Rattle.rulebook.specs.declared.rules.TopicLevel.{TopicLevel}
use Rattle.rulebook.specs.Spelling.{are_levels, are_rules, are_settings, differ, is_ascending, is_plain_list, is_plain_topic, is_printable, is_topic_level, level_bytes, list_bytes, long, rules_bytes, short, spelled_list, topic_bytes}
use Rattle.rulebook.specs.Words.{Text}
use Rattle.record_codec.specs.Readings.{Read, any_count, are_in_range, counted_read, docs_read, doubles_read, few_doubles, ids_differ, is_length, is_some_count, level_of, level_read, leveled_read, levels_ascend, levels_in_range, levels_read, list_of, list_read, lists_read, rules_of_parts, rules_read, settings_read, some_levels, topic_of_parts, topic_read, topics_ascend, topics_read, value_if, with_levels}
use Rattle.record_codec.proofs.FieldCodes.Codes.{Codes, both, byte_codes, changed, folded, four_texts, like, listed_codes, number_codes, tested, wide16, wide32, wide64}
use Rattle.record_codec.proofs.FieldCodes.TextCodes.{docno_codes, name_codes, printable_codes}
use Rattle.record_codec.proofs.ShortTexts.{between_most}

-- Tests of each element

pub each_passes : {X : Type 0} (test : X → Bool) (xs : List X) → AllByRecursion (λ x. IsTrue (test x)) xs
    → IsTrue (list_all test xs)
each_passes test [] all = refl
each_passes test (x ∷ xs) all = and_from (test x) (list_all test xs) all.0 (each_passes test xs all.1)

pub passes_each : {X : Type 0} (test : X → Bool) (xs : List X) → IsTrue (list_all test xs)
    → AllByRecursion (λ x. IsTrue (test x)) xs
passes_each test [] all = tt
passes_each test (x ∷ xs) all =
    let parts = and_parts (test x) (list_all test xs) all in (parts.0, passes_each test xs parts.1)

-- Items that are counted, each of which passes a test, as the list of all of them does: the count's own test is another than the one that is spelled.
module _ {X : Type 0} {spell : X → Text} {plain : X → Bool} {at : Text → Read X} (c : Codes spell (λ x. IsTrue (plain x)) at)
    (counts : ℕ → Bool) (told : ℕ → Bool) (ordered : List X → Bool)
    (from : (n : ℕ) → n < 2 ^ 32 → IsTrue (counts n) → IsTrue (told n)) (to : (n : ℕ) → IsTrue (told n) → (n < 2 ^ 32) × IsTrue (counts n)) where
  abbrev pub are_ordered : List X → Bool
  are_ordered xs = told (length xs) && list_all plain xs && ordered xs

  pub ordered_codes : Codes (spelled_list spell) (λ xs. IsTrue (are_ordered xs)) (λ bytes. value_if ordered (counted_read counts at bytes))
  ordered_codes =
      like (tested (listed_codes c counts) ordered) (spelled_list spell) (λ xs. IsTrue (are_ordered xs)) (λ xs. refl)
      (λ xs fits.
      and_from (told (length xs) && list_all plain xs) (ordered xs)
      (and_from (told (length xs)) (list_all plain xs) (from (length xs) fits.0.0.0 fits.0.0.1) (each_passes plain xs fits.0.1)) fits.1)
      (λ xs is.
      let a = and_parts (told (length xs) && list_all plain xs) (ordered xs) is in
      let b = and_parts (told (length xs)) (list_all plain xs) a.0 in
      ((to (length xs) b.0, passes_each plain xs b.1), a.1))

-- The topics that need two labels, and the rules

abbrev pub are_doubles : List Text → Bool
are_doubles texts = few_doubles (length texts) && list_all is_name texts && is_ascending texts

pub doubles_codes : Codes (spelled_list short) (λ texts. IsTrue (are_doubles texts)) doubles_read
unfolding doubles_read
doubles_codes = ordered_codes name_codes few_doubles few_doubles is_ascending (λ n small few. few)
    (λ n few. let most = leb-true n 250 few in (omega arith, few))

-- a number of each field's width, and doubles
abbrev AreSettings : Rules → Type 0
AreSettings r = (r.depth < 2 ^ 16)
    × ((r.term < 2 ^ 64) × ((r.hold < 256)
    × ((r.level < 256) × ((r.top_grade < 256) × IsTrue (are_doubles r.doubles)))))

-- rules of which no topic has a level of its own
abbrev pub HasNoLevels : Rules → Type 0
HasNoLevels r = r.levels ≡ []

without_levels : (r : Rules) → HasNoLevels r → record r { levels = [] } ≡ r
without_levels r none i = record r { levels = sym none i }

settings_codes : Codes rules_bytes (λ r. AreSettings r × HasNoLevels r) settings_read
unfolding settings_read
settings_codes =
    like (folded
    (both (number_codes w16 (2 ^ 16) wide16) (both (number_codes w64 (2 ^ 64) wide64)
    (both byte_codes (both byte_codes (both byte_codes doubles_codes)))))
    rules_of_parts (λ r. (r.depth, (r.term, (r.hold, (r.level, (r.top_grade, r.doubles)))))) HasNoLevels
    without_levels (λ p fits. refl) (λ p. refl))
    rules_bytes (λ r. AreSettings r × HasNoLevels r) (λ r. refl) (λ r fits. fits) (λ r fits. fits)

are_settings_from : (r : Rules) → AreSettings r → IsTrue (are_in_range r) → IsTrue (are_settings r)
are_settings_from r fits range =
    let a = and_parts (few_doubles (length r.doubles) && list_all is_name r.doubles)
    (is_ascending r.doubles) fits.1.1.1.1.1 in
    let b = and_parts (few_doubles (length r.doubles)) (list_all is_name r.doubles) a.0 in
    and_from (are_in_range r && few_doubles (length r.doubles) && list_all is_name r.doubles) (is_ascending r.doubles)
    (and_from (are_in_range r && few_doubles (length r.doubles)) (list_all is_name r.doubles)
    (and_from (are_in_range r) (few_doubles (length r.doubles)) range b.0) b.1) a.1

settings_parts : (r : Rules) → IsTrue (are_settings r) → AreSettings r × IsTrue (are_in_range r)
settings_parts r is =
    let few = few_doubles (length r.doubles) in
    let a = and_parts (are_in_range r && few && list_all is_name r.doubles) (is_ascending r.doubles) is in
    let b = and_parts (are_in_range r && few) (list_all is_name r.doubles) a.0 in
    let c = and_parts (are_in_range r) few b.0 in
    let d = and_parts (is_between 1 1000 r.depth && is_between 1 (2 ^ 40) r.term && is_between 1 50 r.hold
    && is_between 1 255 r.top_grade) (is_between 1 r.top_grade r.level) c.0 in
    let e = and_parts (is_between 1 1000 r.depth && is_between 1 (2 ^ 40) r.term && is_between 1 50 r.hold)
    (is_between 1 255 r.top_grade) d.0 in
    let f = and_parts (is_between 1 1000 r.depth && is_between 1 (2 ^ 40) r.term) (is_between 1 50 r.hold) e.0 in
    let g = and_parts (is_between 1 1000 r.depth) (is_between 1 (2 ^ 40) r.term) f.0 in
    let depth = between_most 1 1000 r.depth g.0 in
    let term = between_most 1 (2 ^ 40) r.term g.1 in
    let hold = between_most 1 50 r.hold f.1 in
    let top = between_most 1 255 r.top_grade e.1 in
    let level = between_most 1 r.top_grade r.level d.1 in
    let doubles = and_from (few && list_all is_name r.doubles) (is_ascending r.doubles)
    (and_from few (list_all is_name r.doubles) c.1 b.1) a.1 in
    ((omega arith, (omega arith, (omega arith, (omega arith, (omega arith, doubles))))), c.0)

pub rules_codes : Codes rules_bytes (λ r. IsTrue (are_settings r) × HasNoLevels r) rules_read
unfolding rules_read
rules_codes =
    like (tested settings_codes are_in_range) rules_bytes (λ r. IsTrue (are_settings r) × HasNoLevels r) (λ r. refl)
    (λ r fits. (are_settings_from r fits.0.0 fits.1, fits.0.1))
    (λ r is. let parts = settings_parts r is.0 in ((parts.0, is.1), parts.1))

-- The levels of topics

abbrev pub is_level : TopicLevel → Bool
is_level own = is_name own.topic && nat_lt own.level 256

level_codes : Codes level_bytes (λ own. IsTrue (is_level own)) level_read
unfolding level_read
level_codes =
    like (changed (both name_codes byte_codes) level_of (λ own. (own.topic, own.level)) (λ own. refl) (λ p. refl))
    level_bytes (λ own. IsTrue (is_level own)) (λ own. refl)
    (λ own fits. and_from (is_name own.topic) (nat_lt own.level 256) fits.0 (lt-ltb own.level 256 fits.1))
    (λ own is. let parts = and_parts (is_name own.topic) (nat_lt own.level 256) is in (parts.0, ltb-true own.level 256 parts.1))

abbrev pub are_listed_levels : List TopicLevel → Bool
are_listed_levels levels = some_levels (length levels) && list_all is_level levels && levels_ascend levels

levels_codes : Codes (spelled_list level_bytes) (λ levels. IsTrue (are_listed_levels levels)) levels_read
unfolding levels_read
levels_codes = ordered_codes level_codes some_levels some_levels levels_ascend (λ n small few. few)
    (λ n few. let most = between_most 1 250 n few in (omega arith, few))

-- each is a level of a topic that is at most the greatest grade
module _ (top : ℕ) (small : top ≤ 255) where
  abbrev in_range : TopicLevel → Bool
  in_range own = is_between 1 top own.level

  join_levels : (levels : List TopicLevel) → IsTrue (list_all is_level levels) → IsTrue (list_all in_range levels)
      → IsTrue (list_all (is_topic_level top) levels)
  join_levels [] named ranged = refl
  join_levels (own ∷ levels) named ranged =
      let a = and_parts (is_level own) (list_all is_level levels) named in
      let b = and_parts (in_range own) (list_all in_range levels) ranged in
      let c = and_parts (is_name own.topic) (nat_lt own.level 256) a.0 in
      and_from (is_topic_level top own) (list_all (is_topic_level top) levels)
      (and_from (is_name own.topic) (in_range own) c.0 b.0) (join_levels levels a.1 b.1)

  part_levels : (levels : List TopicLevel) → IsTrue (list_all (is_topic_level top) levels)
      → IsTrue (list_all is_level levels) × IsTrue (list_all in_range levels)
  part_levels [] all = (refl, refl)
  part_levels (own ∷ levels) all =
      let a = and_parts (is_topic_level top own) (list_all (is_topic_level top) levels) all in
      let b = and_parts (is_name own.topic) (in_range own) a.0 in
      let rest = part_levels levels a.1 in
      let most = between_most 1 top own.level b.1 in
      let named = and_from (is_name own.topic) (nat_lt own.level 256) b.0 (lt-ltb own.level 256 (omega arith)) in (
        and_from (is_level own) (list_all is_level levels) named rest.0,
        and_from (in_range own) (list_all in_range levels) b.1 rest.1,
      )

abbrev pub few_levels : Rules → Bool
few_levels r = nat_le (length r.levels) max_topics

abbrev pub are_topic_levels : Rules → Bool
are_topic_levels r = list_all (is_topic_level r.top_grade) r.levels

-- what is asked of the rules, one behind the other
pub rules_parts : (r : Rules) → IsTrue (are_rules r)
    → IsTrue (are_settings r) × (IsTrue (few_levels r) × (IsTrue (are_topic_levels r) × IsTrue (levels_ascend r.levels)))
rules_parts r are =
    let a = and_parts (are_settings r) (are_levels r) are in
    let b = and_parts (few_levels r && are_topic_levels r) (levels_ascend r.levels) a.1 in
    let c = and_parts (few_levels r) (are_topic_levels r) b.0 in (a.0, (c.0, (c.1, b.1)))

abbrev pub HasLevels : Rules → Type 0
HasLevels r = IsTrue (are_rules r) × (0 < length r.levels)

top_small : (r : Rules) → IsTrue (are_settings r) → r.top_grade ≤ 255
top_small r is =
    let fits = settings_parts r is in
    let below : r.top_grade < 256 = fits.0.1.1.1.1.0 in omega arith

leveled_from : (r : Rules) → IsTrue (are_settings r) → IsTrue (are_listed_levels r.levels) → IsTrue (levels_in_range r) → HasLevels r
leveled_from r settings listed ranged =
    let some = some_levels (length r.levels) in
    let a = and_parts (some && list_all is_level r.levels) (levels_ascend r.levels) listed in
    let b = and_parts some (list_all is_level r.levels) a.0 in
    let c = and_parts (nat_le 1 (length r.levels)) (few_levels r) b.0 in
    let each = join_levels r.top_grade (top_small r settings) r.levels b.1 ranged in
    let least = leb-true 1 (length r.levels) c.0 in
    let levels = and_from (few_levels r && are_topic_levels r) (levels_ascend r.levels)
    (and_from (few_levels r) (are_topic_levels r) c.1 each) a.1 in
    (and_from (are_settings r) (are_levels r) settings levels, omega arith)

leveled_parts : (r : Rules) → HasLevels r
    → IsTrue (are_settings r) × (IsTrue (are_listed_levels r.levels) × IsTrue (levels_in_range r))
leveled_parts r has =
    let parts = rules_parts r has.0 in
    let each = part_levels r.top_grade (top_small r parts.0) r.levels parts.1.1.0 in
    let some = some_levels (length r.levels) in
    let least : IsTrue (nat_le 1 (length r.levels)) = le-leb 1 (length r.levels) (omega (arith, has.1)) in
    let counted = and_from (nat_le 1 (length r.levels)) (few_levels r) least parts.1.0 in
    let listed = and_from (some && list_all is_level r.levels) (levels_ascend r.levels)
    (and_from some (list_all is_level r.levels) counted each.0) parts.1.1.1 in
    (parts.0, (listed, each.1))

pub leveled_codes : Codes (λ r. rules_bytes r ++ spelled_list level_bytes r.levels) HasLevels leveled_read
unfolding leveled_read
leveled_codes =
    like (tested (folded (both rules_codes levels_codes) with_levels (λ r. (record r { levels = [] }, r.levels)) (λ r. Unit {0})
    (λ r u. refl) (λ p fits. ap (λ (r : Rules). (r, p.1)) (without_levels p.0 fits.0.1)) (λ p. tt)) levels_in_range)
    (λ r. rules_bytes r ++ spelled_list level_bytes r.levels) HasLevels (λ r. refl)
    (λ r fits. leveled_from r fits.0.0.0.0 fits.0.0.1 fits.1)
    (λ r has. let parts = leveled_parts r has in ((((parts.0, refl), parts.1.0), tt), parts.1.1))

-- Topics

pub topic_codes : Codes topic_bytes (λ t. IsTrue (is_plain_topic t)) topic_read
unfolding topic_read
topic_codes =
    like (changed
    (both name_codes (both (printable_codes 1000 (omega arith))
    (both (printable_codes 8192 (omega arith)) (printable_codes 8192 (omega arith)))))
    topic_of_parts (λ t. (t.id, (t.title, (t.desc, t.narr)))) (λ t. refl) (λ p. refl))
    topic_bytes (λ t. IsTrue (is_plain_topic t))
    (λ t. four_texts (short t.id) (long t.title) (long t.desc) (long t.narr))
    (λ t fits.
    and_from (is_name t.id && is_printable 1000 t.title && is_printable 8192 t.desc) (is_printable 8192 t.narr)
    (and_from (is_name t.id && is_printable 1000 t.title) (is_printable 8192 t.desc)
    (and_from (is_name t.id) (is_printable 1000 t.title) fits.0 fits.1.0) fits.1.1.0) fits.1.1.1)
    (λ t is.
    let a = and_parts (is_name t.id && is_printable 1000 t.title && is_printable 8192 t.desc)
    (is_printable 8192 t.narr) is in
    let b = and_parts (is_name t.id && is_printable 1000 t.title) (is_printable 8192 t.desc) a.0 in
    let c = and_parts (is_name t.id) (is_printable 1000 t.title) b.0 in
    (c.0, (c.1, (b.1, a.1))))

abbrev pub are_topics : List Topic → Bool
are_topics topics = nat_lt (length topics) (2 ^ 32) && list_all is_plain_topic topics && ids_differ topics

pub topics_codes : Codes (spelled_list topic_bytes) (λ topics. IsTrue (are_topics topics)) topics_read
unfolding topics_read
topics_codes = ordered_codes topic_codes any_count (λ n. nat_lt n (2 ^ 32)) ids_differ (λ n small any. lt-ltb _ _ small) (λ n small. (ltb-true _ _ small, refl))

-- The lists of a run

abbrev pub are_docs : List Text → Bool
are_docs docs = is_length (length docs) && list_all is_docno docs && differ docs

pub docs_codes : Codes (spelled_list short) (λ docs. IsTrue (are_docs docs)) docs_read
unfolding docs_read
docs_codes = ordered_codes docno_codes is_length is_length differ (λ n small few. few)
    (λ n few. let most = between_most 1 1000 n few in (omega arith, few))

pub list_codes : Codes list_bytes (λ l. IsTrue (is_plain_list l)) list_read
unfolding list_read
list_codes =
    like (changed (both name_codes (both (number_codes w32 (2 ^ 32) wide32) docs_codes)) list_of
    (λ l. (l.topic, (l.line, l.docs))) (λ l. refl) (λ p. refl))
    list_bytes (λ l. IsTrue (is_plain_list l))
    (λ l. sym (append_assoc (short l.topic) (to_le_bytes w32 l.line) (spelled_list short l.docs)))
    (λ l fits.
    let a = and_parts (is_length (length l.docs) && list_all is_docno l.docs) (differ l.docs) fits.1.1 in
    let b = and_parts (is_length (length l.docs)) (list_all is_docno l.docs) a.0 in
    and_from (is_name l.topic && nat_lt l.line (2 ^ 32) && is_length (length l.docs) && list_all is_docno l.docs)
    (differ l.docs)
    (and_from (is_name l.topic && nat_lt l.line (2 ^ 32) && is_length (length l.docs)) (list_all is_docno l.docs)
    (and_from (is_name l.topic && nat_lt l.line (2 ^ 32)) (is_length (length l.docs))
    (and_from (is_name l.topic) (nat_lt l.line (2 ^ 32)) fits.0 (lt-ltb _ _ fits.1.0)) b.0) b.1) a.1)
    (λ l is.
    let a = and_parts (is_name l.topic && nat_lt l.line (2 ^ 32) && is_length (length l.docs)
    && list_all is_docno l.docs) (differ l.docs) is in
    let b = and_parts (is_name l.topic && nat_lt l.line (2 ^ 32) && is_length (length l.docs))
    (list_all is_docno l.docs) a.0 in
    let c = and_parts (is_name l.topic && nat_lt l.line (2 ^ 32)) (is_length (length l.docs)) b.0 in
    let d = and_parts (is_name l.topic) (nat_lt l.line (2 ^ 32)) c.0 in
    let docs = and_from (is_length (length l.docs) && list_all is_docno l.docs) (differ l.docs)
    (and_from (is_length (length l.docs)) (list_all is_docno l.docs) c.1 b.1) a.1 in
    (d.0, (ltb-true _ _ d.1, docs)))

abbrev pub are_lists : List TopicList → Bool
are_lists lists = is_between 1 (2 ^ 32 - 1) (length lists) && list_all is_plain_list lists && topics_ascend lists

some_lists : (n : ℕ) → n < 2 ^ 32 → IsTrue (is_some_count n) → IsTrue (is_between 1 (2 ^ 32 - 1) n)
some_lists n small some =
    let least = ltb-true 0 n some in
    and_from (nat_le 1 n) (nat_le n (2 ^ 32 - 1)) (le-leb _ _ (omega arith)) (le-leb _ _ (omega arith))

lists_counted : (n : ℕ) → IsTrue (is_between 1 (2 ^ 32 - 1) n) → (n < 2 ^ 32) × IsTrue (is_some_count n)
lists_counted n is =
    let parts = and_parts (nat_le 1 n) (nat_le n (2 ^ 32 - 1)) is in
    let least = leb-true 1 n parts.0 in
    let most = leb-true n (2 ^ 32 - 1) parts.1 in
    (omega arith, lt-ltb 0 n (omega arith))

pub lists_codes : Codes (spelled_list list_bytes) (λ lists. IsTrue (are_lists lists)) lists_read
unfolding lists_read
lists_codes = ordered_codes list_codes is_some_count (is_between 1 (2 ^ 32 - 1)) topics_ascend some_lists lists_counted
