-- What bytes give, read from left to right: a value that stands at their front and the bytes behind it, or nothing.
use Rattle.std.specs.Prelude.{ℕ, zero, suc, Bool, true, ◌&&◌, ◌==◌, if◌then◌else◌, List, [], ◌∷◌, Option, None, Some, length, map, take, drop, nat_lt, nat_le}
use Rattle.std.specs.Int.{Width, byte_len, from_le_bytes, w16, w32, w64}
use Rattle.std.specs.List.{list_all}
use Rattle.std.specs.Option.{option_and_then, option_map}
use Rattle.trec_formats.specs.declared.Topic.{Topic}
use Rattle.trec_formats.specs.declared.TopicList.{TopicList}
use Rattle.trec_formats.specs.Names.{is_between, is_docno, is_name}
use Rattle.rulebook.specs.Requests.Limits.{max_depth, max_desc, max_docs, max_hold, max_moment, max_narr, max_term, max_title, max_top_grade, max_topics, number_bound}
use Rattle.rulebook.specs.declared.rules.Caller.{Caller}
use Rattle.rulebook.specs.declared.rules.Role.{Role}
use Rattle.rulebook.specs.declared.rules.Role.TheVariants.{Organiser, Group, Assessor}
use Rattle.rulebook.specs.declared.rules.Rules.{Rules}
use Rattle.rulebook.specs.declared.rules.TopicLevel.{TopicLevel}
use Rattle.rulebook.specs.declared.ask.Command.{Command}
use Rattle.rulebook.specs.declared.ask.Command.TheVariants as command
use Rattle.rulebook.specs.declared.entry.EntryCore.{EntryCore}
use Rattle.rulebook.specs.Spelling.{differ, is_ascending, is_printable}
use Rattle.rulebook.specs.Words.{Text}
use Rattle.record_codec.specs.declared.layout.TheConstants.{AMEND, ASSESSOR, FOUND, FOUND_WITH_LEVELS, GRADE, GROUP, LEASE, NUMBERED, OPEN, ORGANISER, PUBLISH, RELEASE, RULE, SUBMIT, TOPICS, UNNUMBERED, WITHDRAW}

abbrev pub Read : Type 0 → Type 0
Read X = Option (X × Text)

-- Readings from readings

-- a value that passes a test
abbrev pub value_if : {X : Type 0} → (X → Bool) → Read X → Read X
value_if test read = option_and_then (λ x. if test x.0 then Some x else None) read

-- a value and one behind it
abbrev pub before : {X Y : Type 0} → (Text → Read X) → (Text → Read Y) → Text → Read (X × Y)
before first second bytes =
    option_and_then (λ x. option_and_then (λ y. Some ((x.0, y.0), y.1)) (second x.1)) (first bytes)

-- what is made of a value
abbrev pub value_by : {X Y : Type 0} → (X → Y) → Read X → Read Y
value_by f read = option_map (λ x. (f x.0, x.1)) read

-- so many items
unfoldable pub items_read : {X : Type 0} → (Text → Read X) → ℕ → Text → Read (List X)
items_read item zero bytes = Some ([], bytes)
items_read item (suc n) bytes =
    option_and_then (λ x. option_and_then (λ xs. Some (x.0 ∷ xs.0, xs.1)) (items_read item n x.1)) (item bytes)

-- a value that is all of the bytes
abbrev pub whole_value : {X : Type 0} → Read X → Option X
whole_value read = option_and_then (λ x. if length x.1 == 0 then Some x.0 else None) read

-- Numbers and texts

abbrev pub byte_read : Text → Read ℕ
byte_read [] = None
byte_read (b ∷ rest) = Some (b, rest)

unfoldable pub bytes_read : ℕ → Text → Read Text
bytes_read n bytes = if nat_lt (length bytes) n then None else Some (take n bytes, drop n bytes)

unfoldable pub number_read : Width → Text → Read ℕ
number_read w bytes = if nat_lt (length bytes) (byte_len w) then None else Some
    (from_le_bytes w (take (byte_len w) bytes), drop (byte_len w) bytes)

unfoldable pub short_read : Text → Read Text
short_read bytes = option_and_then (λ n. bytes_read n.0 n.1) (byte_read bytes)

unfoldable pub long_read : Text → Read Text
long_read bytes = option_and_then (λ n. bytes_read n.0 n.1) (number_read w16 bytes)

unfoldable pub name_read : Text → Read Text
name_read bytes = value_if is_name (short_read bytes)

unfoldable pub docno_read : Text → Read Text
docno_read bytes = value_if is_docno (short_read bytes)

unfoldable pub printable_read : ℕ → Text → Read Text
printable_read most bytes = value_if (is_printable most) (long_read bytes)

-- a count that passes a test, and so many items
unfoldable pub counted_read : {X : Type 0} → (ℕ → Bool) → (Text → Read X) → Text → Read (List X)
counted_read test item bytes = option_and_then (λ n. items_read item n.0 n.1) (value_if test (number_read w32 bytes))

-- The head of an entry

unfoldable pub role_of : ℕ → Option Role
role_of b = if b == ORGANISER then Some Organiser else
    (if b == GROUP then Some Group else (if b == ASSESSOR then Some Assessor else None))

unfoldable pub role_read : Text → Read Role
role_read bytes = option_and_then (λ b. option_map (λ role. (role, b.1)) (role_of b.0)) (byte_read bytes)

abbrev pub caller_of : Text × Role → Caller
caller_of p = record { name = p.0; role = p.1 }

unfoldable pub caller_read : Text → Read Caller
caller_read bytes = value_by caller_of (before name_read role_read bytes)

abbrev pub is_below_bound : ℕ → Bool
is_below_bound n = nat_lt n number_bound

abbrev pub numbered_of : ℕ → Text → Read (Option ℕ)
numbered_of b rest =
    if b == UNNUMBERED then Some (None, rest) else
    (if b == NUMBERED then value_by Some (value_if is_below_bound (number_read w64 rest)) else None)

-- the number of a request, if it has one
unfoldable pub request_read : Text → Read (Option ℕ)
request_read bytes = option_and_then (λ b. numbered_of b.0 b.1) (byte_read bytes)

abbrev pub is_moment : ℕ → Bool
is_moment moment = nat_le moment max_moment

unfoldable pub moment_read : Text → Read ℕ
moment_read bytes = value_if is_moment (number_read w64 bytes)

-- The fields of commands

abbrev pub few_doubles : ℕ → Bool
few_doubles n = nat_le n max_topics

unfoldable pub doubles_read : Text → Read (List Text)
doubles_read bytes = value_if is_ascending (counted_read few_doubles name_read bytes)

abbrev pub rules_of_parts : ℕ × (ℕ × (ℕ × (ℕ × (ℕ × List Text)))) → Rules
rules_of_parts p = record { depth = p.0; term = p.1.0; hold = p.1.1.0; level = p.1.1.1.0; top_grade = p.1.1.1.1.0; doubles = p.1.1.1.1.1; levels = [] }

-- the rules as they stand, whatever their numbers
unfoldable pub settings_read : Text → Read Rules
settings_read bytes = value_by rules_of_parts (before (number_read w16)
    (before (number_read w64) (before byte_read (before byte_read (before byte_read doubles_read)))) bytes)

-- the numbers are in their ranges
abbrev pub are_in_range : Rules → Bool
are_in_range r =
    is_between 1 max_depth r.depth && is_between 1 max_term r.term && is_between 1 max_hold r.hold
    && is_between 1 max_top_grade r.top_grade && is_between 1 r.top_grade r.level

unfoldable pub rules_read : Text → Read Rules
rules_read bytes = value_if are_in_range (settings_read bytes)

-- the levels of topics

abbrev pub level_of : Text × ℕ → TopicLevel
level_of p = record { topic = p.0; level = p.1 }

unfoldable pub level_read : Text → Read TopicLevel
level_read bytes = value_by level_of (before name_read byte_read bytes)

abbrev pub some_levels : ℕ → Bool
some_levels n = is_between 1 max_topics n

abbrev pub levels_ascend : List TopicLevel → Bool
levels_ascend levels = is_ascending (map (λ own. own.topic) levels)

unfoldable pub levels_read : Text → Read (List TopicLevel)
levels_read bytes = value_if levels_ascend (counted_read some_levels level_read bytes)

abbrev pub with_levels : Rules × List TopicLevel → Rules
with_levels p = record p.0 { levels = p.1 }

-- the levels are in their range
abbrev pub levels_in_range : Rules → Bool
levels_in_range r = list_all (λ own. is_between 1 r.top_grade own.level) r.levels

-- the rules, and behind them levels of topics
unfoldable pub leveled_read : Text → Read Rules
leveled_read bytes = value_if levels_in_range (value_by with_levels (before rules_read levels_read bytes))

abbrev pub topic_of_parts : Text × (Text × (Text × Text)) → Topic
topic_of_parts p = record { id = p.0; title = p.1.0; desc = p.1.1.0; narr = p.1.1.1 }

unfoldable pub topic_read : Text → Read Topic
topic_read bytes = value_by topic_of_parts (before name_read
    (before (printable_read max_title) (before (printable_read max_desc) (printable_read max_narr))) bytes)

abbrev pub any_count : ℕ → Bool
any_count n = true

abbrev pub ids_differ : List Topic → Bool
ids_differ topics = differ (map (λ t. t.id) topics)

unfoldable pub topics_read : Text → Read (List Topic)
topics_read bytes = value_if ids_differ (counted_read any_count topic_read bytes)

abbrev pub is_length : ℕ → Bool
is_length n = is_between 1 max_docs n

unfoldable pub docs_read : Text → Read (List Text)
docs_read bytes = value_if differ (counted_read is_length docno_read bytes)

abbrev pub list_of : Text × (ℕ × List Text) → TopicList
list_of p = record { topic = p.0; line = p.1.0; docs = p.1.1 }

unfoldable pub list_read : Text → Read TopicList
list_read bytes = value_by list_of (before name_read (before (number_read w32) docs_read) bytes)

abbrev pub is_some_count : ℕ → Bool
is_some_count n = nat_lt 0 n

abbrev pub topics_ascend : List TopicList → Bool
topics_ascend lists = is_ascending (map (λ l. l.topic) lists)

unfoldable pub lists_read : Text → Read (List TopicList)
lists_read bytes = value_if topics_ascend (counted_read is_some_count list_read bytes)

-- A lease and its grade; a document and its grade

unfoldable pub graded_lease_read : Text → Read (ℕ × ℕ)
graded_lease_read bytes = before (number_read w32) byte_read bytes

unfoldable pub graded_doc_read : Text → Read (Text × (Text × ℕ))
graded_doc_read bytes = before name_read (before docno_read byte_read) bytes

unfoldable pub run_read : Text → Read (Text × List TopicList)
run_read bytes = before name_read lists_read bytes

-- The command, by its kind

abbrev pub grade_of_parts : ℕ × ℕ → Command
grade_of_parts p = command.Grade p.0 p.1

abbrev pub amend_of : Text × (Text × ℕ) → Command
amend_of p = command.Amend p.0 p.1.0 p.1.1

abbrev pub rule_of : Text × (Text × ℕ) → Command
rule_of p = command.Rule p.0 p.1.0 p.1.1

abbrev pub submit_of : Text × List TopicList → Command
submit_of p = command.Submit p.0 p.1

unfoldable pub command_of : ℕ → Text → Read Command
command_of kind rest =
    if kind == FOUND then value_by command.Found (rules_read rest)
    else (if kind == TOPICS then value_by command.Topics (topics_read rest)
    else (if kind == SUBMIT then value_by submit_of (run_read rest)
    else (if kind == OPEN then Some (command.Open, rest)
    else (if kind == LEASE then value_by command.Lease (name_read rest)
    else (if kind == GRADE then value_by grade_of_parts (graded_lease_read rest)
    else (if kind == RELEASE then value_by command.Release (number_read w32 rest)
    else (if kind == AMEND then value_by amend_of (graded_doc_read rest)
    else (if kind == RULE then value_by rule_of (graded_doc_read rest)
    else (if kind == WITHDRAW then value_by command.Withdraw (name_read rest)
    else (if kind == PUBLISH then Some (command.Publish, rest)
    else (if kind == FOUND_WITH_LEVELS then value_by command.Found (leveled_read rest) else None)))))))))))

unfoldable pub command_read : Text → Read Command
command_read bytes = option_and_then (λ kind. command_of kind.0 kind.1) (byte_read bytes)

abbrev pub core_of_parts : Caller × (Option ℕ × (ℕ × Command)) → EntryCore
core_of_parts p = record { caller = p.0; number = p.1.0; moment = p.1.1.0; command = p.1.1.1 }

unfoldable pub entry_read : Text → Read EntryCore
entry_read bytes = value_by core_of_parts (before caller_read (before request_read (before moment_read command_read)) bytes)

-- the entry that bytes are, if they are one
unfoldable pub entry_of : Text → Option EntryCore
entry_of bytes = whole_value (entry_read bytes)
