-- What the bytes of a bundle give, read loosely: needless groups of a number, and a table that isn't in the order of
-- first use, are let through; the entries, written again, tell whether the bytes are their bundle.
use Rattle.std.specs.Prelude.{◌≡◌, ◌↔◌, ◌<◌, ℕ, zero, suc, Bool, ◌&&◌, ◌+◌, ◌-◌, ◌*◌, ◌^◌, ◌==◌, if◌then◌else◌, List, [], ◌∷◌, Option, None, Some, bytes_eq, get_or, nat_lt, nat_le, slice_get}
use Rattle.std.specs.Option.{option_and_then, option_map}
use Rattle.rulebook.specs.declared.rules.Caller.{Caller}
use Rattle.rulebook.specs.declared.ask.Command.{Command}
use Rattle.rulebook.specs.declared.ask.Command.TheVariants as command
use Rattle.rulebook.specs.declared.entry.EntryCore.{EntryCore}
use Rattle.rulebook.specs.Words.{Text}
use Rattle.record_codec.specs.declared.layout.TheConstants.{AMEND, GRADE, LEASE, MOST_USES, OPEN, PUBLISH, RELEASE, RULE, WITHDRAW}
use Rattle.record_codec.specs.Bundles.{bundle_bytes, have_bundle}
use Rattle.record_codec.specs.Payloads.{IsPayload}
use Rattle.record_codec.specs.Readings.{Read, amend_of, before, byte_read, caller_read, core_of_parts, entry_of, grade_of_parts, is_moment, items_read, rule_of, short_read, value_by, value_if, whole_value}

-- Numbers

-- a group, and the number above it
abbrev pub with_low_group : ℕ → ℕ × Text → Read ℕ
with_low_group low high = if nat_lt high.0 (2 ^ 57) then Some (low - 128 + 128 * high.0, high.1) else None

-- a number of so many groups at most
unfoldable pub groups_read : ℕ → Text → Read ℕ
groups_read zero bytes = None
groups_read (suc most) bytes =
    option_and_then (λ b. if nat_lt b.0 128 then Some b else option_and_then (with_low_group b.0) (groups_read most b.1)) (byte_read bytes)

unfoldable pub varint_read : Text → Read ℕ
varint_read bytes = groups_read 10 bytes

-- Tables

abbrev pub is_few : ℕ → Bool
is_few n = nat_le n MOST_USES

unfoldable pub count_read : Text → Read ℕ
count_read bytes = value_if is_few (varint_read bytes)

-- a count, and so many items
unfoldable pub table_read : {X : Type 0} → (Text → Read X) → Text → Read (List X)
table_read item bytes = option_and_then (λ n. items_read item n.0 n.1) (count_read bytes)

-- an index, and what stands there in the table
unfoldable pub used_read : {X : Type 0} → List X → Text → Read X
used_read table bytes = option_and_then (λ i. option_map (λ x. (x, i.1)) (slice_get table i.0)) (varint_read bytes)

-- Entries

abbrev pub number_from : ℕ → Option ℕ
number_from code = if code == 0 then None else Some (code - 1)

unfoldable pub coded_number_read : Text → Read (Option ℕ)
coded_number_read bytes = value_by number_from (varint_read bytes)

-- the moment after an earlier one
unfoldable pub later_read : ℕ → Text → Read ℕ
later_read earlier bytes = value_if is_moment (value_by (λ passed. earlier + passed) (varint_read bytes))

abbrev pub is_lease : ℕ → Bool
is_lease n = nat_lt n (2 ^ 32)

unfoldable pub lease_read : Text → Read ℕ
lease_read bytes = value_if is_lease (varint_read bytes)

unfoldable pub brief_grade_read : Text → Read (ℕ × ℕ)
brief_grade_read bytes = before lease_read byte_read bytes

-- a topic, a document and its grade
unfoldable pub graded_use_read : List Text → Text → Read (Text × (Text × ℕ))
graded_use_read texts bytes = before (used_read texts) (before (used_read texts) byte_read) bytes

unfoldable pub brief_of_kind : List Text → ℕ → Text → Read Command
brief_of_kind texts kind rest =
    if kind == OPEN then Some (command.Open, rest)
    else (if kind == LEASE then value_by command.Lease (used_read texts rest)
    else (if kind == GRADE then value_by grade_of_parts (brief_grade_read rest)
    else (if kind == RELEASE then value_by command.Release (lease_read rest)
    else (if kind == AMEND then value_by amend_of (graded_use_read texts rest)
    else (if kind == RULE then value_by rule_of (graded_use_read texts rest)
    else (if kind == WITHDRAW then value_by command.Withdraw (used_read texts rest)
    else (if kind == PUBLISH then Some (command.Publish, rest) else None)))))))

unfoldable pub brief_read : List Text → Text → Read Command
brief_read texts bytes = option_and_then (λ kind. brief_of_kind texts kind.0 kind.1) (byte_read bytes)

-- an entry over these tables, the moment of the one before it being given
unfoldable pub bundled_read : List Caller → List Text → ℕ → Text → Read EntryCore
bundled_read callers texts earlier bytes =
    value_by core_of_parts (before (used_read callers) (before coded_number_read (before (later_read earlier) (brief_read texts))) bytes)

-- so many entries
unfoldable pub cores_read : List Caller → List Text → ℕ → ℕ → Text → Read (List EntryCore)
cores_read callers texts zero earlier bytes = Some ([], bytes)
cores_read callers texts (suc n) earlier bytes =
    option_and_then (λ x. option_and_then (λ xs. Some (x.0 ∷ xs.0, xs.1)) (cores_read callers texts n x.0.moment x.1))
    (bundled_read callers texts earlier bytes)

-- a count, and so many entries over these tables
unfoldable pub entries_read : List Caller → List Text → Text → Read (List EntryCore)
entries_read callers texts bytes = option_and_then (λ n. cores_read callers texts n.0 0 n.1) (count_read bytes)

-- The parts of a bundle, behind its first byte

unfoldable pub parts_read : Text → Read (List EntryCore)
parts_read bytes =
    option_and_then (λ callers. option_and_then (λ texts. entries_read callers.0 texts.0 texts.1) (table_read short_read callers.1))
    (table_read caller_read bytes)

-- the entries that may have a bundle, and whose bundle the bytes are
abbrev pub cores_with_bundle : Text → List EntryCore → Option (List EntryCore)
cores_with_bundle bytes cores = if have_bundle cores && bytes_eq (bundle_bytes cores) bytes then Some cores else None

-- the entries whose bundle the bytes are
unfoldable pub bundle_of : Text → Option (List EntryCore)
bundle_of bytes = option_and_then (cores_with_bundle bytes) (whole_value (option_and_then (λ b. parts_read b.1) (byte_read bytes)))

abbrev pub alone : EntryCore → List EntryCore
alone core = core ∷ []

-- the entries whose payload the bytes are: a bundle begins with 0, and a spelling never does
unfoldable pub payload_of : Text → Option (List EntryCore)
payload_of bytes =
    option_and_then (λ b. if b.0 == 0 then bundle_of bytes else option_map alone (entry_of bytes)) (byte_read bytes)

-- what is read of bytes is what they are the payload of
abbrev pub PayloadsAreRead : Type 0
PayloadsAreRead = (bytes : Text) (cores : List EntryCore) → ((i : ℕ) → get_or bytes i 0 < 256)
    → (payload_of bytes ≡ Some cores) ↔ IsPayload bytes cores
