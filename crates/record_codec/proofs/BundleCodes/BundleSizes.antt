-- How many bytes a bundle has at most, and an entry that it may have.
use Rattle.std.proofs.Common.{◌≡◌, ℕ, zero, suc, ◌+◌, ◌*◌, ◌/◌, ◌%◌, ◌≤◌, ◌^◌, ◌&&◌, Bool, true, false, List, [], ◌∷◌, ◌++◌, length, map, refl, ap, arith, length-append}
use Rattle.std.specs.Prelude.{Option, None, Some, bytes_eq, if◌then◌else◌, nat_le, nat_lt}
use Rattle.std.specs.List.{AllByRecursion, flat_map, fold, list_all, list_any}
use Rattle.std.proofs.lemmas.Bool.{and_parts}
use Rattle.std.proofs.lemmas.List.{length-map}
use Rattle.std.proofs.lemmas.List.Concat.{flat_map-cons}
use Rattle.trec_formats.specs.Names.{is_between, is_docno, is_name, is_name_byte}
use Rattle.rulebook.specs.Requests.Limits.{max_moment}
use Rattle.rulebook.specs.declared.rules.Caller.{Caller}
use Rattle.rulebook.specs.declared.ask.Command.{Command}
use Rattle.rulebook.specs.declared.ask.Command.TheVariants.{Found, Topics, Submit, Open, Lease, Grade, Release, Amend, Rule, Withdraw, Publish}
use Rattle.rulebook.specs.declared.entry.EntryCore.{EntryCore}
use Rattle.rulebook.specs.Spelling.{command_bytes, has_spelling, is_number, is_plain, number_bytes, short}
use Rattle.rulebook.specs.Words.{Text}
use Rattle.record_codec.specs.declared.bundles.bundle_items.Brief.{Brief}
use Rattle.record_codec.specs.declared.bundles.bundle_items.Brief.TheVariants as brief
use Rattle.record_codec.specs.declared.bundles.bundle_items.BundleItem.{BundleItem}
use Rattle.record_codec.specs.Bundles.{are_rising, brief_bytes, caller_bytes, counted_items, have_bundle, is_brief, is_packable, item_bytes, items_of, parts_bytes, texts_in, texts_of}
use Rattle.record_codec.specs.Laws.{BriefsFit, BundlesFit}
use Rattle.record_codec.specs.Tables.{callers_of, same_caller, with_use}
use Rattle.record_codec.specs.Varints.{varint, varint_groups}
use Rattle.record_codec.proofs.FieldCodes.Codes.{wide32, wide64}
use Rattle.record_codec.proofs.ShortTexts.{between_most}

-- Numbers

groups_short : (most n : ℕ) → length (varint_groups most n) ≤ most
groups_short zero n = omega arith
groups_short (suc most) n = by (nat_lt n 128) (groups_short most (n / 128))
  where
    by : (small : Bool) → length (varint_groups most (n / 128)) ≤ most
        → length (if small then n ∷ [] else (128 + n % 128) ∷ varint_groups most (n / 128)) ≤ suc most
    by true rest = omega arith
    by false rest = omega (arith, rest)

varint_short : (n : ℕ) → length (varint n) ≤ 10
varint_short n = groups_short 10 n

-- Items

brief_short : (b : Brief) → length (brief_bytes b) ≤ 22
brief_short brief.Open = omega arith
brief_short (brief.Lease topic) = omega (arith, varint_short topic)
brief_short (brief.Grade lease grade) = simp length-append (omega (arith, varint_short lease))
brief_short (brief.Release lease) = omega (arith, varint_short lease)
brief_short (brief.Amend topic doc grade) = simp length-append (omega (arith, varint_short topic, varint_short doc))
brief_short (brief.Rule topic doc grade) = simp length-append (omega (arith, varint_short topic, varint_short doc))
brief_short (brief.Withdraw run) = omega (arith, varint_short run)
brief_short brief.Publish = omega arith

item_short : (i : BundleItem) → length (item_bytes i) ≤ 66
item_short i =
    simp length-append (omega (arith, varint_short i.caller, varint_short i.number, varint_short i.passed, brief_short i.command))

-- Lists

all_join : {X : Type 0} (P : X → Type 0) (xs ys : List X) → AllByRecursion P xs → AllByRecursion P ys
    → AllByRecursion P (xs ++ ys)
all_join P [] ys all more = more
all_join P (x ∷ xs) ys all more = (all.0, all_join P xs ys all.1 more)

all_items : {X : Type 0} (P : X → Type 0) → ((x : X) → P x) → (xs : List X) → AllByRecursion P xs
all_items P each [] = tt
all_items P each (x ∷ xs) = (each x, all_items P each xs)

short_list : {X : Type 0} (spell : X → Text) (xs : List X) → AllByRecursion (λ x. length (spell x) ≤ 66) xs
    → length (flat_map spell xs) ≤ 66 * length xs
short_list spell [] all = omega arith
short_list spell (x ∷ xs) all =
    omega (arith, short_list spell xs all.1, all.0, ap (λ (t : Text). length t) (flat_map-cons spell x xs), length-append (spell x) (flat_map spell xs))

counted_short : {X : Type 0} (spell : X → Text) (xs : List X) → AllByRecursion (λ x. length (spell x) ≤ 66) xs
    → length (counted_items spell xs) ≤ 10 + 66 * length xs
counted_short spell xs all = simp length-append (omega (arith, short_list spell xs all, varint_short (length xs)))

-- Tables

module _ {X : Type 0} (same : X → X → Bool) (P : X → Type 0) where
  use_all : (table : List X) (x : X) → AllByRecursion P table → P x → AllByRecursion P (with_use same table x)
  use_all table x all here = by (list_any (same x) table)
    where
      by : (is_there : Bool) → AllByRecursion P (if is_there then table else table ++ x ∷ [])
      by true = all
      by false = all_join P table (x ∷ []) all (here, tt)

  -- what holds of each use holds of each thing in their table
  pub table_all : (table uses : List X) → AllByRecursion P table → AllByRecursion P uses
      → AllByRecursion P (fold (with_use same) table uses)
  table_all table [] all more = all
  table_all table (x ∷ uses) all more = table_all (with_use same table x) uses (use_all table x all more.0) more.1

module _ {X : Type 0} (same : X → X → Bool) where
  use_few : (table : List X) (x : X) → length (with_use same table x) ≤ length table + 1
  use_few table x = by (list_any (same x) table)
    where
      by : (is_there : Bool) → length (if is_there then table else table ++ x ∷ []) ≤ length table + 1
      by true = omega arith
      by false = omega (arith, length-append table (x ∷ []))

  -- a table is no longer than its uses
  pub table_few : (table uses : List X) → length (fold (with_use same) table uses) ≤ length table + length uses
  table_few table [] = omega arith
  table_few table (x ∷ uses) = omega (arith, table_few (with_use same table x) uses, use_few table x)

-- What an entry of a bundle is made of

pub name_few : (text : Text) → is_name text ≡ true → length text ≤ 32
unfolding is_name
name_few text is =
    between_most 1 32 (length text) ((and_parts (is_between 1 32 (length text)) (list_all is_name_byte text) is).0)

docno_few : (text : Text) → is_docno text ≡ true → length text ≤ 64
unfolding is_docno
docno_few text is =
    between_most 1 64 (length text) ((and_parts (is_between 1 64 (length text)) (list_all (is_between 33 126) text) is).0)

pub record IsPacked (core : EntryCore) : Type 0 where
  pub name : is_name core.caller.name ≡ true
  pub number : is_number core.number ≡ true
  pub moment : nat_le core.moment max_moment ≡ true
  pub plain : is_plain core.command ≡ true
  pub brief : is_brief core.command ≡ true

pub packed : (core : EntryCore) → is_packable core ≡ true → IsPacked core
packed core is =
    let whole = and_parts (has_spelling core) (is_brief core.command) is in
    let a = and_parts (is_name core.caller.name && is_number core.number && nat_le core.moment max_moment) (is_plain core.command) whole.0 in
    let b = and_parts (is_name core.caller.name && is_number core.number) (nat_le core.moment max_moment) a.0 in
    let c = and_parts (is_name core.caller.name) (is_number core.number) b.0 in
    record { name = c.0; number = c.1; moment = b.1; plain = a.1; brief = whole.1 }

-- a topic and a document of a grade
graded_few : (topic doc : Text) (grade : ℕ) → (is_name topic && is_docno doc && nat_lt grade 256) ≡ true
    → (length topic ≤ 32) × (length doc ≤ 64)
graded_few topic doc grade is =
    let texts = and_parts (is_name topic) (is_docno doc)
    ((and_parts (is_name topic && is_docno doc) (nat_lt grade 256) is).0) in
    (name_few topic texts.0, docno_few doc texts.1)

-- its spelling is short
abbrev pub IsBrief : Text → Type 0
IsBrief text = length (short text) ≤ 66

text_brief : (text : Text) → length text ≤ 64 → IsBrief text
text_brief text few = omega (arith, few)

name_brief : (text : Text) → is_name text ≡ true → IsBrief text
name_brief text is = omega (arith, name_few text is)

texts_brief : (c : Command) → is_plain c ≡ true → AllByRecursion IsBrief (texts_in c)
texts_brief (Lease topic) is = (name_brief topic is, tt)
texts_brief (Amend topic doc grade) is =
    let few = graded_few topic doc grade is in (text_brief topic (omega (arith, few.0)), (text_brief doc few.1, tt))
texts_brief (Rule topic doc grade) is =
    let few = graded_few topic doc grade is in (text_brief topic (omega (arith, few.0)), (text_brief doc few.1, tt))
texts_brief (Withdraw run) is = (name_brief run is, tt)
texts_brief _ is = tt

texts_few : (c : Command) → length (texts_in c) ≤ 2
texts_few (Lease topic) = omega arith
texts_few _ = omega arith

-- What the entries of a bundle use

abbrev pub used : EntryCore → List Text
used core = texts_in core.command

abbrev pub user : EntryCore → Caller
user core = core.caller

uses_brief : (cores : List EntryCore) → list_all is_packable cores ≡ true → AllByRecursion IsBrief (flat_map used cores)
uses_brief [] all = tt
uses_brief (core ∷ cores) all =
    let parts = and_parts (is_packable core) (list_all is_packable cores) all in
    rw (flat_map-cons used core cores)
    (all_join IsBrief (used core) (flat_map used cores) (texts_brief core.command (packed core parts.0).plain) (uses_brief cores parts.1))

-- entries use two texts each at most
pub uses_few : (cores : List EntryCore) → length (flat_map used cores) ≤ 2 * length cores
uses_few [] = omega arith
uses_few (core ∷ cores) =
    omega (
      arith,
      uses_few cores,
      texts_few core.command,
      ap (λ (t : List Text). length t) (flat_map-cons used core cores),
      length-append (used core) (flat_map used cores),
    )

abbrev pub IsShortCaller : Caller → Type 0
IsShortCaller caller = length (caller_bytes caller) ≤ 66

caller_short : (core : EntryCore) → is_packable core ≡ true → IsShortCaller core.caller
caller_short core is = simp length-append (omega (arith, name_few core.caller.name (packed core is).name))

users_short : (cores : List EntryCore) → list_all is_packable cores ≡ true → AllByRecursion IsShortCaller (map user cores)
users_short [] all = tt
users_short (core ∷ cores) all =
    let parts = and_parts (is_packable core) (list_all is_packable cores) all in
    (caller_short core parts.0, users_short cores parts.1)

pub items_few : (callers : List Caller) (texts : List Text) (earlier : ℕ) (cores : List EntryCore)
    → length (items_of callers texts earlier cores) ≡ length cores
items_few callers texts earlier [] = refl
items_few callers texts earlier (core ∷ cores) = ap (λ (n : ℕ). suc n) (items_few callers texts core.moment cores)

-- A bundle

pub callers_short : (cores : List EntryCore) → list_all is_packable cores ≡ true → AllByRecursion IsShortCaller (callers_of cores)
callers_short cores all = table_all same_caller IsShortCaller [] (map user cores) tt (users_short cores all)

pub texts_short : (cores : List EntryCore) → list_all is_packable cores ≡ true → AllByRecursion IsBrief (texts_of cores)
texts_short cores all = table_all bytes_eq IsBrief [] (flat_map used cores) tt (uses_brief cores all)

pub record IsBundled (cores : List EntryCore) : Type 0 where
  pub few : length cores ≤ 4096
  pub packable : list_all is_packable cores ≡ true
  pub rising : are_rising 0 cores ≡ true

pub bundled : (cores : List EntryCore) → have_bundle cores ≡ true → IsBundled cores
bundled cores is =
    let whole = and_parts (is_between 1 4096 (length cores) && list_all is_packable cores) (are_rising 0 cores) is in
    let front = and_parts (is_between 1 4096 (length cores)) (list_all is_packable cores) whole.0 in
    record { few = between_most 1 4096 (length cores) front.0; packable = front.1; rising = whole.1 }

parts_fit : (callers : List Caller) (texts : List Text) (items : List BundleItem) → length callers ≤ 4096
    → length texts ≤ 8192 → length items ≤ 4096 → AllByRecursion IsShortCaller callers → AllByRecursion IsBrief texts
    → length (parts_bytes (record { callers = callers; texts = texts; items = items })) ≤ 2 ^ 25
parts_fit callers texts items few_callers few_texts few_items short_callers brief_texts =
    let a = counted_short caller_bytes callers short_callers in
    let b = counted_short short texts brief_texts in
    let c = counted_short item_bytes items (all_items (λ (i : BundleItem). length (item_bytes i) ≤ 66) item_short items) in
    let two = length-append (counted_items short texts) (counted_items item_bytes items) in
    omega (
      arith,
      few_callers,
      few_texts,
      few_items,
      a,
      b,
      c,
      two,
      length-append (counted_items caller_bytes callers) (counted_items short texts ++ counted_items item_bytes items),
    )

pub bundles_fit : BundlesFit
bundles_fit cores is =
    let known = bundled cores is in
    let few = known.few in
    let users = table_few same_caller [] (map user cores) in
    let texts = table_few bytes_eq [] (flat_map used cores) in
    let items = items_of (callers_of cores) (texts_of cores) 0 cores in
    let as_many = items_few (callers_of cores) (texts_of cores) 0 cores in
    parts_fit (callers_of cores) (texts_of cores) items (omega (arith, users, length-map cores user, few))
    (omega (arith, texts, uses_few cores, few)) (omega (arith, as_many, few)) (callers_short cores known.packable)
    (texts_short cores known.packable)

-- The spelling of an entry of a bundle

number_short : (number : Option ℕ) → length (number_bytes number) ≤ 9
number_short None = omega arith
number_short (Some n) = omega (arith, wide64.len n)

command_short : (c : Command) → is_plain c ≡ true → is_brief c ≡ true → length (command_bytes c) ≤ 100
command_short (Found rules) is brief = absurd cc
command_short (Topics topics) is brief = absurd cc
command_short (Submit run lists) is brief = absurd cc
command_short (Lease topic) is brief = omega (arith, name_few topic is)
command_short (Grade lease grade) is brief = simp length-append (omega (arith, wide32.len lease))
command_short (Release lease) is brief = omega (arith, wide32.len lease)
command_short (Amend topic doc grade) is brief =
    let few = graded_few topic doc grade is in simp length-append (omega (arith, few.0, few.1))
command_short (Rule topic doc grade) is brief =
    let few = graded_few topic doc grade is in simp length-append (omega (arith, few.0, few.1))
command_short (Withdraw run) is brief = omega (arith, name_few run is)
command_short _ is brief = omega arith

pub briefs_fit : BriefsFit
briefs_fit core is =
    let known = packed core is in
    simp length-append (omega (
      arith,
      name_few core.caller.name known.name,
      number_short core.number,
      wide64.len core.moment,
      command_short core.command known.plain known.brief,
    ))
