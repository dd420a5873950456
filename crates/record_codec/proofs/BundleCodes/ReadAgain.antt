-- What is written of a bundle's numbers, tables and entries is read again, whatever stands behind it.
use Rattle.std.proofs.Common.{◌≡◌, ℕ, zero, suc, ◌+◌, ◌-◌, ◌*◌, ◌/◌, ◌%◌, ◌^◌, ◌<◌, ◌≤◌, Bool, true, false, eqb, ltb, List, [], ◌∷◌, ◌++◌, length, map, Option, Some, None, refl, sym, ap, subst, ◌∙◌, append_assoc, arith, ◌⊎◌, inl, inr}
use Rattle.std.specs.Prelude.{◌&&◌, ◌==◌, IsTrue, bytes_eq, nat_le, nat_lt, slice_get}
use Rattle.std.specs.List.{AllByRecursion, flat_map, list_all, list_any}
use Rattle.std.proofs.Math.Nat.{pow-suc}
use Rattle.std.proofs.lemmas.Bool.{and_from, and_parts, cases_lt, eqb-true, eq-eqb, leb-true, le-leb, le-ltb, lt-ltb, ltb-true, ne_eqb}
use Rattle.std.proofs.lemmas.List.Concat.{flat_map-cons}
use Rattle.std.proofs.lemmas.Option.{slice_get_within}
use Rattle.std.proofs.lemmas.Slice.Eq.{bytes_eq-Decides}
use Rattle.decimal_rank.proofs.TruthValues.{bytes_eq-same}
use Rattle.trec_formats.specs.Names.{is_docno, is_name}
use Rattle.rulebook.specs.Requests.Limits.{max_moment}
use Rattle.rulebook.specs.declared.rules.Caller.{Caller}
use Rattle.rulebook.specs.declared.rules.Role.{Role}
use Rattle.rulebook.specs.declared.rules.Role.TheVariants.{Organiser, Group, Assessor}
use Rattle.rulebook.specs.declared.ask.Command.{Command}
use Rattle.rulebook.specs.declared.ask.Command.TheVariants as command
use Rattle.rulebook.specs.declared.entry.EntryCore.{EntryCore}
use Rattle.rulebook.specs.Spelling.{is_number, is_plain, role_byte}
use Rattle.rulebook.specs.Words.{Text}
use Rattle.record_codec.specs.BundleGrammar.{brief_grade_read, brief_of_kind, brief_read, bundled_read, coded_number_read, cores_read, count_read, graded_use_read, groups_read, later_read, lease_read, number_from, table_read, used_read, varint_read}
use Rattle.record_codec.specs.Bundles.{are_rising, brief_bytes, brief_of, counted_items, is_brief, is_packable, item_bytes, item_of, items_of, number_code, texts_in}
use Rattle.record_codec.specs.Readings.{Read, amend_of, before, byte_read, core_of_parts, grade_of_parts, rule_of, value_by}
use Rattle.record_codec.specs.Tables.{index_of, same_caller}
use Rattle.record_codec.specs.Varints.{varint, varint_groups}
use Rattle.record_codec.proofs.BundleCodes.BundleSizes.{packed, used, user}
use Rattle.record_codec.proofs.FieldCodes.Codes.{Codes, items_again}
use Rattle.record_codec.proofs.BundleCodes.UsedTables.{at_index}

-- Numbers

one_again : (most n : ℕ) (rest : Text) → n < 128 → groups_read (suc most) (varint_groups (suc most) n ++ rest) ≡ Some (n, rest)
unfolding groups_read
one_again most n rest few =
    let t : ltb n 128 ≡ true = lt-ltb n 128 few in
    let written : varint_groups (suc most) n ≡ n ∷ [] = rw t refl in
    let read : groups_read (suc most) (n ∷ rest) ≡ Some (n, rest) = rw t refl in
    ap (λ (text : Text). groups_read (suc most) (text ++ rest)) written ∙ read

more_again : (most n : ℕ) (rest : Text) → 128 ≤ n → n < 2 ^ 64
    → groups_read most (varint_groups most (n / 128) ++ rest) ≡ Some (n / 128, rest)
    → groups_read (suc most) (varint_groups (suc most) n ++ rest) ≡ Some (n, rest)
unfolding groups_read
more_again most n rest wide fits again =
    let t : ltb n 128 ≡ false = le-ltb n 128 wide in
    let written : varint_groups (suc most) n ≡ (128 + n % 128) ∷ varint_groups most (n / 128) = rw t refl in
    let low : ltb (128 + n % 128) 128 ≡ false = le-ltb (128 + n % 128) 128 (omega arith) in
    let high : ltb (n / 128) (2 ^ 57) ≡ true = lt-ltb (n / 128) (2 ^ 57) (omega arith) in
    let value : (128 + n % 128) - 128 + 128 * (n / 128) ≡ n = omega arith in
    let read : groups_read (suc most) ((128 + n % 128) ∷ (varint_groups most (n / 128) ++ rest)) ≡ Some (n, rest) =
    rw (low, again, high) (ap (λ (k : ℕ). Some (k, rest)) value) in
    ap (λ (text : Text). groups_read (suc most) (text ++ rest)) written ∙ read

fewer : (most n : ℕ) → n < 128 ^ suc most → n / 128 < 128 ^ most
fewer most n few = let p : n < 128 ^ most * 128 = subst (λ (k : ℕ). n < k) (pow-suc 128 most) few in omega arith

groups_again : (most n : ℕ) (rest : Text) → 0 < most → n < 128 ^ most → n < 2 ^ 64
    → groups_read most (varint_groups most n ++ rest) ≡ Some (n, rest)
groups_again zero n rest some few fits = absurd (omega arith)
groups_again (suc zero) n rest some few fits = one_again zero n rest (omega arith)
groups_again (suc (suc most)) n rest some few fits = by (cases_lt n 128)
    (groups_again (suc most) (n / 128) rest (omega arith) (fewer (suc most) n few) (omega arith))
  where
    by : (n < 128) ⊎ (128 ≤ n) → groups_read (suc most) (varint_groups (suc most) (n / 128) ++ rest) ≡ Some (n / 128, rest)
        → groups_read (suc (suc most)) (varint_groups (suc (suc most)) n ++ rest) ≡ Some (n, rest)
    by (inl lt) again = one_again (suc most) n rest lt
    by (inr le) again = more_again (suc most) n rest le fits again

pub varint_again : (n : ℕ) (rest : Text) → n < 2 ^ 64 → varint_read (varint n ++ rest) ≡ Some (n, rest)
unfolding varint_read
varint_again n rest fits = groups_again 10 n rest (omega arith) (omega arith) fits

-- Tables

pub count_again : (n : ℕ) (rest : Text) → n ≤ 8192 → count_read (varint n ++ rest) ≡ Some (n, rest)
unfolding count_read
count_again n rest few =
    let t : nat_le n 8192 ≡ true = le-leb n 8192 few in
    let fits : n < 2 ^ 64 = omega arith in
    rw (varint_again n rest fits, t) refl

pub table_again : {X : Type 0} {spell : X → Text} {Fits : X → Type 0} {at : Text → Read X} (c : Codes spell Fits at)
    (xs : List X) (rest : Text) → length xs ≤ 8192 → AllByRecursion Fits xs
    → table_read at (counted_items spell xs ++ rest) ≡ Some (xs, rest)
unfolding table_read
table_again {X} {spell} {Fits} {at} c xs rest few fits =
    ap (table_read at) (append_assoc (varint (length xs)) (flat_map spell xs) rest)
    ∙ rw (count_again (length xs) (flat_map spell xs ++ rest) few) (items_again c xs rest fits)

pub used_again : {X : Type 0} (same : X → X → Bool) → ((x y : X) → same x y ≡ true → x ≡ y) → ((x : X) → same x x ≡ true)
    → (table : List X) (x : X) (rest : Text) → length table ≤ 8192 → list_any (same x) table ≡ true
    → used_read table (varint (index_of same table x) ++ rest) ≡ Some (x, rest)
unfolding used_read
used_again same alike itself table x rest few there =
    let here : slice_get table (index_of same table x) ≡ Some x = at_index same alike itself table x there in
    let within : index_of same table x < length table = slice_get_within table (index_of same table x) x here in
    let fits : index_of same table x < 2 ^ 64 = omega arith in
    rw (varint_again (index_of same table x) rest fits, here) refl

-- texts, and callers

pub text_itself : (a : Text) → bytes_eq a a ≡ true
text_itself a = (bytes_eq-Decides a a).1 refl

same_role : (a b : Role) → (role_byte a == role_byte b) ≡ true → a ≡ b
same_role Organiser Organiser is = refl
same_role Organiser Group is = absurd cc
same_role Organiser Assessor is = absurd cc
same_role Group Organiser is = absurd cc
same_role Group Group is = refl
same_role Group Assessor is = absurd cc
same_role Assessor Organiser is = absurd cc
same_role Assessor Group is = absurd cc
same_role Assessor Assessor is = refl

pub one_caller : (a b : Caller) → same_caller a b ≡ true → a ≡ b
one_caller a b is =
    let parts = and_parts (bytes_eq a.name b.name) (role_byte a.role == role_byte b.role) is in
    let name : a.name ≡ b.name = bytes_eq-same a.name b.name parts.0 in
    let role : a.role ≡ b.role = same_role a.role b.role parts.1 in
    λ i. record { name = name i; role = role i }

pub caller_itself : (a : Caller) → same_caller a a ≡ true
caller_itself a =
    and_from (bytes_eq a.name a.name) (role_byte a.role == role_byte a.role) (text_itself a.name) (eq-eqb (role_byte a.role) (role_byte a.role) refl)

-- Entries

-- two values, one behind the other
pair_again : {X Y : Type 0} (a : Text → Read X) (b : Text → Read Y) (s t : Text) (x : X) (y : Y) (rest : Text)
    → a (s ++ (t ++ rest)) ≡ Some (x, t ++ rest) → b (t ++ rest) ≡ Some (y, rest)
    → before a b ((s ++ t) ++ rest) ≡ Some ((x, y), rest)
pair_again a b s t x y rest first second = ap (before a b) (append_assoc s t rest) ∙ rw (first, second) refl

code_number : (n : ℕ) → number_from (n + 1) ≡ Some n
code_number n =
    let some : eqb (n + 1) 0 ≡ false = ne_eqb (n + 1) 0 (omega arith) in
    let less : n + 1 - 1 ≡ n = omega arith in
    rw some (ap (λ (k : ℕ). Some k) less)

number_again : (o : Option ℕ) (rest : Text) → is_number o ≡ true
    → coded_number_read (varint (number_code o) ++ rest) ≡ Some (o, rest)
unfolding coded_number_read
number_again None rest is = ap (value_by number_from) (varint_again 0 rest (omega arith))
number_again (Some n) rest is =
    let below = ltb-true n (2 ^ 63) is in
    ap (value_by number_from) (varint_again (n + 1) rest (omega arith)) ∙ ap (λ (o : Option ℕ). Some (o, rest)) (code_number n)

later_again : (earlier moment : ℕ) (rest : Text) → earlier ≤ moment → nat_le moment max_moment ≡ true
    → later_read earlier (varint (moment - earlier) ++ rest) ≡ Some (moment, rest)
unfolding later_read
later_again earlier moment rest later is =
    let most = leb-true moment max_moment is in
    let sum : earlier + (moment - earlier) ≡ moment = omega arith in
    let fits : moment - earlier < 2 ^ 64 = omega arith in
    rw (varint_again (moment - earlier) rest fits, sum, is) refl

lease_again : (lease : ℕ) (rest : Text) → nat_lt lease (2 ^ 32) ≡ true → lease_read (varint lease ++ rest) ≡ Some (lease, rest)
unfolding lease_read
lease_again lease rest is =
    let below = ltb-true lease (2 ^ 32) is in
    let fits : lease < 2 ^ 64 = omega arith in
    rw (varint_again lease rest fits, is) refl

grade_again : (lease grade : ℕ) (rest : Text) → (nat_lt lease (2 ^ 32) && nat_lt grade 256) ≡ true
    → brief_grade_read ((varint lease ++ grade ∷ []) ++ rest) ≡ Some ((lease, grade), rest)
unfolding brief_grade_read
grade_again lease grade rest is =
    pair_again lease_read byte_read (varint lease) (grade ∷ []) lease grade rest
    (lease_again lease (grade ∷ rest) ((and_parts (nat_lt lease (2 ^ 32)) (nat_lt grade 256) is).0)) refl

-- these uses stand in the table
abbrev pub InTable : List Text → List Text → Type 0
InTable texts uses = AllByRecursion (λ text. list_any (bytes_eq text) texts ≡ true) uses

module _ (texts : List Text) (few : length texts ≤ 8192) where
  text_again : (text rest : Text) → list_any (bytes_eq text) texts ≡ true
      → used_read texts (varint (index_of bytes_eq texts text) ++ rest) ≡ Some (text, rest)
  text_again text rest there = used_again bytes_eq bytes_eq-same text_itself texts text rest few there

  graded_again : (topic doc : Text) (grade : ℕ) (rest : Text) → InTable texts (topic ∷ doc ∷ [])
      → graded_use_read texts ((varint (index_of bytes_eq texts topic) ++ (varint (index_of bytes_eq texts doc) ++ grade ∷ [])) ++ rest)
      ≡ Some ((topic, (doc, grade)), rest)
  unfolding graded_use_read
  graded_again topic doc grade rest there =
      let t : Text = varint (index_of bytes_eq texts topic) in
      let d : Text = varint (index_of bytes_eq texts doc) in
      pair_again (used_read texts) (before (used_read texts) byte_read) t (d ++ grade ∷ []) topic (doc, grade) rest
      (text_again topic ((d ++ grade ∷ []) ++ rest) there.0)
      (pair_again (used_read texts) byte_read d (grade ∷ []) doc grade rest (text_again doc (grade ∷ rest) there.1.0) refl)

  brief_again : (c : Command) (rest : Text) → is_plain c ≡ true → is_brief c ≡ true → InTable texts (texts_in c)
      → brief_read texts (brief_bytes (brief_of texts c) ++ rest) ≡ Some (c, rest)
  unfolding brief_read brief_of_kind
  brief_again (command.Found rules) rest plain brief there = absurd cc
  brief_again (command.Topics topics) rest plain brief there = absurd cc
  brief_again (command.Submit run lists) rest plain brief there = absurd cc
  brief_again command.Open rest plain brief there = refl
  brief_again (command.Lease topic) rest plain brief there = ap (value_by command.Lease) (text_again topic rest there.0)
  brief_again (command.Grade lease grade) rest plain brief there = ap (value_by grade_of_parts) (grade_again lease grade rest plain)
  brief_again (command.Release lease) rest plain brief there = ap (value_by command.Release) (lease_again lease rest plain)
  brief_again (command.Amend topic doc grade) rest plain brief there = ap (value_by amend_of) (graded_again topic doc grade rest there)
  brief_again (command.Rule topic doc grade) rest plain brief there = ap (value_by rule_of) (graded_again topic doc grade rest there)
  brief_again (command.Withdraw run) rest plain brief there = ap (value_by command.Withdraw) (text_again run rest there.0)
  brief_again command.Publish rest plain brief there = refl

  module _ (callers : List Caller) (short : length callers ≤ 8192) where
    bundled_again : (earlier : ℕ) (core : EntryCore) (rest : Text) → is_packable core ≡ true → earlier ≤ core.moment
        → list_any (same_caller core.caller) callers ≡ true → InTable texts (used core)
        → bundled_read callers texts earlier (item_bytes (item_of callers texts earlier core) ++ rest) ≡ Some (core, rest)
    unfolding bundled_read
    bundled_again earlier core rest is later known there =
        let p = packed core is in
        let c : Text = varint (index_of same_caller callers core.caller) in
        let n : Text = varint (number_code core.number) in
        let m : Text = varint (core.moment - earlier) in
        let b : Text = brief_bytes (brief_of texts core.command) in
        let brief = brief_again core.command rest p.plain p.brief there in
        let moment = pair_again (later_read earlier) (brief_read texts) m b core.moment core.command rest
        (later_again earlier core.moment (b ++ rest) later p.moment) brief in
        let number = pair_again coded_number_read (before (later_read earlier) (brief_read texts)) n (m ++ b) core.number (core.moment, core.command) rest
        (number_again core.number ((m ++ b) ++ rest) p.number) moment in
        let caller = pair_again (used_read callers) (before coded_number_read (before (later_read earlier) (brief_read texts))) c (n ++ (m ++ b))
        core.caller (core.number, (core.moment, core.command)) rest
        (used_again same_caller one_caller caller_itself callers core.caller ((n ++ (m ++ b)) ++ rest) short known) number in
        ap (value_by core_of_parts) caller

    pub cores_again : (earlier : ℕ) (cores : List EntryCore) (rest : Text) → list_all is_packable cores ≡ true
        → are_rising earlier cores ≡ true
        → AllByRecursion (λ caller. list_any (same_caller caller) callers ≡ true) (map user cores)
        → InTable texts (flat_map used cores)
        → cores_read callers texts (length cores) earlier (flat_map item_bytes (items_of callers texts earlier cores) ++ rest)
        ≡ Some (cores, rest)
    unfolding cores_read
    cores_again earlier [] rest packable rising known there = refl
    cores_again earlier (core ∷ cores) rest packable rising known there =
        let p = and_parts (is_packable core) (list_all is_packable cores) packable in
        let r = and_parts (nat_le earlier core.moment) (are_rising core.moment cores) rising in
        let t = all_parts (used core) (flat_map used cores) (subst (InTable texts) (flat_map-cons used core cores) there) in
        let item : Text = item_bytes (item_of callers texts earlier core) in
        let items : Text = flat_map item_bytes (items_of callers texts core.moment cores) in
        let one = bundled_again earlier core (items ++ rest) p.0 (leb-true earlier core.moment r.0) known.0 t.0 in
        let others = cores_again core.moment cores rest p.1 r.1 known.1 t.1 in
        ap (cores_read callers texts (suc (length cores)) earlier) (append_assoc item items rest) ∙ rw (one, others) refl
      where
        all_parts : (xs ys : List Text) → InTable texts (xs ++ ys) → InTable texts xs × InTable texts ys
        all_parts [] ys all = (tt, all)
        all_parts (x ∷ xs) ys all = let rest = all_parts xs ys all.1 in ((all.0, rest.0), rest.1)
