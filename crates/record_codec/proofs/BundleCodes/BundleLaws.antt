-- Bundles and payloads are read as what they were made of.
use Rattle.std.proofs.Common.{◌≡◌, ℕ, ◌*◌, ◌<◌, ◌≤◌, Bool, true, false, cond, eqb, List, [], ◌∷◌, ◌++◌, length, map, Option, Some, None, Result, Ok, Err, refl, sym, ap, subst, ◌∙◌, append-nil, arith, inl, inr}
use Rattle.std.specs.Prelude.{◌&&◌, IfErr, IfOk, IsTrue, bytes_eq, nat_le}
use Rattle.std.specs.List.{AllByRecursion, flat_map, list_all}
use Rattle.std.specs.Option.{option_and_then, option_map}
use Rattle.std.proofs.lemmas.Bool.{and_from, and_parts, eqb-true, ne_eqb}
use Rattle.std.proofs.lemmas.List.{length-map}
use Rattle.std.proofs.lemmas.Option.{cond_some}
use Rattle.decimal_rank.proofs.TruthValues.{bytes_eq-same}
use Rattle.trec_formats.specs.Names.{is_name}
use Rattle.rulebook.specs.Requests.Limits.{max_moment}
use Rattle.rulebook.specs.declared.rules.Caller.{Caller}
use Rattle.rulebook.specs.declared.entry.EntryCore.{EntryCore}
use Rattle.rulebook.specs.Spelling.{IsSpelling, entry_bytes, has_spelling, is_number, is_plain, short}
use Rattle.rulebook.specs.Words.{Text}
use Rattle.record_codec.specs.declared.faults.CodecFault.{CodecFault}
use Rattle.record_codec.specs.declared.faults.CodecFault.TheVariants as fault
use Rattle.record_codec.specs.BundleGrammar.{PayloadsAreRead, alone, bundle_of, cores_with_bundle, entries_read, parts_read, payload_of}
use Rattle.record_codec.specs.Bundles.{IsBundle, bundle_bytes, caller_bytes, counted_items, have_bundle, is_packable, item_bytes, items_of, texts_of}
use Rattle.record_codec.specs.Laws.{OneBundle, OnePayload}
use Rattle.record_codec.specs.Outcomes.{FindsWholeBy, OnNoEntry}
use Rattle.record_codec.specs.Payloads.{IsPayload}
use Rattle.record_codec.specs.Readings.{byte_read, caller_read, entry_of, short_read, whole_value}
use Rattle.record_codec.specs.Tables.{callers_of, same_caller}
use Rattle.record_codec.specs.Varints.{varint}
use Rattle.record_codec.proofs.BundleCodes.BundleSizes.{IsBrief, bundled, items_few, packed, table_all, table_few, texts_short, used, user, uses_few}
use Rattle.record_codec.proofs.FieldCodes.Codes.{IsBytes, bind_some, map_some}
use Rattle.record_codec.proofs.FieldCodes.EntryCodes.{spelled_again, spells}
use Rattle.record_codec.proofs.BundleCodes.ReadAgain.{caller_itself, cores_again, count_again, one_caller, table_again, text_itself}
use Rattle.record_codec.proofs.FieldCodes.TextCodes.{caller_codes, pick, short_codes}
use Rattle.record_codec.proofs.BundleCodes.UsedTables.{uses_stand}

-- The tables of entries

abbrev IsNamed : Caller → Type 0
IsNamed caller = IsTrue (is_name caller.name)

users_named : (cores : List EntryCore) → list_all is_packable cores ≡ true → AllByRecursion IsNamed (map user cores)
users_named [] all = tt
users_named (core ∷ cores) all =
    let parts = and_parts (is_packable core) (list_all is_packable cores) all in
    ((packed core parts.0).name, users_named cores parts.1)

callers_named : (cores : List EntryCore) → list_all is_packable cores ≡ true → AllByRecursion IsNamed (callers_of cores)
callers_named cores all = table_all same_caller IsNamed [] (map user cores) tt (users_named cores all)

each_below : (texts : List Text) → AllByRecursion IsBrief texts → AllByRecursion (λ text. length text < 256) texts
each_below [] all = tt
each_below (text ∷ texts) all = (omega (arith, all.0), each_below texts all.1)

-- Bundles

pub parts_again : (cores : List EntryCore) → have_bundle cores ≡ true
    → parts_read (counted_items caller_bytes (callers_of cores) ++ (counted_items short (texts_of cores)
    ++ counted_items item_bytes (items_of (callers_of cores) (texts_of cores) 0 cores))) ≡ Some (cores, [])
unfolding parts_read entries_read
parts_again cores is =
    let known = bundled cores is in
    let callers : List Caller = callers_of cores in
    let texts : List Text = texts_of cores in
    let items = items_of callers texts 0 cores in
    let behind : Text = counted_items item_bytes items in
    let few_callers : length callers ≤ 8192 =
    omega (arith, known.few, table_few same_caller [] (map user cores), length-map cores user) in
    let few_texts : length texts ≤ 8192 = omega (arith, known.few, table_few bytes_eq [] (flat_map used cores), uses_few cores) in
    let first = table_again caller_codes callers (counted_items short texts ++ behind) few_callers (callers_named cores known.packable) in
    let second = table_again short_codes texts behind few_texts (each_below texts (texts_short cores known.packable)) in
    let same = items_few callers texts 0 cores in
    let third = count_again (length items) (flat_map item_bytes items) (omega (arith, same, known.few)) in
    let fourth = cores_again texts few_texts callers few_callers 0 cores [] known.packable known.rising
    (uses_stand same_caller one_caller caller_itself [] (map user cores)) (uses_stand bytes_eq bytes_eq-same text_itself [] (flat_map used cores)) in
    rw (first, second, third, same, ← append-nil (flat_map item_bytes items)) fourth

pub bundle_again : (bytes : Text) (cores : List EntryCore) → IsBundle bytes cores → bundle_of bytes ≡ Some cores
unfolding bundle_of
bundle_again bytes cores bundle =
    let same : bytes_eq (bundle_bytes cores) (bundle_bytes cores) ≡ true = text_itself (bundle_bytes cores) in
    let passes : (have_bundle cores && bytes_eq (bundle_bytes cores) (bundle_bytes cores)) ≡ true =
    and_from (have_bundle cores) (bytes_eq (bundle_bytes cores) (bundle_bytes cores)) bundle.0 same in
    let read : bundle_of (bundle_bytes cores) ≡ cores_with_bundle (bundle_bytes cores) cores = rw (parts_again cores bundle.0) refl in
    ap bundle_of bundle.1 ∙ read ∙ rw passes refl

bundle_told : (bytes : Text) (cores : List EntryCore) → bundle_of bytes ≡ Some cores → IsBundle bytes cores
unfolding bundle_of
bundle_told bytes cores is =
    let u = bind_some (whole_value (option_and_then (λ b. parts_read b.1) (byte_read bytes))) (cores_with_bundle bytes) cores is in
    let t = cond_some (have_bundle u.0 && bytes_eq (bundle_bytes u.0) bytes) u.0 cores u.2 in
    let parts = and_parts (have_bundle u.0) (bytes_eq (bundle_bytes u.0) bytes) t.0 in
    subst (IsBundle bytes) t.1 (parts.0, sym (bytes_eq-same (bundle_bytes u.0) bytes parts.1))

-- Payloads

some_name : (text : Text) → is_name text ≡ true → eqb (length text) 0 ≡ false
unfolding is_name
some_name [] is = absurd cc
some_name (b ∷ text) is = ne_eqb (length (b ∷ text)) 0 (omega arith)

named : (core : EntryCore) → has_spelling core ≡ true → is_name core.caller.name ≡ true
named core is =
    let a = and_parts (is_name core.caller.name && is_number core.number && nat_le core.moment max_moment) (is_plain core.command) is in
    let b = and_parts (is_name core.caller.name && is_number core.number) (nat_le core.moment max_moment) a.0 in
    (and_parts (is_name core.caller.name) (is_number core.number) b.0).0

pub payload_again : (bytes : Text) (cores : List EntryCore) → IsPayload bytes cores → payload_of bytes ≡ Some cores
unfolding payload_of
payload_again bytes cores (inl bundle) =
    let read : payload_of (bundle_bytes cores) ≡ bundle_of (bundle_bytes cores) = refl in
    ap payload_of bundle.1 ∙ read ∙ bundle_again (bundle_bytes cores) cores (bundle.0, refl)
payload_again bytes cores (inr (core, spelling, is)) =
    let apart : eqb (length core.caller.name) 0 ≡ false = some_name core.caller.name (named core spelling.0) in
    let read : payload_of (entry_bytes core) ≡ Some (core ∷ []) =
    rw (apart, spelled_again (entry_bytes core) core (spelling.0, refl)) refl in
    ap payload_of spelling.1 ∙ read ∙ ap (λ (list : List EntryCore). Some list) (sym is)

pub payload_told : (bytes : Text) (cores : List EntryCore) → IsBytes bytes → payload_of bytes ≡ Some cores → IsPayload bytes cores
unfolding payload_of
payload_told bytes cores fits is =
    let u = bind_some (byte_read bytes) (λ b. cond (eqb b.0 0) (bundle_of bytes) (option_map alone (entry_of bytes))) cores is in
    pick (eqb u.0.0 0) (bundle_of bytes) (option_map alone (entry_of bytes)) cores (IsPayload bytes cores) u.2
    (λ t e. inl (bundle_told bytes cores e))
    (λ e. let v = map_some (entry_of bytes) alone cores e in inr (v.0, spells bytes v.0 fits v.1, sym v.2))

-- What a reader answers

none_told : (bytes : Text) (f : CodecFault) → OnNoEntry f (payload_of bytes ≡ None)
    → OnNoEntry f ((cores : List EntryCore) → IsPayload bytes cores → ⊥)
none_told bytes fault.NoEntry none =
    λ cores payload. let some : Some cores ≡ None = sym (payload_again bytes cores payload) ∙ none in cc
none_told bytes fault.Memory none = tt

pub is_payload : {X : Type 0} (bytes : Text) (r : Result X CodecFault) (view : X → List EntryCore) → IsBytes bytes
    → FindsWholeBy view r (payload_of bytes) → IfOk r (λ x. IsPayload bytes (view x))
is_payload bytes (Ok x) view fits found = payload_told bytes (view x) fits found
is_payload bytes (Err f) view fits found = tt

pub is_no_payload : {X : Type 0} (bytes : Text) (r : Result X CodecFault) (view : X → List EntryCore)
    → FindsWholeBy view r (payload_of bytes) → IfErr r (λ f. OnNoEntry f ((cores : List EntryCore) → IsPayload bytes cores → ⊥))
is_no_payload bytes (Ok x) view found = tt
is_no_payload bytes (Err f) view found = none_told bytes f found

-- Laws

pub one_bundle_holds : OneBundle
one_bundle_holds bytes other cores more first second =
    let there : bytes ≡ other → cores ≡ more = λ same.
    let both : Some cores ≡ Some more = sym (bundle_again bytes cores first) ∙ ap bundle_of same ∙ bundle_again other more second in cc in
    let back : cores ≡ more → bytes ≡ other = λ same. first.1 ∙ ap bundle_bytes same ∙ sym second.1 in
    (there, back)

pub one_payload_holds : OnePayload
one_payload_holds bytes cores more first second =
    let both : Some cores ≡ Some more = sym (payload_again bytes cores first) ∙ payload_again bytes more second in cc

pub payloads_are_read_holds : PayloadsAreRead
payloads_are_read_holds bytes cores fits = (payload_told bytes cores fits, payload_again bytes cores)
