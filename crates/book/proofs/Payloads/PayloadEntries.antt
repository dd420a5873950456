-- The entries that a payload spells: one, or those of a bundle.
use Rattle.std.proofs.Common.{◌≡◌, inl, inr, ℕ, ◌+◌, ◌<◌, ◌≤◌, Bool, true, false, List, [], ◌∷◌, ◌++◌, Vec, length, take, drop, get_or, map, refl, sym, ap, subst, ◌∙◌, arith}
use Rattle.std.specs.Prelude.{◌&&◌, IfOk, Result, Ok, Err}
use Rattle.std.specs.List.{list_all}
use Rattle.std.specs.declared.alloc.Global.{Global}
use Rattle.std.proofs.lemmas.List.{append-nil, append_assoc, map-append, take-append-drop, take-map, take_more}
use Rattle.decimal_rank.proofs.TruthValues.{first_of_both, second_of_both}
use Rattle.journal.specs.KeptRecords.{payloads as payloads_of}
use Rattle.trec_formats.specs.Names.{is_between}
use Rattle.record_codec.specs.Bundles.{are_rising, have_bundle, is_brief, is_packable}
use Rattle.record_codec.specs.Payloads.{IsPayload}
use Rattle.rulebook.specs.declared.limits.TheConstants.{MAX_ENTRY_BYTES}
use Rattle.rulebook.specs.declared.entry.EntryCore.{EntryCore}
use Rattle.rulebook.specs.Campaign.{History}
use Rattle.rulebook.specs.Histories.Legal.{IsLegal}
use Rattle.rulebook.specs.Spelling.{entry_bytes, has_spelling}
use Rattle.rulebook.specs.Words.{Text}
use Rattle.book.specs.Laws.{Laws}
use Rattle.book.specs.Opening.Replays.{AreFit, BreaksOff, Enters, EntersCores, EntersPayload, GoesOnWithRecords, StopsIn}
use Rattle.book.specs.Stories.{HasHistory, cores_of}
use Rattle.book.proofs.CoreEntries.{no_long}
use Rattle.book.proofs.Payloads.UnfoldedPayloads.{unfolds_more}

-- The cores that were entered so far

pub cores_none : (H : History) → cores_of H ≡ cores_of H ++ []
cores_none H = sym (append-nil (cores_of H))

pub cores_more : (H now next : History) (done : List EntryCore) (core : EntryCore) → cores_of now ≡ cores_of H ++ done
    → Enters now core true next → cores_of next ≡ cores_of H ++ (done ++ core ∷ [])
cores_more H now next done core so_far enters = enters ∙ ap (λ (c : List EntryCore). c ++ core ∷ []) so_far ∙ append_assoc (cores_of H) done (core ∷ [])

pub stops_in : (H now next : History) (cores done : List EntryCore) (core : EntryCore) (rest : List EntryCore)
    → cores ≡ done ++ core ∷ rest → cores_of now ≡ cores_of H ++ done → Enters now core false next
    → StopsIn H cores next
stops_in H now next cores done core rest split so_far (same, none) = record {
  front = done;
  core = core;
  rest = rest;
  split = split;
  added = ap cores_of same ∙ so_far;
  none = subst (λ (now : History). HasHistory (cores_of now ++ core ∷ []) → ⊥) (sym same) none;
}

-- What a payload spells

packable_all : (cores : List EntryCore) → have_bundle cores ≡ true → list_all is_packable cores ≡ true
packable_all cores is =
    second_of_both (is_between 1 4096 (length cores)) (list_all is_packable cores)
    (first_of_both (is_between 1 4096 (length cores) && list_all is_packable cores) (are_rising 0 cores) is)

packable_fit : Laws → (cores : List EntryCore) → list_all is_packable cores ≡ true → AreFit cores
packable_fit laws [] all = tt
packable_fit laws (core ∷ cores) all =
    let here = first_of_both (is_packable core) (list_all is_packable cores) all in (
      first_of_both (has_spelling core) (is_brief core.command) here,
      laws.briefs core here,
      packable_fit laws cores (second_of_both (is_packable core) (list_all is_packable cores) all),
    )

pub payload_fit : Laws → (payload : Text) (cores : List EntryCore) → IsPayload payload cores → length payload ≤ MAX_ENTRY_BYTES → AreFit cores
payload_fit laws payload cores (inl bundle) short = packable_fit laws cores (packable_all cores bundle.0)
payload_fit laws payload cores (inr (core, is, one)) short =
    let few : length (entry_bytes core) ≤ MAX_ENTRY_BYTES = omega (arith, short, ap length is.1) in
    subst AreFit (sym one) (is.0, few, tt)

-- one that spells none
pub enters_unread : (H : History) (payload : Text) → ((cores : List EntryCore) → IsPayload payload cores → ⊥) → EntersPayload H payload false H
enters_unread H payload none = ([], cores_none H, inl (none, refl))

-- one that is too long
pub enters_long : Laws → (H : History) (payload : Text) (cores : List EntryCore) → IsLegal H → IsPayload payload cores
    → MAX_ENTRY_BYTES < length payload → EntersPayload H payload false H
enters_long laws H payload cores legal (inl bundle) long = absurd (omega (arith, long, laws.bundles cores bundle.0, ap length bundle.1))
enters_long laws H payload cores legal (inr (core, is, one)) long =
    let spells : IsPayload payload (core ∷ []) = inr (core, is, refl) in
    let longer : MAX_ENTRY_BYTES < length (entry_bytes core) = omega (arith, long, ap length is.1) in
    ([], cores_none H, inr (core, [], spells, no_long H core legal longer))

enters_cores : (H : History) (payload : Text) (cores : List EntryCore) → IsPayload payload cores → (entered : Bool) (after : History)
    → EntersCores H cores entered after → EntersPayload H payload entered after
enters_cores H payload cores spells true after added = (cores, spells, added)
enters_cores H payload cores spells false after w = (w.front, w.added, inr (w.core, w.rest, subst (IsPayload payload) w.split spells, w.none))

pub enters_payload : (H : History) (payload : Text) (cores : List EntryCore) → IsPayload payload cores → {E : Type 0} (result : Result Bool E) (after : History)
    → IfOk result (λ entered. EntersCores H cores entered after) → IfOk result (λ entered. EntersPayload H payload entered after)
enters_payload H payload cores spells (Ok entered) after enters = enters_cores H payload cores spells entered after enters
enters_payload H payload cores spells (Err e) after enters = tt

-- The payloads that were entered so far

pub goes_none : (H : History) → GoesOnWithRecords H [] H
goes_none H = ([], refl, cores_none H)

pub goes_one : (H now next : History) (payloads : List Text) (payload : Text) → GoesOnWithRecords H payloads now
    → EntersPayload now payload true next → GoesOnWithRecords H (payloads ++ payload ∷ []) next
goes_one H now next payloads payload (cores, unfolds, so_far) (these, spells, added) = (
  cores ++ these,
  unfolds_more payloads cores payload these unfolds spells,
  added ∙ ap (λ (c : List EntryCore). c ++ these) so_far ∙ append_assoc (cores_of H) cores these,
)

pub breaks_off : (H now next : History) (payloads before : List Text) (payload : Text) (later : List Text)
    → payloads ≡ before ++ payload ∷ later → GoesOnWithRecords H before now → EntersPayload now payload false next
    → BreaksOff H payloads next
breaks_off H now next payloads before payload later split (cores, unfolds, so_far) (front, added, breaks) = record {
  before = before;
  payload = payload;
  later = later;
  split = split;
  given = cores;
  unfolds = unfolds;
  front = front;
  added = added ∙ ap (λ (c : List EntryCore). c ++ front) so_far ∙ append_assoc (cores_of H) cores front;
  breaks = breaks;
}

-- The records, by their places.
module _ (records : List (Vec ℕ Global)) (place : ℕ) (record_ : Vec ℕ Global) (within : place < length records)
    (is : record_ ≡ get_or records place record_) where
  one_more : take (place + 1) (payloads_of records) ≡ take place (payloads_of records) ++ record_.items ∷ []
  one_more =
      take-map (λ (p : Vec ℕ Global). p.items) (place + 1) records
      ∙ ap (map (λ (p : Vec ℕ Global). p.items)) (take_more records place record_ within)
      ∙ map-append (λ (p : Vec ℕ Global). p.items) (take place records) (get_or records place record_ ∷ [])
      ∙ ap (λ (p : Vec ℕ Global). map (λ (p : Vec ℕ Global). p.items) (take place records) ++ p.items ∷ []) (sym is)
      ∙ ap (λ (xs : List Text). xs ++ record_.items ∷ []) (sym (take-map (λ (p : Vec ℕ Global). p.items) place records))

  pub goes_more : (H now next : History) → GoesOnWithRecords H (take place (payloads_of records)) now
      → EntersPayload now record_.items true next → GoesOnWithRecords H (take (place + 1) (payloads_of records)) next
  goes_more H now next so_far enters =
      subst (λ (p : List Text). GoesOnWithRecords H p next) (sym one_more) (goes_one H now next (take place (payloads_of records)) record_.items so_far enters)

  split_here : payloads_of records ≡ take place (payloads_of records) ++ record_.items ∷ drop (place + 1) (payloads_of records)
  split_here =
      sym (take-append-drop (place + 1) (payloads_of records)) ∙ ap (λ (p : List Text). p ++ drop (place + 1) (payloads_of records)) one_more
      ∙ append_assoc (take place (payloads_of records)) (record_.items ∷ []) (drop (place + 1) (payloads_of records))

  pub breaks_here : (H now next : History) → GoesOnWithRecords H (take place (payloads_of records)) now
      → EntersPayload now record_.items false next → BreaksOff H (payloads_of records) next
  breaks_here H now next so_far enters =
      breaks_off H now next (payloads_of records) (take place (payloads_of records)) record_.items
      (drop (place + 1) (payloads_of records)) split_here so_far enters
