-- What is packed unfolds to what it was packed from.
use Rattle.std.proofs.Common.{◌≡◌, ◌≢◌, inl, inr, ℕ, zero, suc, ◌+◌, ◌≤◌, ◌<◌, ◌^◌, Bool, true, false, List, [], ◌∷◌, ◌++◌, Vec, length, drop, get_or, refl, sym, ap, subst, ◌∙◌, arith, length-append, le-leb, leb-true}
use Rattle.std.specs.Prelude.{◌==◌, ◌&&◌, if◌then◌else◌, nat_le}
use Rattle.std.specs.List.{All, list_all}
use Rattle.std.specs.declared.alloc.Global.{Global}
use Rattle.std.proofs.lemmas.Bool.Decides.{nat_tests}
use Rattle.std.proofs.lemmas.List.{append-nil, append_assoc, drop_all, map-append}
use Rattle.std.proofs.lemmas.List.Elements.{All-append, All-cons, All-head, All-tail}
use Rattle.std.proofs.lemmas.List.Folds.{list_all-append}
use Rattle.std.proofs.lemmas.Bool.{and_from}
use Rattle.decimal_rank.proofs.TruthValues.{first_of_both, second_of_both}
use Rattle.journal.specs.KeptRecords.{payloads as payloads_of}
use Rattle.trec_formats.specs.Names.{is_between}
use Rattle.record_codec.specs.Bundles.{are_rising, bundle_bytes, have_bundle, is_brief, is_packable}
use Rattle.record_codec.specs.Payloads.{IsPayload}
use Rattle.rulebook.specs.declared.entry.EntryCore.{EntryCore}
use Rattle.rulebook.specs.Histories.Additions.{IsSpelled, Rise}
use Rattle.rulebook.specs.Campaign.{History}
use Rattle.rulebook.specs.Histories.Legal.{IsLegal}
use Rattle.rulebook.specs.Spelling.{entry_bytes, has_spelling}
use Rattle.rulebook.specs.Words.{Text}
use Rattle.book.specs.Compaction.Compactings.{bundle_of_part, compacted_payloads, packed_payloads}
use Rattle.book.specs.Laws.{Laws}
use Rattle.book.specs.Compaction.Packings.{AreShort, CanPack, PacksTo}
use Rattle.book.specs.Opening.Replays.{AreFit}
use Rattle.book.specs.Stories.{AreCores, IsStory, Unfolds, cores_of}
use Rattle.book.proofs.Histories.{are_own}

-- Moments that rise

rising_less : (earlier lesser : ℕ) (cores : List EntryCore) → lesser ≤ earlier → are_rising earlier cores ≡ true → are_rising lesser cores ≡ true
rising_less earlier lesser [] le all = refl
rising_less earlier lesser (core ∷ cores) le all =
    let here = leb-true earlier core.moment (first_of_both (nat_le earlier core.moment) (are_rising core.moment cores) all) in
    and_from (nat_le lesser core.moment) (are_rising core.moment cores) (le-leb lesser core.moment (omega (arith, le, here)))
    (second_of_both (nat_le earlier core.moment) (are_rising core.moment cores) all)

rising_start : (earlier : ℕ) (part left : List EntryCore) → are_rising earlier (part ++ left) ≡ true → are_rising earlier part ≡ true
rising_start earlier [] left all = refl
rising_start earlier (core ∷ part) left all =
    and_from (nat_le earlier core.moment) (are_rising core.moment part) (first_of_both (nat_le earlier core.moment) (are_rising core.moment (part ++ left)) all)
    (rising_start core.moment part left (second_of_both (nat_le earlier core.moment) (are_rising core.moment (part ++ left)) all))

rising_end : (earlier : ℕ) (part left : List EntryCore) → are_rising earlier (part ++ left) ≡ true → are_rising 0 left ≡ true
rising_end earlier [] left all = rising_less earlier 0 left (omega arith) all
rising_end earlier (core ∷ part) left all =
    rising_end core.moment part left (second_of_both (nat_le earlier core.moment) (are_rising core.moment (part ++ left)) all)

rising_of : (earlier : ℕ) (H : History) → Rise earlier H → are_rising earlier (cores_of H) ≡ true
rising_of earlier [] rise = refl
rising_of earlier (e ∷ later) rise =
    and_from (nat_le earlier e.core.moment) (are_rising e.core.moment (cores_of later))
    (le-leb earlier e.core.moment rise.0) (rising_of e.core.moment later rise.1)

fit_of : (H : History) → All IsSpelled H → AreFit (cores_of H)
fit_of [] all = tt
fit_of (e ∷ later) all =
    let here = All-head IsSpelled e later all in
    (here.spelled, here.fits, fit_of later (All-tail IsSpelled e later all))

-- the entries of a campaign may be packed
pub can_begin : Laws → (H : History) → IsLegal H → CanPack [] (cores_of H)
can_begin laws H legal = record { few = omega arith; packable = refl; fit = fit_of H (laws.spelled H legal); rising = rising_of 0 H (laws.rising H legal) }

-- A part that may be packed

pub part_bundled : (part left : List EntryCore) → CanPack part left → 1 ≤ length part → have_bundle part ≡ true
part_bundled part left can some =
    and_from (is_between 1 4096 (length part) && list_all is_packable part) (are_rising 0 part)
    (and_from (is_between 1 4096 (length part)) (list_all is_packable part)
    (and_from (nat_le 1 (length part)) (nat_le (length part) 4096) (le-leb 1 (length part) some) (le-leb (length part) 4096 can.few)) can.packable)
    (rising_start 0 part left can.rising)

can_single : (part left : List EntryCore) (core : EntryCore) → CanPack part (core ∷ left) → CanPack [] left
can_single part left core can = record {
  few = omega arith;
  packable = refl;
  fit = can.fit.2;
  rising = rising_end 0 (core ∷ []) left (rising_end 0 part (core ∷ left) can.rising);
}

packable_one : (core : EntryCore) → has_spelling core ≡ true → is_brief core.command ≡ true → list_all is_packable (core ∷ []) ≡ true
packable_one core spelled brief = and_from (is_packable core) true (and_from (has_spelling core) (is_brief core.command) spelled brief) refl

can_full : (part left : List EntryCore) (core : EntryCore) → is_brief core.command ≡ true → CanPack part (core ∷ left) → CanPack (core ∷ []) left
can_full part left core brief can = record {
  few = omega arith;
  packable = packable_one core can.fit.0 brief;
  fit = can.fit.2;
  rising = rising_end 0 part (core ∷ left) can.rising;
}

can_more : (part left : List EntryCore) (core : EntryCore) → is_brief core.command ≡ true → length part ≢ 4096
    → CanPack part (core ∷ left) → CanPack (part ++ core ∷ []) left
can_more part left core brief other can = record {
  few = let few = can.few in omega (arith, few, other, length-append part (core ∷ []));
  packable = list_all-append is_packable part (core ∷ [])
      ∙ and_from (list_all is_packable part) (list_all is_packable (core ∷ [])) can.packable (packable_one core can.fit.0 brief);
  fit = can.fit.2;
  rising = subst (λ (all : List EntryCore). are_rising 0 all ≡ true) (sym (append_assoc part (core ∷ []) left)) can.rising;
}

-- One entry more

if_true : {X : Type 0} (t : Bool) (x y : X) → t ≡ true → (if t then x else y) ≡ x
if_true true x y is = refl
if_true false x y is = cc is

if_false : {X : Type 0} (t : Bool) (x y : X) → t ≡ false → (if t then x else y) ≡ y
if_false true x y is = cc is
if_false false x y is = refl

abbrev in_bundle : List EntryCore → List EntryCore → EntryCore → List Text
in_bundle part left core = if length part == 4096 then bundle_bytes part ∷ packed_payloads (core ∷ []) left else packed_payloads (part ++ core ∷ []) left

abbrev alone : List EntryCore → List EntryCore → EntryCore → List Text
alone part left core = bundle_of_part part ++ entry_bytes core ∷ packed_payloads [] left

pub packs_single : (done done' : List Text) (part left : List EntryCore) (core : EntryCore) → is_brief core.command ≡ false
    → done' ≡ (done ++ bundle_of_part part) ++ entry_bytes core ∷ [] → CanPack part (core ∷ left)
    → PacksTo done part (core ∷ left) done' [] left
packs_single done done' part left core other is can = record {
  can = can_single part left core can;
  same = ap (λ (d : List Text). d ++ packed_payloads [] left) is
      ∙ append_assoc (done ++ bundle_of_part part) (entry_bytes core ∷ []) (packed_payloads [] left)
      ∙ append_assoc done (bundle_of_part part) (entry_bytes core ∷ packed_payloads [] left)
      ∙ ap (λ (rest : List Text). done ++ rest) (sym (if_false (is_brief core.command) (in_bundle part left core) (alone part left core) other));
}

pub ended_full : (part : List EntryCore) → 1 ≤ length part → bundle_of_part part ≡ bundle_bytes part ∷ []
ended_full [] some = absurd (omega (arith, some))
ended_full (core ∷ part) some = refl

pub packs_full : (done done' : List Text) (part left : List EntryCore) (core : EntryCore) → is_brief core.command ≡ true
    → length part ≡ 4096 → done' ≡ done ++ bundle_of_part part → CanPack part (core ∷ left)
    → PacksTo done part (core ∷ left) done' (core ∷ []) left
packs_full done done' part left core brief full is can =
    let test : (length part == 4096) ≡ true = grind (arith, nat_tests) in
    record {
      can = can_full part left core brief can;
      same = ap (λ (d : List Text). d ++ packed_payloads (core ∷ []) left) (is ∙ ap (λ (e : List Text). done ++ e) (ended_full part (omega (arith, full))))
          ∙ append_assoc done (bundle_bytes part ∷ []) (packed_payloads (core ∷ []) left)
          ∙ ap (λ (rest : List Text). done ++ rest) (sym (if_true (is_brief core.command) (in_bundle part left core) (alone part left core) brief
          ∙ if_true (length part == 4096) (bundle_bytes part ∷ packed_payloads (core ∷ []) left) (packed_payloads (part ++ core ∷ []) left) test));
    }

pub packs_more : (done : List Text) (part left : List EntryCore) (core : EntryCore)
    → is_brief core.command ≡ true → length part ≢ 4096 → CanPack part (core ∷ left)
    → PacksTo done part (core ∷ left) done (part ++ core ∷ []) left
packs_more done part left core brief other can =
    let test : (length part == 4096) ≡ false = grind (arith, nat_tests) in
    record {
      can = can_more part left core brief other can;
      same = ap (λ (rest : List Text). done ++ rest) (sym (if_true (is_brief core.command) (in_bundle part left core) (alone part left core) brief
          ∙ if_false (length part == 4096) (bundle_bytes part ∷ packed_payloads (core ∷ []) left) (packed_payloads (part ++ core ∷ []) left) test));
    }

pub packs_on : (done : List Text) (part left : List EntryCore) (done' : List Text) (part' left' : List EntryCore)
    (last : List Text) (part'' left'' : List EntryCore)
    → PacksTo done part left done' part' left' → PacksTo done' part' left' last part'' left'' → PacksTo done part left last part'' left''
packs_on done part left done' part' left' last part'' left'' first second = record { can = second.can; same = second.same ∙ first.same }

pub packs_none : (done : List Text) (part left : List EntryCore) → CanPack part left → PacksTo done part left done part left
packs_none done part left can = record { can = can; same = refl }

-- What is packed

unfold_part : Laws → (part left : List EntryCore) → CanPack part left → (payloads : List Text) (others : List EntryCore)
    → Unfolds payloads others → Unfolds (bundle_of_part part ++ payloads) (part ++ others)
unfold_part laws [] left can payloads others rest = rest
unfold_part laws (core ∷ part) left can payloads others rest =
    (core ∷ part, others, inl (part_bundled (core ∷ part) left can (omega arith), refl), rest, refl)

packed_unfolds : Laws → (part cores : List EntryCore) → CanPack part cores → Unfolds (packed_payloads part cores) (part ++ cores)
packed_unfolds laws part [] can =
    subst (λ (payloads : List Text). Unfolds payloads (part ++ [])) (append-nil (bundle_of_part part)) (unfold_part laws part [] can [] [] refl)
packed_unfolds laws part (core ∷ cores) can =
    by (is_brief core.command) (length part == 4096) refl refl
    (λ brief. packed_unfolds laws (core ∷ []) cores (can_full part cores core brief can))
    (λ brief other. packed_unfolds laws (part ++ core ∷ []) cores (can_more part cores core brief other can))
    (packed_unfolds laws [] cores (can_single part cores core can))
  where
    single : IsPayload (entry_bytes core) (core ∷ [])
    single = inr (core, (can.fit.0, refl), refl)

    by : (brief full : Bool) → is_brief core.command ≡ brief → (length part == 4096) ≡ full
        → (is_brief core.command ≡ true → Unfolds (packed_payloads (core ∷ []) cores) (core ∷ cores))
        → (is_brief core.command ≡ true → length part ≢ 4096 → Unfolds (packed_payloads (part ++ core ∷ []) cores) (part ++ core ∷ [] ++ cores))
        → Unfolds (packed_payloads [] cores) cores
        → Unfolds (if brief then (if full then bundle_bytes part ∷ packed_payloads (core ∷ []) cores else packed_payloads (part ++ core ∷ []) cores)
        else bundle_of_part part ++ entry_bytes core ∷ packed_payloads [] cores) (part ++ core ∷ cores)
    by true true is_brief is_full one more none =
        let size : length part ≡ 4096 = grind (arith, nat_tests) in
        (part, core ∷ cores, inl (part_bundled part (core ∷ cores) can (omega (arith, size)), refl), one is_brief, refl)
    by true false is_brief is_full one more none =
        let size : length part ≢ 4096 = grind (arith, nat_tests) in
        subst (λ (all : List EntryCore). Unfolds (packed_payloads (part ++ core ∷ []) cores) all) (append_assoc part (core ∷ []) cores) (more is_brief size)
    by false full is_brief is_full one more none =
        unfold_part laws part (core ∷ cores) can (entry_bytes core ∷ packed_payloads [] cores) (core ∷ cores) (core ∷ [], cores, single, none, refl)

-- the story of a compacted journal is that of its entries
pub compacted_story : Laws → (H : History) → IsLegal H → IsStory (compacted_payloads H) H
compacted_story laws H legal = (cores_of H, packed_unfolds laws [] (cores_of H) (can_begin laws H legal), are_own H (cores_of H) legal refl)

-- Payloads as vectors

pub payloads_push : (before after : List (Vec ℕ Global)) (one : Vec ℕ Global) (bytes : Text) → after ≡ before ++ one ∷ []
    → one.items ≡ bytes → payloads_of after ≡ payloads_of before ++ bytes ∷ []
payloads_push before after one bytes is one_is =
    ap payloads_of is ∙ map-append (λ (payload : Vec ℕ Global). payload.items) before (one ∷ []) ∙ ap (λ (last : Text). payloads_of before ++ last ∷ []) one_is

abbrev is_short : Vec ℕ Global → Type 0
is_short payload = length payload.items ≤ 2 ^ 25

pub short_none : AreShort []
short_none i d within = absurd (omega (arith, within))

pub short_push : (before after : List (Vec ℕ Global)) (one : Vec ℕ Global) → after ≡ before ++ one ∷ []
    → AreShort before → length one.items ≤ 2 ^ 25 → AreShort after
short_push before after one is short few = subst AreShort (sym is) (All-append is_short before (one ∷ []) short (All-cons is_short one [] few short_none))

-- The records, one after another

can_story : Laws → (cores : List EntryCore) (H : History) → AreCores cores H → CanPack [] cores
can_story laws [] H are = record { few = omega arith; packable = refl; fit = tt; rising = refl }
can_story laws (core ∷ cores) H are = subst (CanPack []) are.1 (can_begin laws H are.0)

cores_story : (cores : List EntryCore) (H : History) → AreCores cores H → cores_of H ≡ cores
cores_story [] H are = ap cores_of are
cores_story (core ∷ cores) H are = are.1

-- what is left of the payloads is packed behind what was packed so far
abbrev pub LeavesToPack : List Text → ℕ → List Text → List EntryCore → Type 0
LeavesToPack payloads place done part =
    (cores : List EntryCore) → Unfolds payloads cores → CanPack [] cores
    → (left : List EntryCore) × Unfolds (drop place payloads) left × PacksTo [] [] cores done part left

pub leaves_all : (payloads done : List Text) (part : List EntryCore) → done ≡ [] → part ≡ [] → LeavesToPack payloads 0 done part
leaves_all payloads done part none nothing cores unfolds can = (
  cores,
  unfolds,
  subst (λ (d : List Text). PacksTo [] [] cores d part cores) (sym none)
      (subst (λ (p : List EntryCore). PacksTo [] [] cores [] p cores) (sym nothing) (packs_none [] [] cores can)),
)

drop_one : (records : List (Vec ℕ Global)) (place : ℕ) (record_ : Vec ℕ Global) → place < length records → record_ ≡ get_or records place record_
    → drop place (payloads_of records) ≡ record_.items ∷ drop (suc place) (payloads_of records)
drop_one [] place record_ within is = absurd (omega (arith, within))
drop_one (x ∷ records) zero record_ within is = ap (λ (p : Vec ℕ Global). p.items ∷ payloads_of records) (sym is)
drop_one (x ∷ records) (suc place) record_ within is = drop_one records place record_ (omega (arith, within)) is

module _ (records : List (Vec ℕ Global)) (place : ℕ) (record_ : Vec ℕ Global) (within : place < length records)
    (is : record_ ≡ get_or records place record_) (done : List Text) (part : List EntryCore)
    (leaves : LeavesToPack (payloads_of records) place done part) where
  -- the next payload's entries, and those behind them
  record NextOf (cores : List EntryCore) : Type 0 where
    these : List EntryCore
    others : List EntryCore
    spells : IsPayload record_.items these
    unfolds : Unfolds (drop (place + 1) (payloads_of records)) others
    packs : PacksTo [] [] cores done part (these ++ others)

  next_of : (cores : List EntryCore) → Unfolds (payloads_of records) cores → CanPack [] cores → NextOf cores
  next_of cores unfolds can =
      let (left, all, packs) = leaves cores unfolds can in
      let one : suc place ≡ place + 1 = omega arith in
      let behind = drop_one records place record_ within is ∙ ap (λ (n : ℕ). record_.items ∷ drop n (payloads_of records)) one in
      let (these, others, spells, rest, left_is) = subst (λ (p : List Text). Unfolds p left) behind all in
      record {
        these = these;
        others = others;
        spells = spells;
        unfolds = rest;
        packs = subst (λ (l : List EntryCore). PacksTo [] [] cores done part l) left_is packs;
      }

  pub next_spells : Laws → (H : History) → IsStory (payloads_of records) H
      → (cores : List EntryCore) × IsPayload record_.items cores × ((left : List EntryCore) × CanPack part (cores ++ left))
  next_spells laws H (cores, unfolds, are) =
      let w = next_of cores unfolds (can_story laws cores H are) in
      (w.these, w.spells, (w.others, w.packs.can))

  pub leaves_next : (after : List Text) (part' : List EntryCore)
      → ((cores : List EntryCore) (left : List EntryCore) → IsPayload record_.items cores
      → CanPack part (cores ++ left) → PacksTo done part (cores ++ left) after part' left)
      → LeavesToPack (payloads_of records) (place + 1) after part'
  leaves_next after part' packs cores unfolds can =
      let w = next_of cores unfolds can in
      (w.others, w.unfolds, packs_on [] [] cores done part (w.these ++ w.others) after part' w.others w.packs (packs w.these w.others w.spells w.packs.can))

module _ (payloads : List Text) (place : ℕ) (over : length payloads ≤ place) (done : List Text)
    (part : List EntryCore) (leaves : LeavesToPack payloads place done part) where
  none_left : (cores : List EntryCore) → Unfolds payloads cores → CanPack [] cores → PacksTo [] [] cores done part []
  none_left cores unfolds can =
      let (left, all, packs) = leaves cores unfolds can in
      let none : left ≡ [] = subst (λ (p : List Text). Unfolds p left) (drop_all place payloads over) all in
      subst (λ (l : List EntryCore). PacksTo [] [] cores done part l) none packs

  pub can_end : Laws → (H : History) → IsStory payloads H → (left : List EntryCore) × CanPack part left
  can_end laws H (cores, unfolds, are) = ([], (none_left cores unfolds (can_story laws cores H are)).can)

  pub packed_all : Laws → (H : History) → IsStory payloads H → (after : List Text) → after ≡ done ++ bundle_of_part part → after ≡ compacted_payloads H
  packed_all laws H (cores, unfolds, are) after is =
      let packs = none_left cores unfolds (can_story laws cores H are) in
      is ∙ packs.same ∙ ap (packed_payloads []) (sym (cores_story cores H are))
