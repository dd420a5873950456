-- A journal whose records were replaced by packed ones, or weren't.
use Rattle.std.proofs.Common.{◌≡◌, ◌⊎◌, inl, inr, true, ℕ, ◌+◌, ◌≤◌, List, [], ◌∷◌, None, Some, length, min, refl, sym, ap, ◌∙◌, arith}
use Rattle.std.specs.Prelude.{IfOk, Result, Ok, Err}
use Rattle.std.proofs.lemmas.List.{append-nil}
use Rattle.std.proofs.Math.Nat.{min-eq_left, min-eq_right}
use Rattle.decimal_rank.specs.Causes.{Rose}
use Rattle.disk_model.specs.Disks.{DiskState, EachMoment, OnlyNow}
use Rattle.journal.specs.declared.dues.Due.{Due}
use Rattle.journal.specs.declared.dues.Due.TheVariants.{Nothing}
use Rattle.journal.specs.declared.replacing.ReplaceEnd.TheVariants as ended
use Rattle.journal.specs.Format.{count_of_bytes, decode, place_behind}
use Rattle.journal.specs.KeptRecords.{HoldsRecords, Keeps, Settled}
use Rattle.journal.specs.Moments.{DecodesAs, Turned, joined, started, weaker}
use Rattle.journal.specs.MovedAreas.{GivesOneOf}
use Rattle.journal.specs.Replacements.{HasAlone, Moves, Replaces}
use Rattle.rulebook.specs.declared.rules.Rules.{Rules}
use Rattle.rulebook.specs.Campaign.{History}
use Rattle.rulebook.specs.Histories.Legal.{founding}
use Rattle.rulebook.specs.Spelling.{are_rules, entry_bytes}
use Rattle.rulebook.specs.Words.{Text}
use Rattle.book.specs.declared.compacting.CompactEnd.{CompactEnd}
use Rattle.book.specs.declared.compacting.CompactEnd.TheVariants.{Done, Fault}
use Rattle.book.specs.declared.faults.BookFault.{BookFault}
use Rattle.book.specs.declared.faults.BookFault.TheVariants as fault
use Rattle.book.specs.Compaction.CompactedJournals.{CompactsOpen, EstablishedWith, IsPacked, IsUnpacked, PacksInto}
use Rattle.book.specs.Compaction.Compactings.{CompactsTo, OpenedWith, compacted_payloads}
use Rattle.book.specs.Images.{HoldsEntries, ImagesHold}
use Rattle.book.specs.Opening.Openings.{Establishes, OpensWith, ReadsPayloads}
use Rattle.book.specs.Opening.Replays.{Stops}
use Rattle.book.specs.Stories.{IsStory}
use Rattle.book.proofs.Founders.{founding_story}
use Rattle.book.proofs.JournalEntries.{keeps_settled}
use Rattle.book.proofs.OpenJournals.{given_up, not_established, records_stay, refused, turned_on}

-- this moment is one of those since an earlier one
abbrev pub CountsNow : {D : Type 0} → (D → DiskState) → D → Type 0
CountsNow seen disk = (moment : ℕ) (image : List ℕ) → moment ≤ (seen disk).clock → (seen disk).images image → (seen disk).images_since moment image

-- an area's payloads, by the entries of the records
pub area_of : {E : Type 0} (result : Result (List Text) E) (payloads records : List Text) → IfOk result (λ area. area ≡ payloads)
    → ((H : History) → IsStory records H → payloads ≡ compacted_payloads H)
    → IfOk result (λ area. (H : History) → IsStory records H → area ≡ compacted_payloads H)
area_of (Ok area) payloads records is packed = λ H story. is ∙ packed H story
area_of (Err e) payloads records is packed = tt

module _ {D : Type 0} (seen : D → DiskState) (old new : D) (H : History) (counts : CountsNow seen new) where
  stands_at_end : EachMoment seen old new (HoldsEntries H) → ImagesHold (seen new).images H None
  stands_at_end run image here = run.each image (counts (seen old).clock image run.later here)

  pub unpacked : (why : BookFault) → (why ≡ fault.Memory) ⊎ ((why ≡ fault.Disk) × Rose (seen old).faults (seen new).faults)
      → EachMoment seen old new (HoldsEntries H) → (seen old).faults ≤ (seen new).faults
      → IsUnpacked seen H old new why
  unpacked why cause run later = record { cause = cause; moments = run; alone = stands_at_end run; later = later }

  module _ (place : ℕ) (all area : List Text) (story : IsStory all H) (packed_story : IsStory area H) (area_is : area ≡ compacted_payloads H)
      (total : place ≡ place_behind all) (settled : Settled (seen old).images place all)
      (alone : HasAlone (seen old).images all) (due : Due) (nothing : due ≡ Nothing) where
    keeps : Keeps (seen old).images place due all []
    keeps = keeps_settled (seen old).images place due all nothing settled

    stands : (image : List ℕ) → HoldsRecords all [] image → HoldsEntries H image
    stands image (inl is) = (all, is, story)
    stands image (inr is) = (all, is ∙ ap Some (append-nil all), story)

    gives : (image : List ℕ) → GivesOneOf all area image → HoldsEntries H image
    gives image (inl is) = (all, is, story)
    gives image (inr is) = (area, is, packed_story)

    moved : Moves seen old new place all [] area → EachMoment seen old new (HoldsEntries H)
    moved (inl run) = weaker seen old new (HoldsRecords all []) (HoldsEntries H) stands run
    moved (inr over) =
        joined seen old over.mended new (HoldsEntries H) (weaker seen old over.mended (HoldsRecords all []) (HoldsEntries H) stands over.first)
        (weaker seen over.mended new (GivesOneOf all area) (HoldsEntries H) gives over.then)

    module _ (before after : ℕ) (before_is : before ≡ place + 1) (after_is : after ≡ min before (16 + (count_of_bytes area + 1))) where
      lesser_is : after ≡ min before (place_behind area + 1)
      lesser_is =
          let same : 16 + (count_of_bytes area + 1) ≡ place_behind area + 1 = omega arith in
          after_is ∙ ap (min before) same

      of_entries : after ≡ min before (place_behind (compacted_payloads H) + 1)
      of_entries = lesser_is ∙ ap (λ (a : List Text). min before (place_behind a + 1)) area_is

      were : (image : List ℕ) → (seen old).images image → length image ≡ before
      were image here = omega (arith, (alone image here).1, total, before_is)

      pub replaced : Replaces seen old new place due area ended.Done → IsPacked seen H old new before after
      replaced w =
          let few : place_behind area + 1 ≤ before = omega (arith, w.comes.0, before_is) in
          let size : after ≡ place_behind area + 1 = lesser_is ∙ min-eq_right few in
          let run = moved (w.moments all [] keeps) in
          record {
            before_is = were;
            after_is = of_entries;
            moments = run;
            alone = stands_at_end run;
            size = λ image here. (w.comes.1 image here).1 ∙ sym size;
            packs = λ less image here. (w.comes.1 image here).0 ∙ ap Some area_is;
            later = w.later;
          }

      pub not_replaced : Replaces seen old new place due area ended.Larger → IsPacked seen H old new before after
      not_replaced w =
          let many : before ≤ place_behind area + 1 = omega (arith, w.comes.0, before_is) in
          let size : after ≡ before = lesser_is ∙ min-eq_left many in
          let run = moved (w.moments all [] keeps) in
          record {
            before_is = were;
            after_is = of_entries;
            moments = run;
            alone = stands_at_end run;
            size = λ image here. omega (arith, (w.comes.1 all [] keeps image here).1, total, before_is, size);
            packs = λ less image here. absurd (omega (arith, less, size));
            later = w.later;
          }

    pub replace_failed : Replaces seen old new place due area ended.Failed → IsUnpacked seen H old new fault.Disk
    replace_failed w = unpacked fault.Disk (inr (refl, w.comes)) (moved (w.moments all [] keeps)) w.later

-- nothing was done
pub left_as_it_is : {D : Type 0} (seen : D → DiskState) (disk : D) (H : History) (all : List Text) → CountsNow seen disk → OnlyNow (seen disk) → IsStory all H
    → ((image : List ℕ) → (seen disk).images image → decode image ≡ Some all) → IsUnpacked seen H disk disk fault.Memory
left_as_it_is seen disk H all counts only_now story alone =
    unpacked seen disk disk H counts fault.Memory (inl refl)
    (started seen disk (HoldsEntries H) (λ image left. (all, alone image (only_now image left), story))) (omega arith)

-- From the disk that is handed in to the open journal, and on to the compacted one.
module _ {D : Type 0} (seen : D → DiskState) (rules : Rules) (disk mid : D) (payloads : List Text) (reads : ReadsPayloads (seen disk).content payloads)
    (turned : Turned seen disk mid (DecodesAs (seen disk).content)) (later : (seen disk).faults ≤ (seen mid).faults) where
  opened_with : (H : History) (opened : D) → EstablishedWith seen rules payloads mid H opened → OpenedWith seen rules disk H opened
  opened_with H opened w =
      record {
        payloads = payloads;
        reads = reads;
        opens = w.opens;
        alone = w.alone;
        moments = turned_on seen rules disk mid payloads opened reads turned w.moments;
      }

  pub compacts : (new : D) (ended : CompactEnd) → CompactsOpen seen rules payloads mid new ended → CompactsTo seen rules disk new ended
  compacts new (Done entries before after) (H, opened, w, count, packed) = record {
    history = H;
    opened = opened;
    opening = opened_with H opened w;
    entries_is = count;
    before_is = packed.before_is;
    after_is = packed.after_is;
    moments = packed.moments;
    alone = packed.alone;
    size = packed.size;
    packs = packed.packs;
    later = let first = w.later in let second = packed.later in omega (arith, later, first, second);
  }
  compacts new (Fault why) (inl given) = inl (refused seen rules disk mid payloads 0 new why later reads turned given)
  compacts new (Fault why) (inr (H, opened, w, left)) = inr (record {
    history = H;
    opened = opened;
    opening = opened_with H opened w;
    cause = cause left.cause;
    moments = left.moments;
    alone = left.alone;
    later = let first = w.later in let second = left.later in omega (arith, later, first, second);
  })
    where
      cause : (why ≡ fault.Memory) ⊎ ((why ≡ fault.Disk) × Rose (seen opened).faults (seen new).faults)
          → (why ≡ fault.Memory) ⊎ ((why ≡ fault.Disk) × Rose (seen disk).faults (seen new).faults)
      cause (inl memory) = inl memory
      cause (inr (is, rose)) = inr (is, (let first = w.later in omega (arith, later, first, rose)))

-- A journal whose images give these records.
module _ {D : Type 0} (seen : D → DiskState) (only_now : (disk : D) → OnlyNow (seen disk)) (rules : Rules) (payloads : List Text) (disk : D)
    (alone : (image : List ℕ) → (seen disk).images image → decode image ≡ Some payloads) where
  established_here : (H : History) → OpensWith rules payloads H → IsStory payloads H → EstablishedWith seen rules payloads disk H disk
  established_here H opens story = record {
    opens = opens;
    alone = λ image here. (payloads, alone image here, story);
    moments = records_stay seen only_now rules payloads 0 disk alone;
    later = omega arith;
  }

  pub open_packed : (H : History) → OpensWith rules payloads H → IsStory payloads H → (entries : ℕ) → entries ≡ length H
      → (new : D) (end : CompactEnd) → PacksInto seen H disk new entries end
      → CompactsOpen seen rules payloads disk new end
  open_packed H opens story entries count new (Done told before after) (same, packed) = (H, disk, established_here H opens story, same ∙ count, packed)
  open_packed H opens story entries count new (Fault why) left = inr (H, disk, established_here H opens story, left)

  pub open_given_up : (why : BookFault) → Stops rules payloads why → CompactsOpen seen rules payloads disk disk (Fault why)
  open_given_up why stops = inl (given_up seen only_now rules payloads 0 disk alone why stops)

-- The founding entry was to be added to a journal without records.
module _ {D : Type 0} (seen : D → DiskState) (rules : Rules) (old new : D) (moments : EachMoment seen old new (Establishes rules []))
    (later : (seen old).faults ≤ (seen new).faults) where
  pub found_failed : Rose (seen old).faults (seen new).faults → CompactsOpen seen rules [] old new (Fault fault.Disk)
  found_failed rose = inl (not_established seen rules 0 old new moments later fault.Disk refl rose)

  pub found_done : ((disk : D) → OnlyNow (seen disk)) → are_rules rules ≡ true → (frame : Text)
      → frame ≡ entry_bytes (founding rules).core → HasAlone (seen new).images (frame ∷ [])
      → (size : ℕ) → size ≡ place_behind (frame ∷ []) + 1 → CompactsOpen seen rules [] old new (Done 1 size size)
  found_done only_now plain frame is alone size size_is = (
    founding rules ∷ [],
    new,
    record { opens = refl; alone = holds; moments = moments; later = later },
    refl,
    record {
      before_is = λ image here. (alone image here).1 ∙ sym size_is;
      after_is = sym (min-eq_left few);
      moments = started seen new (HoldsEntries (founding rules ∷ [])) (λ image left. holds image (only_now new image left));
      alone = holds;
      size = λ image here. (alone image here).1 ∙ sym size_is;
      packs = λ less image here. absurd (omega (arith, less));
      later = omega arith;
    },
  )
    where
      holds : (image : List ℕ) → (seen new).images image → HoldsEntries (founding rules ∷ []) image
      holds image here = (frame ∷ [], (alone image here).0, founding_story rules (founding rules ∷ []) frame plain refl is)

      few : size ≤ place_behind (compacted_payloads (founding rules ∷ [])) + 1
      few =
          let same : place_behind (compacted_payloads (founding rules ∷ [])) + 1 ≡ place_behind (frame ∷ []) + 1 =
          ap (λ (bytes : Text). place_behind (bytes ∷ []) + 1) (sym is) in
          omega (arith, same, size_is)
