-- An open journal as a book, by what its records are.
use Rattle.std.proofs.Common.{◌≡◌, inl, inr, ℕ, ◌-◌, ◌<◌, ◌≤◌, List, [], ◌∷◌, Option, None, Some, Vec, length, take, drop, get_or, refl, sym, ap, subst, ◌∙◌, arith}
use Rattle.std.specs.Prelude.{IfErr, IfOk, Result, Ok, Err, slice_index_or}
use Rattle.std.specs.List.{remove}
use Rattle.std.specs.declared.alloc.Global.{Global}
use Rattle.std.proofs.lemmas.List.{take_all}
use Rattle.decimal_rank.specs.Causes.{Rose}
use Rattle.disk_model.specs.Disks.{DiskState, EachMoment, OnlyNow}
use Rattle.journal.specs.declared.dues.Due.TheVariants.{Nothing}
use Rattle.journal.specs.declared.opening.OpenFault.{OpenFault}
use Rattle.journal.specs.declared.opening.OpenFault.TheVariants as open_fault
use Rattle.journal.specs.Format.{decode}
use Rattle.journal.specs.Journals.{JournalState}
use Rattle.journal.specs.KeptRecords.{HoldsRecordsOfOne, payloads as payloads_of}
use Rattle.journal.specs.Openings.{NotRecovered}
use Rattle.journal.specs.Moments.{DecodesAs, Turned, Turns, joined, started, weaker}
use Rattle.rulebook.specs.declared.rules.Rules.{Rules}
use Rattle.rulebook.specs.Campaign.{History}
use Rattle.rulebook.specs.Histories.Legal.{IsLegal, founding}
use Rattle.rulebook.specs.Words.{Text}
use Rattle.book.specs.declared.faults.BookFault.{BookFault}
use Rattle.book.specs.declared.faults.BookFault.TheVariants as fault
use Rattle.book.specs.Books.{BookView, IsSound}
use Rattle.book.specs.JournaledEntries.{EndsWithin, IsKept}
use Rattle.book.specs.Opening.Openings.{Causes, Establishes, Opened, OpensTo, OpensWith, ReadsPayloads, Refused}
use Rattle.book.specs.Opening.Replays.{Stops}
use Rattle.book.specs.Stories.{IsStory}
use Rattle.book.specs.Opening.OpenJournals.{GivenUp, KeepsStory, IsBookOf, OpensRecords, WhyNot, book_fault_of}
use Rattle.book.proofs.JournalEntries.{settled_keeps}

-- the records by their first
pub no_records : (records : List (Vec ℕ Global)) → length records < 1 → [] ≡ payloads_of records
no_records [] few = refl
no_records (x ∷ records) few = absurd (omega (arith, few))

pub first_and_others : (records : List (Vec ℕ Global)) (first : Vec ℕ Global) → 1 ≤ length records → first ≡ get_or records 0 first
    → first.items ∷ payloads_of (take (length records - 1) (drop 1 records)) ≡ payloads_of records
first_and_others [] first some is = absurd (omega (arith, some))
first_and_others (x ∷ records) first some is =
    ap (λ (p : Vec ℕ Global). p.items ∷ payloads_of (take (length (x ∷ records) - 1) records)) is
    ∙ ap (λ (rest : List (Vec ℕ Global)). x.items ∷ payloads_of rest) (take_all (length (x ∷ records) - 1) records (omega arith))

-- the same, where the first one is taken out
pub first_removed : (records : List (Vec ℕ Global)) (first : Vec ℕ Global) → 0 < length records → first ≡ slice_index_or records 0 first
    → first.items ∷ payloads_of (remove records 0) ≡ payloads_of records
first_removed [] first some is = absurd (omega (arith, some))
first_removed (x ∷ records) first some is = ap (λ (p : Vec ℕ Global). p.items ∷ payloads_of records) is

-- an image while the founding entry is added
pub establishes : (rules : Rules) (frame : Text) (H : History) → IsStory (frame ∷ []) H → H ≡ founding rules ∷ []
    → (image : List ℕ) → HoldsRecordsOfOne [] [] frame image → Establishes rules [] image
establishes rules frame H story is image (inl (inl none)) = inl none
establishes rules frame H story is image (inl (inr none)) = inl none
establishes rules frame H story is image (inr (inl none)) = inl none
establishes rules frame H story is image (inr (inr one)) = inr (refl, (frame ∷ [], one, subst (IsStory (frame ∷ [])) is story))

module _ {D : Type 0} (seen : D → DiskState) where
  -- a book of a journal and its entries
  pub reopened : (journal : JournalState D) (H : History) (opening : ℕ) → IsLegal H → KeepsStory (seen journal.disk).images journal.place H
      → EndsWithin journal.place H → journal.due ≡ Nothing → opening ≤ (seen journal.disk).faults
      → IsKept seen (record { journal = journal; history = H; pending = None }) opening
  reopened journal H opening legal settled within nothing later = record {
    keeps = settled_keeps seen journal settled.0 H legal settled.1 nothing settled.2;
    within = within;
    rose = λ some. absurd (cc some);
    opened = later;
  }

  -- no call was made on the disk, each of whose images gives the records
  module _ (only_now : (disk : D) → OnlyNow (seen disk)) (rules : Rules) (payloads : List Text) (opening : ℕ) (disk : D)
      (alone : (image : List ℕ) → (seen disk).images image → decode image ≡ Some payloads) where
    pub records_stay : EachMoment seen disk disk (Establishes rules payloads)
    records_stay = started seen disk (Establishes rules payloads) (λ image left. inl (alone image (only_now disk image left)))

    why_not : (why : BookFault) → Stops rules payloads why → WhyNot seen rules payloads opening disk disk why
    why_not fault.Disk stops = absurd stops
    why_not fault.Header stops = absurd stops
    why_not (fault.Damaged entry) stops = stops
    why_not fault.RulesDiffer stops = stops
    why_not fault.Memory stops = tt

    pub given_up : (why : BookFault) → Stops rules payloads why → GivenUp seen rules payloads opening disk disk why
    given_up why stops = record { causes = why_not why stops; later = omega arith; moments = records_stay }

    pub is_book_of : (book : BookView D) (H : History) → book ≡ record { disk = disk; history = H; pending = None; opening = opening }
        → IsSound seen book → OpensWith rules payloads H
        → IsBookOf seen rules payloads opening disk book
    is_book_of book H is sound opens =
        subst (λ (book : BookView D). IsBookOf seen rules payloads opening disk book) (sym is)
        (record { opens = opens; alone = refl; opening_is = refl; sound = subst (IsSound seen) is sound; later = omega arith; moments = records_stay })

  -- the founding entry was to be added
  module _ (rules : Rules) (opening : ℕ) (old new : D) (moments : EachMoment seen old new (Establishes rules []))
      (later : (seen old).faults ≤ (seen new).faults) where
    pub established : (book : BookView D) (H : History) → book ≡ record { disk = new; history = H; pending = None; opening = opening }
        → IsSound seen book → H ≡ founding rules ∷ []
        → IsBookOf seen rules [] opening old book
    established book H is sound founded =
        subst (λ (book : BookView D). IsBookOf seen rules [] opening old book) (sym is)
        (record { opens = founded; alone = refl; opening_is = refl; sound = subst (IsSound seen) is sound; later = later; moments = moments })

    pub not_established : (why : BookFault) → why ≡ fault.Disk → Rose (seen old).faults (seen new).faults → GivenUp seen rules [] opening old new why
    not_established why is rose =
        subst (λ (why : BookFault). GivenUp seen rules [] opening old new why) (sym is) (record { causes = rose; later = later; moments = moments })

-- From the disk that is handed in to the open journal, and on to the book.
module _ {D : Type 0} (seen : D → DiskState) (rules : Rules) (disk mid : D) where
  -- what the content gives
  opens_to : (payloads : List Text) → ReadsPayloads (seen disk).content payloads → (image : List ℕ)
      → Establishes rules payloads image → OpensTo (seen disk).content rules image
  opens_to payloads reads image here = by (seen disk).content reads here
    where
      by : (told : Option (List ℕ)) → ReadsPayloads told payloads → Establishes rules payloads image → OpensTo told rules image
      by None reads here = tt
      by (Some bytes) reads (inl same) = inl (same ∙ sym reads)
      by (Some bytes) reads (inr (none, founded)) = inr (reads ∙ ap Some none, founded)

  pub decodes_to : (image : List ℕ) → DecodesAs (seen disk).content image → OpensTo (seen disk).content rules image
  decodes_to image here = by (seen disk).content here
    where
      by : (told : Option (List ℕ)) → DecodesAs told image → OpensTo told rules image
      by None here = tt
      by (Some bytes) here = inl here

  pub turned_on : (payloads : List Text) (after : D) → ReadsPayloads (seen disk).content payloads
      → Turned seen disk mid (DecodesAs (seen disk).content) → EachMoment seen mid after (Establishes rules payloads)
      → Turned seen disk after (OpensTo (seen disk).content rules)
  turned_on payloads after reads turned moments = record {
    synced = turned.synced;
    at_entry = turned.at_entry;
    turned = joined seen turned.synced mid after (OpensTo (seen disk).content rules)
        (weaker seen turned.synced mid (DecodesAs (seen disk).content) (OpensTo (seen disk).content rules) decodes_to turned.turned)
        (weaker seen mid after (Establishes rules payloads) (OpensTo (seen disk).content rules) (opens_to payloads reads) moments);
  }

  opened : (payloads : List Text) (opening : ℕ) (book : BookView D) → opening ≡ (seen disk).faults → (seen disk).faults ≤ (seen mid).faults
      → ReadsPayloads (seen disk).content payloads → Turned seen disk mid (DecodesAs (seen disk).content)
      → IsBookOf seen rules payloads opening mid book → Opened seen rules disk book
  opened payloads opening book opening_is later reads turned taken = record {
    payloads = payloads;
    reads = reads;
    opens = taken.opens;
    alone = taken.alone;
    opening_is = taken.opening_is ∙ opening_is;
    sound = taken.sound;
    later = omega (arith, later, taken.later);
    moments = turned_on payloads book.disk reads turned taken.moments;
  }

  causes : (payloads : List Text) (opening : ℕ) (after : D) (why : BookFault) → (seen disk).faults ≤ (seen mid).faults
      → ReadsPayloads (seen disk).content payloads → WhyNot seen rules payloads opening mid after why
      → Causes seen rules disk after why
  causes payloads opening after fault.Disk later reads why = omega (arith, later, why)
  causes payloads opening after fault.Header later reads why = absurd why
  causes payloads opening after (fault.Damaged entry) later reads why = (payloads, reads, why)
  causes payloads opening after fault.RulesDiffer later reads why = (payloads, reads, why)
  causes payloads opening after fault.Memory later reads why = tt

  pub refused : (payloads : List Text) (opening : ℕ) (after : D) (why : BookFault) → (seen disk).faults ≤ (seen mid).faults
      → ReadsPayloads (seen disk).content payloads → Turned seen disk mid (DecodesAs (seen disk).content)
      → GivenUp seen rules payloads opening mid after why → Refused seen rules disk after why
  refused payloads opening after why later reads turned given = record {
    causes = causes payloads opening after why later reads given.causes;
    later = omega (arith, later, given.later);
    moments = inr (turned_on payloads after reads turned given.moments);
  }

  pub opened_result : (payloads : List Text) (opening : ℕ) → opening ≡ (seen disk).faults → (seen disk).faults ≤ (seen mid).faults
      → ReadsPayloads (seen disk).content payloads → Turned seen disk mid (DecodesAs (seen disk).content)
      → (result : Result (BookView D) (D × BookFault)) → OpensRecords seen rules payloads opening mid result → IfOk result (Opened seen rules disk)
  opened_result payloads opening opening_is later reads turned (Ok book) taken = opened payloads opening book opening_is later reads turned taken
  opened_result payloads opening opening_is later reads turned (Err given) taken = tt

  pub refused_result : (payloads : List Text) (opening : ℕ) → (seen disk).faults ≤ (seen mid).faults
      → ReadsPayloads (seen disk).content payloads → Turned seen disk mid (DecodesAs (seen disk).content)
      → (result : Result (BookView D) (D × BookFault)) → OpensRecords seen rules payloads opening mid result
      → IfErr result (λ given. Refused seen rules disk given.0 given.1)
  refused_result payloads opening later reads turned (Ok book) taken = tt
  refused_result payloads opening later reads turned (Err given) taken = refused payloads opening given.0 given.1 later reads turned taken

-- a journal that wasn't opened
module _ {D : Type 0} (seen : D → DiskState) (rules : Rules) (disk after : D) where
  turns_on : Turns seen disk after (DecodesAs (seen disk).content) → Turns seen disk after (OpensTo (seen disk).content rules)
  turns_on (inl entry) = inl entry
  turns_on (inr turned) = inr (record {
    synced = turned.synced;
    at_entry = turned.at_entry;
    turned = weaker seen turned.synced after (DecodesAs (seen disk).content) (OpensTo (seen disk).content rules)
        (decodes_to seen rules disk after) turned.turned;
  })

  pub not_opened : (why : OpenFault) → NotRecovered seen disk after why → (told : BookFault) → told ≡ book_fault_of why → Refused seen rules disk after told
  not_opened why left told is = subst (λ (told : BookFault). Refused seen rules disk after told) (sym is) (by why left)
    where
      by : (why : OpenFault) → NotRecovered seen disk after why → Refused seen rules disk after (book_fault_of why)
      by open_fault.Disk left = record { causes = left.rose refl; later = left.later; moments = turns_on left.any_moment }
      by open_fault.Header left =
          let same = left.untouched (λ is. cc) in
          record { causes = (left.header refl, same.0, same.1); later = left.later; moments = turns_on left.any_moment }
      by open_fault.Memory left = record { causes = tt; later = left.later; moments = turns_on left.any_moment }
