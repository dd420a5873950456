-- What an open journal comes to as a book.
use Rattle.std.specs.Prelude.{◌≡◌, ◌≤◌, ℕ, List, None, Result, Ok, Err}
use Rattle.decimal_rank.specs.Causes.{Rose}
use Rattle.disk_model.specs.Disks.{DiskState, EachMoment}
use Rattle.journal.specs.declared.opening.OpenFault.{OpenFault}
use Rattle.journal.specs.declared.opening.OpenFault.TheVariants as open_fault
use Rattle.journal.specs.KeptRecords.{Settled}
use Rattle.rulebook.specs.Campaign.{History}
use Rattle.rulebook.specs.declared.rules.Rules.{Rules}
use Rattle.rulebook.specs.Words.{Text}
use Rattle.book.specs.declared.faults.BookFault.{BookFault}
use Rattle.book.specs.declared.faults.BookFault.TheVariants as fault
use Rattle.book.specs.Books.{BookView, IsSound}
use Rattle.book.specs.Opening.Openings.{Establishes, OpensWith}
use Rattle.book.specs.Opening.Replays.{Stops}
use Rattle.book.specs.Stories.{IsStory}

-- what the journal's fault is told as
abbrev pub book_fault_of : OpenFault → BookFault
book_fault_of open_fault.Disk = fault.Disk
book_fault_of open_fault.Header = fault.Header
book_fault_of open_fault.Memory = fault.Memory

-- each image is the records of payloads whose story are these entries, and a closed gate
abbrev pub KeepsStory : (List ℕ → Type 0) → ℕ → History → Type 0
KeepsStory images place H = (payloads : List Text) × IsStory payloads H × Settled images place payloads

module _ {D : Type 0} (seen : D → DiskState) (rules : Rules) (payloads : List Text) (opening : ℕ) (disk : D) where
  -- its entries are those of the records, or the founding one
  pub record IsBookOf (book : BookView D) : Type 0 where
    pub opens : OpensWith rules payloads book.history
    pub alone : book.pending ≡ None
    pub opening_is : book.opening ≡ opening
    pub sound : IsSound seen book
    pub later : (seen disk).faults ≤ (seen book.disk).faults
    pub moments : EachMoment seen disk book.disk (Establishes rules payloads)

  abbrev pub WhyNot : D → BookFault → Type 0
  WhyNot after fault.Disk = Rose (seen disk).faults (seen after).faults
  WhyNot after fault.Header = ⊥
  WhyNot after (fault.Damaged entry) = Stops rules payloads (fault.Damaged entry)
  WhyNot after fault.RulesDiffer = Stops rules payloads fault.RulesDiffer
  WhyNot after fault.Memory = Unit {0}

  pub record GivenUp (after : D) (why : BookFault) : Type 0 where
    pub causes : WhyNot after why
    pub later : (seen disk).faults ≤ (seen after).faults
    pub moments : EachMoment seen disk after (Establishes rules payloads)

  abbrev pub OpensRecords : Result (BookView D) (D × BookFault) → Type 0
  OpensRecords (Ok book) = IsBookOf book
  OpensRecords (Err refused) = GivenUp refused.0 refused.1
