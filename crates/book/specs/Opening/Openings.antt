-- What opening a book comes to: its entries are those that the disk told, or the founding one; or why it isn't opened.
use Rattle.std.specs.Prelude.{◌≡◌, ◌≢◌, ◌⊎◌, ℕ, ◌≤◌, List, [], ◌∷◌, Option, None, Some, IfSome}
use Rattle.decimal_rank.specs.Causes.{Rose}
use Rattle.disk_model.specs.Disks.{DiskState, NoFurther}
use Rattle.journal.specs.Format.{decode}
use Rattle.journal.specs.Moments.{Turned, Turns}
use Rattle.rulebook.specs.declared.rules.Rules.{Rules}
use Rattle.rulebook.specs.Campaign.{History, rules_of}
use Rattle.rulebook.specs.Histories.Legal.{founding}
use Rattle.rulebook.specs.Words.{Text}
use Rattle.book.specs.declared.faults.BookFault.{BookFault}
use Rattle.book.specs.declared.faults.BookFault.TheVariants as fault
use Rattle.book.specs.Books.{BookView, IsSound}
use Rattle.book.specs.Images.{HoldsEntries}
use Rattle.book.specs.Stories.{BreaksAt, IsOnlyStory}

-- these are the payloads of what a disk reads, where it tells that
abbrev pub ReadsPayloads : Option (List ℕ) → List Text → Type 0
ReadsPayloads content payloads = IfSome content (λ bytes. decode bytes ≡ Some payloads)

-- the entries are the story of the payloads, under these rules; without payloads the founding entry alone
abbrev pub OpensWith : Rules → List Text → History → Type 0
OpensWith rules [] H = H ≡ founding rules ∷ []
OpensWith rules (first ∷ others) H = IsOnlyStory (first ∷ others) H × (rules_of H ≡ rules)

-- the payloads have a story, whose rules are others
abbrev pub DiffersFrom : Rules → List Text → Type 0
DiffersFrom rules payloads = (payloads ≢ []) × ((H : History) × IsOnlyStory payloads H × (rules_of H ≢ rules))

-- the image gives the payloads, or the founding entry where there are none
abbrev pub Establishes : Rules → List Text → List ℕ → Type 0
Establishes rules payloads image = (decode image ≡ Some payloads) ⊎ ((payloads ≡ []) × HoldsEntries (founding rules ∷ []) image)

-- the image gives what the content gives, or the founding entry where that is nothing
abbrev pub OpensTo : Option (List ℕ) → Rules → List ℕ → Type 0
OpensTo content rules image =
    IfSome content (λ start. (decode image ≡ decode start) ⊎ ((decode start ≡ Some []) × HoldsEntries (founding rules ∷ []) image))

-- Opening a book of these rules on a disk.
module _ {D : Type 0} (seen : D → DiskState) (rules : Rules) (disk : D) where
  -- Its entries are those that the disk told, or the founding one, and its disk stands for them alone.
  pub record Opened (book : BookView D) : Type 0 where
    pub payloads : List Text
    pub reads : ReadsPayloads (seen disk).content payloads
    pub opens : OpensWith rules payloads book.history
    pub alone : book.pending ≡ None
    pub opening_is : book.opening ≡ (seen disk).faults
    pub sound : IsSound seen book
    pub later : (seen disk).faults ≤ (seen book.disk).faults
    pub moments : Turned seen disk book.disk (OpensTo (seen disk).content rules)

  -- why a book isn't opened, and what is left of its disk
  abbrev pub Causes : D → BookFault → Type 0
  Causes after fault.Disk = Rose (seen disk).faults (seen after).faults
  Causes after fault.Header = IfSome (seen disk).content (λ bytes. decode bytes ≡ None)
      × ((seen after).content ≡ (seen disk).content) × NoFurther (seen disk).images (seen after).images
  Causes after (fault.Damaged entry) = (payloads : List Text) × ReadsPayloads (seen disk).content payloads × BreaksAt payloads entry
  Causes after fault.RulesDiffer = (payloads : List Text) × ReadsPayloads (seen disk).content payloads × DiffersFrom rules payloads
  Causes after fault.Memory = Unit {0}

  pub record Refused (after : D) (why : BookFault) : Type 0 where
    pub causes : Causes after why
    pub later : (seen disk).faults ≤ (seen after).faults
    pub moments : Turns seen disk after (OpensTo (seen disk).content rules)
