-- What contracts see of a book, and what one request makes of it.
use Rattle.std.specs.Prelude.{◌≡◌, ◌⊎◌, ℕ, ◌≤◌, [], ◌∷◌, Option, None, Some, IsTrue, is_some}
use Rattle.decimal_rank.specs.Causes.{Rose}
use Rattle.disk_model.specs.Disks.{DiskState, EachMoment}
use Rattle.rulebook.specs.declared.answer.Answer.{Answer}
use Rattle.rulebook.specs.declared.answer.Answer.TheVariants as answered
use Rattle.rulebook.specs.declared.ask.Addressed.{Addressed}
use Rattle.rulebook.specs.declared.entry.Entry.{Entry}
use Rattle.rulebook.specs.Campaign.{History}
use Rattle.rulebook.specs.Histories.Legal.{IsAccepted, IsLegal}
use Rattle.rulebook.specs.Histories.Stories.{IsTold, StartsWith, Story, added_by}
use Rattle.book.specs.Images.{HoldsOneOf, ImagesHold, IsBetween}

-- the disk, the accepted entries, the entry whose journaling failed last, if it may be on the disk, and the count of the disk's faults at the opening
pub record BookView (D : Type 0) : Type 0 where
  pub disk : D
  pub history : History
  pub pending : Option Entry
  pub opening : ℕ

-- the accepted entries of a book, with its disk's count of faults
abbrev pub story_of : {D : Type 0} → (D → DiskState) → BookView D → Story
story_of seen book = record { list = book.history; faults = (seen book.disk).faults; opening = book.opening }

-- The books of a disk, by what it tells in each state.
module _ {D : Type 0} (seen : D → DiskState) where
  -- Its entries can come about, and the disk stands for them, with the pending one or without it. One is pending only where the disk failed since the opening.
  pub record IsSound (book : BookView D) : Type 0 where
    pub legal : IsLegal book.history
    pub stands : ImagesHold (seen book.disk).images book.history book.pending
    pub accepted : (e : Entry) → book.pending ≡ Some e → IsAccepted book.history e
    pub rose : IsTrue (is_some book.pending) → Rose book.opening (seen book.disk).faults
    pub opened : book.opening ≤ (seen book.disk).faults

  -- Nothing was added: the book is as it was, and so is its disk, on which no call was made. Or something was: then nothing is pending.
  abbrev pub Settles : BookView D → History → BookView D → Type 0
  Settles old [] new = new ≡ old
  Settles old (e ∷ others) new = new.pending ≡ None

  -- What is pending after an answer: a reply settles it, a fault of the disk leaves what was or the entry that it kept from being added.
  abbrev pub LeavesPending : BookView D → Addressed → Answer → BookView D → Type 0
  LeavesPending old asked (answered.Reply reply) new = Settles old (added_by old.history asked) new
  LeavesPending old asked answered.DiskFault new =
      (e : Entry) × (added_by old.history asked ≡ e ∷ []) × ((new.pending ≡ old.pending) ⊎ (new.pending ≡ Some e))
  LeavesPending old asked answered.Memory new = new ≡ old

  -- From one book to a later one each image holds a part of the later entries, no shorter than the earlier ones, or it
  -- and one entry that the rules accept next.
  pub record Runs (old new : BookView D) : Type 0 where
    pub grown : StartsWith new.history old.history
    pub moments : EachMoment seen old.disk new.disk (IsBetween old.history new.history)
    pub later : (seen old.disk).faults ≤ (seen new.disk).faults
    pub opening : new.opening ≡ old.opening

  -- One request is answered by the rules; at each moment of it each image holds the entries, with the one that was pending or with the one that is added.
  pub record Acts (old : BookView D) (asked : Addressed) (answer : Answer) (new : BookView D) : Type 0 where
    pub before : IsSound old
    pub after : IsSound new
    pub told : IsTold (story_of seen old) asked answer (story_of seen new)
    pub leaves : LeavesPending old asked answer new
    pub moments : EachMoment seen old.disk new.disk (HoldsOneOf old.history old.pending (added_by old.history asked))
    pub runs : Runs old new
