-- What a journal keeps for a book, and what the journaling of an entry comes to.
use Rattle.std.specs.Prelude.{◌≡◌, ◌⊎◌, ℕ, ◌+◌, ◌≤◌, ◌^◌, List, [], ◌∷◌, ◌++◌, Option, None, Some, IsTrue, OnErr, OnOk, Result, is_some, length}
use Rattle.decimal_rank.specs.Causes.{HasCause, Rose}
use Rattle.disk_model.specs.Disks.{DiskState, EachMoment}
use Rattle.journal.specs.Format.{place_behind}
use Rattle.journal.specs.Journals.{JournalState}
use Rattle.journal.specs.KeptRecords.{KeepsSome}
use Rattle.rulebook.specs.declared.answer.Answer.{Answer}
use Rattle.rulebook.specs.declared.answer.Answer.TheVariants as answered
use Rattle.rulebook.specs.declared.entry.Entry.{Entry}
use Rattle.rulebook.specs.Campaign.{History}
use Rattle.rulebook.specs.Histories.Legal.{IsAccepted, IsLegal}
use Rattle.rulebook.specs.Spelling.{entry_bytes, has_spelling}
use Rattle.rulebook.specs.Words.{Text}
use Rattle.book.specs.Images.{HoldsOneOf}
use Rattle.book.specs.Stories.{IsStory, spellings}

-- the spelling of the pending entry, if one is
abbrev pub spelled : Option Entry → List Text
spelled None = []
spelled (Some e) = entry_bytes e.core ∷ []

-- The journal keeps records whose story are these entries, and perhaps the record of the pending one, which the rules accept next.
pub record KeepsBook {D : Type 0} (seen : D → DiskState) (journal : JournalState D) (H : History) (pending : Option Entry) : Type 0 where
  pub legal : IsLegal H
  pub accepted : (e : Entry) → pending ≡ Some e → IsAccepted H e
  pub payloads : List Text
  pub story : IsStory payloads H
  pub keeps : KeepsSome (seen journal.disk).images journal.place journal.due payloads (spelled pending)

-- The records end at most 2^39 bytes further than those of the entries' spellings would.
abbrev pub EndsWithin : ℕ → History → Type 0
EndsWithin place H = place + 1 ≤ 2 ^ 39 + place_behind (spellings H)

-- an entry that the rules accept after these; a journal of the spellings alone would have room for it in 2^39 bytes
pub record EntryHasRoom (H : History) (e : Entry) : Type 0 where
  pub accepted : IsAccepted H e
  pub spells : IsTrue (has_spelling e.core)
  pub short : length (entry_bytes e.core) ≤ 2 ^ 25
  pub room : place_behind (spellings H) + 6 + length (entry_bytes e.core) ≤ 2 ^ 39

-- the parts of a book that an entry changes
pub record BookParts (D : Type 0) : Type 0 where
  pub journal : JournalState D
  pub history : History
  pub pending : Option Entry

module _ {D : Type 0} (seen : D → DiskState) where
  -- what a book keeps true of its parts
  pub record IsKept (parts : BookParts D) (opening : ℕ) : Type 0 where
    pub keeps : KeepsBook seen parts.journal parts.history parts.pending
    pub within : EndsWithin parts.journal.place parts.history
    pub rose : IsTrue (is_some parts.pending) → Rose opening (seen parts.journal.disk).faults
    pub opened : opening ≤ (seen parts.journal.disk).faults

  -- the call that adds an entry's record, from one state of the journal, and of what is pending, to another
  pub record KeepsEntry {T E : Type 0} (old new : JournalState D) (pending pending' : Option Entry) (e : Entry) (result : Result T E) : Type 0 where
    pub added : OnOk result ((H : History) → IsAccepted H e → KeepsBook seen old H pending → KeepsBook seen new (H ++ e ∷ []) None)
    pub none : OnOk result (pending' ≡ None)
    pub place : OnOk result (new.place ≡ old.place + 5 + length (entry_bytes e.core))
    pub place_err : OnErr result (new.place ≡ old.place)
    pub kept : OnErr result ((H : History) → IsAccepted H e → KeepsBook seen old H pending → KeepsBook seen new H pending')
    pub pending_is : OnErr result ((pending' ≡ pending) ⊎ (pending' ≡ Some e))
    pub any_moment : (H : History) → IsAccepted H e → KeepsBook seen old H pending
        → EachMoment seen old.disk new.disk (HoldsOneOf H pending (e ∷ []))
    pub cause : HasCause (seen old.disk).faults (seen new.disk).faults result

  -- the entry was added; or the disk failed, and what was pending is so still or the entry is; or there was no memory
  abbrev pub JournalsEntry : BookParts D → Entry → Answer → BookParts D → Type 0
  JournalsEntry old e (answered.Reply reply) new = (reply ≡ e.reply) × (new.history ≡ old.history ++ e ∷ []) × (new.pending ≡ None)
  JournalsEntry old e answered.DiskFault new =
      (new.history ≡ old.history) × ((new.pending ≡ old.pending) ⊎ (new.pending ≡ Some e))
      × Rose (seen old.journal.disk).faults (seen new.journal.disk).faults
  JournalsEntry old e answered.Memory new = (new.journal ≡ old.journal) × (new.history ≡ old.history) × (new.pending ≡ old.pending)

  -- an entry that the rules add was journaled, or not
  pub record Accepts (old : BookParts D) (e : Entry) (answer : Answer) (new : BookParts D) : Type 0 where
    pub comes : JournalsEntry old e answer new
    pub keeps : KeepsBook seen new.journal new.history new.pending
    pub within : EndsWithin old.journal.place old.history → EndsWithin new.journal.place new.history
    pub moments : EachMoment seen old.journal.disk new.journal.disk (HoldsOneOf old.history old.pending (e ∷ []))
    pub later : (seen old.journal.disk).faults ≤ (seen new.journal.disk).faults
