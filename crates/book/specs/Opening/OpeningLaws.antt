-- What an opening comes to where the disk tells what it holds, and what is left of the disk at the end.
use Rattle.std.specs.Prelude.{◌≡◌, ◌⊎◌, ℕ, zero, suc, List, [], ◌∷◌, ◌++◌, Option, None, Some, IfSome, IsTrue, is_some, length, take}
use Rattle.std.proofs.Common.{inl, inr, refl, sym, ap, subst, ◌∙◌}
use Rattle.std.proofs.lemmas.List.{append-nil, append_assoc, take-map}
use Rattle.std.proofs.Math.Seq.{take-append_seam}
use Rattle.decimal_rank.specs.Causes.{Rose}
use Rattle.disk_model.specs.Disks.{DiskState}
use Rattle.journal.specs.Format.{decode}
use Rattle.rulebook.specs.declared.entry.Entry.{Entry}
use Rattle.rulebook.specs.declared.entry.EntryCore.{EntryCore}
use Rattle.rulebook.specs.declared.rules.Rules.{Rules}
use Rattle.rulebook.specs.Campaign.{History, rules_of}
use Rattle.rulebook.specs.Histories.Legal.{AreAccepted}
use Rattle.rulebook.specs.Words.{Text}
use Rattle.book.specs.declared.faults.BookFault.{BookFault}
use Rattle.book.specs.declared.faults.BookFault.TheVariants as fault
use Rattle.book.specs.Books.{BookView, IsSound}
use Rattle.book.specs.Images.{HoldsEntries, HoldsWith, ImagesHold}
use Rattle.book.specs.Opening.Openings.{Causes, OpensWith, ReadsPayloads, Refused}
use Rattle.book.specs.Stories.{AreCores, BreaksAt, HasHistory, IsStory, Unfolds}

-- the records have a story under these rules, or there are none
abbrev pub MayOpen : Rules → List Text → Type 0
MayOpen rules payloads = (payloads ≡ []) ⊎ ((H : History) × IsStory payloads H × (rules_of H ≡ rules))

accepted_start : (before later : History) (count : ℕ) → AreAccepted before later → AreAccepted before (take count later)
accepted_start before later zero all = tt
accepted_start before [] (suc count) all = tt
accepted_start before (e ∷ later) (suc count) all = (all.0, accepted_start (before ++ e ∷ []) later count all.1)

-- each first part of the cores of a history is one's
history_start : (cores : List EntryCore) (H : History) (count : ℕ) → AreCores cores H → HasHistory (take count cores)
history_start cores H zero are = ([], refl)
history_start [] H (suc count) are = ([], refl)
history_start (first ∷ others) [] (suc count) are = absurd are.0
history_start (first ∷ others) (e ∷ later) (suc count) are = (
  e ∷ take count later,
  (
    (are.0.0, accepted_start (e ∷ []) later count are.0.1),
    sym (take-map (λ (e : Entry). e.core) (suc count) (e ∷ later)) ∙ ap (take (suc count)) are.1,
  ),
)

-- what the payloads up to one unfold to, in front of what those behind it do
record StartOf (before : List Text) (payload : Text) (cores : List EntryCore) : Type 0 where
  part : List EntryCore
  rest : List EntryCore
  unfolds : Unfolds (before ++ payload ∷ []) part
  is : cores ≡ part ++ rest

start_of : (before : List Text) (payload : Text) (later : List Text) (cores : List EntryCore)
    → Unfolds (before ++ payload ∷ later) cores → StartOf before payload cores
start_of [] payload later cores (these, rest, spells, others, is) =
    record {
      part = these ++ [];
      rest = rest;
      unfolds = (these, [], spells, refl, refl);
      is = is
          ∙ ap (λ (t : List EntryCore). t ++ rest) (sym (append-nil these));
    }
start_of (first ∷ before) payload later cores (these, others, spells, unfolds, is) =
    let w = start_of before payload later others unfolds in
    record {
      part = these ++ w.part;
      rest = w.rest;
      unfolds = (these, w.part, spells, w.unfolds, refl);
      is = is ∙ ap (λ (c : List EntryCore). these ++ c) w.is ∙ sym (append_assoc these w.part w.rest);
    }

-- payloads with a story don't break
pub story_unbroken : (payloads : List Text) (H : History) (entry : ℕ) → IsStory payloads H → BreaksAt payloads entry → ⊥
story_unbroken payloads H entry (cores, unfolds, are) at =
    let w = start_of at.before at.payload at.later cores (subst (λ (p : List Text). Unfolds p cores) at.split unfolds) in
    let (K, part_are) =
    subst HasHistory (take-append_seam w.part w.rest)
    (history_start (w.part ++ w.rest) H (length w.part) (subst (λ (c : List EntryCore). AreCores c H) w.is are)) in
    at.none w.part w.unfolds (history_start w.part K entry part_are)

-- nor do those with which a campaign opens, none included
pub none_unbroken : (entry : ℕ) → BreaksAt [] entry → ⊥
none_unbroken entry at = by at.before at.split
  where
    by : (before : List Text) → [] ≡ before ++ at.payload ∷ at.later → ⊥
    by [] is = cc is
    by (first ∷ before) is = cc is

pub opens_unbroken : (rules : Rules) (payloads : List Text) (H : History) (entry : ℕ) → OpensWith rules payloads H → BreaksAt payloads entry → ⊥
opens_unbroken rules [] H entry opens at = none_unbroken entry at
opens_unbroken rules (first ∷ others) H entry opens at = story_unbroken (first ∷ others) H entry opens.0.0 at

module _ {D : Type 0} (seen : D → DiskState) (rules : Rules) (disk : D) where
  -- A disk whose records may be opened is opened, unless memory is short or the disk fails.
  pub opens_or_memory : (bytes : List ℕ) (payloads : List Text) → (seen disk).content ≡ Some bytes → decode bytes ≡ Some payloads → MayOpen rules payloads
      → (after : D) (why : BookFault) → ¬ (Rose (seen disk).faults (seen after).faults) → Refused seen rules disk after why → why ≡ fault.Memory
  opens_or_memory bytes payloads tells decodes may after why calm refused = by why refused.causes
    where
      -- what is told is what was read
      same : (read : List Text) → ReadsPayloads (seen disk).content read → read ≡ payloads
      same read reads =
          let here : decode bytes ≡ Some read = subst (λ (told : Option (List ℕ)). IfSome told (λ bytes. decode bytes ≡ Some read)) tells reads in
          let both : Some read ≡ Some payloads = sym here ∙ decodes in
          cc both

      breaks : (entry : ℕ) → BreaksAt payloads entry → (payloads ≡ []) ⊎ ((H : History) × IsStory payloads H × (rules_of H ≡ rules)) → ⊥
      breaks entry at (inl none) = none_unbroken entry (subst (λ (p : List Text). BreaksAt p entry) none at)
      breaks entry at (inr (H, story, is)) = story_unbroken payloads H entry story at

      by : (why : BookFault) → Causes seen rules disk after why → why ≡ fault.Memory
      by fault.Disk rose = absurd (calm rose)
      by fault.Header none =
          let here : decode bytes ≡ None = subst (λ (told : Option (List ℕ)). IfSome told (λ bytes. decode bytes ≡ None)) tells none.0 in
          let both : Some payloads ≡ None = sym decodes ∙ here in
          cc both
      by (fault.Damaged entry) (read, reads, at) = absurd (breaks entry (subst (λ (p : List Text). BreaksAt p entry) (same read reads) at) may)
      by fault.RulesDiffer (read, reads, (some, (H, only, other))) = absurd (differs may)
        where
          differs : (payloads ≡ []) ⊎ ((H : History) × IsStory payloads H × (rules_of H ≡ rules)) → ⊥
          differs (inl none) = some (same read reads ∙ none)
          differs (inr (K, story, is)) =
              let there : K ≡ H = only.1 K (subst (λ (p : List Text). IsStory p K) (sym (same read reads)) story) in
              other (ap rules_of (sym there) ∙ is)
      by fault.Memory causes = refl

-- Where no call on the disk failed since the opening, it stands for the entries alone.
pub stands_alone : {D : Type 0} (seen : D → DiskState) (book : BookView D) → IsSound seen book
    → ¬ (Rose book.opening (seen book.disk).faults) → ImagesHold (seen book.disk).images book.history None
stands_alone seen book sound calm image here = by book.pending sound.rose (sound.stands image here)
  where
    by : (pending : Option Entry) → (IsTrue (is_some pending) → Rose book.opening (seen book.disk).faults)
        → HoldsWith book.history pending image → HoldsEntries book.history image
    by None rose holds = holds
    by (Some e) rose holds = absurd (calm (rose refl))
