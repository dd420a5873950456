-- One request to a book, by what it came to.
use Rattle.std.proofs.Common.{◌≡◌, ◌⊎◌, inl, ℕ, ◌+◌, ◌≤◌, List, [], ◌∷◌, ◌++◌, Option, None, Some, length, refl, sym, ap, subst, ◌∙◌, arith}
use Rattle.std.specs.Prelude.{IsTrue, is_some, sum_by}
use Rattle.std.proofs.lemmas.List.{append-nil}
use Rattle.std.proofs.lemmas.List.Sums.{sum_by_push, sum_by-cons}
use Rattle.decimal_rank.specs.Causes.{Rose}
use Rattle.disk_model.specs.Disks.{DiskState, EachMoment, OnlyNow}
use Rattle.journal.specs.Journals.{JournalState}
use Rattle.journal.specs.Moments.{started, weaker}
use Rattle.rulebook.specs.declared.answer.Answer.{Answer}
use Rattle.rulebook.specs.declared.answer.Answer.TheVariants as answered
use Rattle.rulebook.specs.declared.ask.Addressed.{Addressed}
use Rattle.rulebook.specs.declared.entry.Entry.{Entry}
use Rattle.rulebook.specs.declared.reply.Reply.{Reply}
use Rattle.rulebook.specs.Histories.Additions.{IsAdded}
use Rattle.rulebook.specs.Campaign.{History}
use Rattle.rulebook.specs.Histories.Legal.{IsAccepted, IsLegal}
use Rattle.rulebook.specs.Spelling.{entry_bytes}
use Rattle.rulebook.specs.Histories.Stories.{Leads, StartsWith, added_by, reply_by}
use Rattle.book.specs.Books.{Acts, BookView, IsSound, LeavesPending, Settles, story_of}
use Rattle.book.specs.Images.{HoldsOneOf, ImagesHold, IsBetween}
use Rattle.book.specs.JournaledEntries.{Accepts, BookParts, EndsWithin, EntryHasRoom, IsKept, KeepsBook}
use Rattle.book.specs.Laws.{Laws}
use Rattle.book.specs.RunLaws.{between_of, no_run}
use Rattle.book.specs.Stories.{spellings}
use Rattle.book.proofs.Payloads.AcceptedEntries.{accepted_short, accepted_spells}
use Rattle.book.proofs.JournalEntries.{within_push}

sum_spellings : (H : History) → sum_by (λ (payload : List ℕ). length payload + 5) (spellings H) ≡ sum_by (λ (e : Entry). length (entry_bytes e.core) + 5) H
sum_spellings [] = refl
sum_spellings (e ∷ H) =
    sum_by-cons (λ (payload : List ℕ). length payload + 5) (entry_bytes e.core) (spellings H) ∙ ap (λ n. length (entry_bytes e.core) + 5 + n) (sum_spellings H)
    ∙ sym (sum_by-cons (λ (e : Entry). length (entry_bytes e.core) + 5) e H)

-- there is room for the record of what is added
pub room_for : Laws → (H : History) (e : Entry) → IsAccepted H e → IsLegal (H ++ e ∷ []) → EntryHasRoom H e
room_for laws H e accepted legal = record {
  accepted = accepted;
  spells = accepted_spells H e accepted;
  short = omega (arith, accepted_short H e accepted);
  room = omega (arith, laws.fit (H ++ e ∷ []) legal, sum_by_push (λ (e : Entry). length (entry_bytes e.core) + 5) H e, sum_spellings H);
}

module _ {D : Type 0} (seen : D → DiskState) where
  -- the parts of a book, as contracts see it
  abbrev pub seen_by : BookParts D → ℕ → BookView D
  seen_by parts opening = record { disk = parts.journal.disk; history = parts.history; pending = parts.pending; opening = opening }

  pub sound_of : (parts : BookParts D) (opening : ℕ) → IsKept seen parts opening → ImagesHold (seen parts.journal.disk).images parts.history parts.pending
      → IsSound seen (seen_by parts opening)
  sound_of parts opening kept stands =
      record { legal = kept.keeps.legal; stands = stands; accepted = kept.keeps.accepted; rose = kept.rose; opened = kept.opened }

  -- the journaling of an entry, by its exits
  pub accepts_memory : ((disk : D) → OnlyNow (seen disk)) → (journal : JournalState D) (H after : History) (pending : Option Entry) (e : Entry)
      → after ≡ H → KeepsBook seen journal H pending → ImagesHold (seen journal.disk).images H pending
      → Accepts seen (record { journal = journal; history = H; pending = pending }) e answered.Memory
      (record { journal = journal; history = after; pending = pending })
  accepts_memory only_now journal H after pending e same keeps stands = record {
    comes = (refl, same, refl);
    keeps = subst (λ (H : History). KeepsBook seen journal H pending) (sym same) keeps;
    within = λ so. subst (λ (H : History). EndsWithin journal.place H) (sym same) so;
    moments = started seen journal.disk (HoldsOneOf H pending (e ∷ [])) (λ image left. inl (stands image (only_now journal.disk image left)));
    later = omega arith;
  }

  pub accepts_reply : (old new : JournalState D) (H after : History) (pending left : Option Entry) (e : Entry) (r : Reply)
      → after ≡ H ++ e ∷ [] → left ≡ None → r ≡ e.reply → KeepsBook seen new (H ++ e ∷ []) None → new.place ≡ old.place + 5 + length (entry_bytes e.core)
      → EachMoment seen old.disk new.disk (HoldsOneOf H pending (e ∷ [])) → (seen old.disk).faults ≤ (seen new.disk).faults
      → Accepts seen (record { journal = old; history = H; pending = pending }) e (answered.Reply r) (record { journal = new; history = after; pending = left })
  accepts_reply old new H after pending left e r grown none reply keeps place moments later = record {
    comes = (reply, grown, none);
    keeps = subst (λ (H : History). KeepsBook seen new H left) (sym grown) (subst (λ (p : Option Entry). KeepsBook seen new (H ++ e ∷ []) p) (sym none) keeps);
    within = λ so. subst (λ (H : History). EndsWithin new.place H) (sym grown) (within_push old.place new.place H e place so);
    moments = moments;
    later = later;
  }

  pub accepts_fault : (old new : JournalState D) (H after : History) (pending left : Option Entry) (e : Entry)
      → after ≡ H → (left ≡ pending) ⊎ (left ≡ Some e) → KeepsBook seen new H left → new.place ≡ old.place → Rose (seen old.disk).faults (seen new.disk).faults
      → EachMoment seen old.disk new.disk (HoldsOneOf H pending (e ∷ [])) → (seen old.disk).faults ≤ (seen new.disk).faults
      → Accepts seen (record { journal = old; history = H; pending = pending }) e answered.DiskFault (record { journal = new; history = after; pending = left })
  accepts_fault old new H after pending left e same either keeps place rose moments later = record {
    comes = (same, either, rose);
    keeps = subst (λ (H : History). KeepsBook seen new H left) (sym same) keeps;
    within = λ so. subst (λ (H : History). EndsWithin new.place H) (sym same) (subst (λ (p : ℕ). EndsWithin p H) (sym place) so);
    moments = moments;
    later = later;
  }

  module _ (only_now : (disk : D) → OnlyNow (seen disk)) (old : BookView D) (sound : IsSound seen old) (asked : Addressed) where
    no_moment : EachMoment seen old.disk old.disk (HoldsOneOf old.history old.pending (added_by old.history asked))
    no_moment = started seen old.disk (HoldsOneOf old.history old.pending (added_by old.history asked))
        (λ image left. inl (sound.stands image (only_now old.disk image left)))

    -- a request that adds nothing
    pub quiet_acts : (r : Reply) → r ≡ reply_by old.history asked → added_by old.history asked ≡ [] → Acts seen old asked (answered.Reply r) old
    quiet_acts r reply none = record {
      before = sound;
      after = sound;
      told = record {
        legal = sound.legal;
        leads = (reply, sym (append-nil old.history) ∙ ap (λ more. old.history ++ more) (sym none));
        later = omega arith;
        opening = refl;
      };
      leaves = subst (λ (added : History). Settles seen old added old) (sym none) refl;
      moments = no_moment;
      runs = no_run seen only_now old sound;
    }

    -- want of memory
    pub memory_acts : Acts seen old asked answered.Memory old
    memory_acts = record {
      before = sound;
      after = sound;
      told = record { legal = sound.legal; leads = refl; later = omega arith; opening = refl };
      leaves = refl;
      moments = no_moment;
      runs = no_run seen only_now old sound;
    }

  -- a request that adds an entry, once that was journaled or not
  module _ (only_now : (disk : D) → OnlyNow (seen disk))
      (old new : BookParts D) (opening : ℕ) (kept : IsKept seen old opening) (asked : Addressed) (e : Entry)
      (added : added_by old.history asked ≡ e ∷ []) (is : IsAdded old.history asked.who asked.number asked.ask asked.moment e) where
    next_accepted : (x : Entry) → added_by old.history asked ≡ x ∷ [] → IsAccepted old.history x
    next_accepted x is_x =
        let same : e ≡ x = cc (added, is_x) in
        subst (IsAccepted old.history) same is.accepted

    none_pending : {P : Type 0} (pending : Option Entry) → pending ≡ None → IsTrue (is_some pending) → P
    none_pending None is_none some = absurd (cc some)
    none_pending (Some x) is_none some = absurd (cc is_none)

    -- what a book keeps true
    pub kept_after : (answer : Answer) → Accepts seen old e answer new → IsKept seen new opening
    kept_after (answered.Reply r) w = record {
      keeps = w.keeps;
      within = w.within kept.within;
      rose = none_pending new.pending w.comes.2;
      opened = omega (arith, kept.opened, w.later);
    }
    kept_after answered.DiskFault w = record {
      keeps = w.keeps;
      within = w.within kept.within;
      rose = λ some. omega (arith, kept.opened, w.comes.2);
      opened = omega (arith, kept.opened, w.later);
    }
    kept_after answered.Memory w = record {
      keeps = w.keeps;
      within = w.within kept.within;
      rose = λ some. omega (arith, kept.rose (subst (λ (p : Option Entry). IsTrue (is_some p)) w.comes.2 some), w.later);
      opened = omega (arith, kept.opened, w.later);
    }

    seen_same : new.journal ≡ old.journal → new.history ≡ old.history → new.pending ≡ old.pending → seen_by new opening ≡ seen_by old opening
    seen_same journal history pending = rw (journal, history, pending) refl

    leads : (answer : Answer) → Accepts seen old e answer new → Leads (story_of seen (seen_by old opening)) asked answer (story_of seen (seen_by new opening))
    leads (answered.Reply r) w = (w.comes.0 ∙ sym is.reply, w.comes.1 ∙ ap (λ more. old.history ++ more) (sym added))
    leads answered.DiskFault w = ((λ none. let wrong : e ∷ [] ≡ [] = sym added ∙ none in cc), w.comes.0, w.comes.2)
    leads answered.Memory w = w.comes.1

    leaves : (answer : Answer) → Accepts seen old e answer new → LeavesPending seen (seen_by old opening) asked answer (seen_by new opening)
    leaves (answered.Reply r) w = subst (λ (more : History). Settles seen (seen_by old opening) more (seen_by new opening)) (sym added) w.comes.2
    leaves answered.DiskFault w = (e, added, w.comes.1)
    leaves answered.Memory w = seen_same w.comes.0 w.comes.1 w.comes.2

    grown : (answer : Answer) → Accepts seen old e answer new → StartsWith new.history old.history
    grown (answered.Reply r) w = (e ∷ [], w.comes.1)
    grown answered.DiskFault w = ([], w.comes.0 ∙ sym (append-nil old.history))
    grown answered.Memory w = ([], w.comes.1 ∙ sym (append-nil old.history))

    pub ready_acts : (answer : Answer) → Accepts seen old e answer new
        → ImagesHold (seen old.journal.disk).images old.history old.pending → ImagesHold (seen new.journal.disk).images new.history new.pending
        → Acts seen (seen_by old opening) asked answer (seen_by new opening)
    ready_acts answer w stands stands_after =
        let moments : EachMoment seen old.journal.disk new.journal.disk (HoldsOneOf old.history old.pending (added_by old.history asked))
        = subst (λ (more : History). EachMoment seen old.journal.disk new.journal.disk (HoldsOneOf old.history old.pending more)) (sym added) w.moments in
        record {
          before = sound_of old opening kept stands;
          after = sound_of new opening (kept_after answer w) stands_after;
          told = record { legal = kept.keeps.legal; leads = leads answer w; later = w.later; opening = refl };
          leaves = leaves answer w;
          moments = moments;
          runs = record {
            grown = grown answer w;
            moments = weaker seen old.journal.disk new.journal.disk (HoldsOneOf old.history old.pending (added_by old.history asked))
                (IsBetween old.history new.history)
                (λ image. between_of old.history new.history old.pending (added_by old.history asked) image (grown answer w) kept.keeps.accepted next_accepted)
                moments;
            later = w.later;
            opening = refl;
          };
        }

  -- what contracts see of a book that is opened, and of one whose state alone changed
  pub acts_before : (old : BookView D) (parts : BookParts D) (opening : ℕ) (asked : Addressed) (answer : Answer) (new : BookView D)
      → seen_by parts opening ≡ old
      → Acts seen (seen_by parts opening) asked answer new → Acts seen old asked answer new
  acts_before old parts opening asked answer new is acts = subst (λ (old : BookView D). Acts seen old asked answer new) is acts

  pub acts_still : (old : BookView D) (parts : BookParts D) (opening : ℕ) (asked : Addressed) (answer : Answer) (after : History)
      → seen_by parts opening ≡ old → after ≡ parts.history
      → Acts seen (seen_by parts opening) asked answer (seen_by parts opening)
      → Acts seen old asked answer (record { disk = parts.journal.disk; history = after; pending = parts.pending; opening = opening })
  acts_still old parts opening asked answer after is same acts =
      acts_before old parts opening asked answer (record { disk = parts.journal.disk; history = after; pending = parts.pending; opening = opening }) is
      (subst (λ (H : History). Acts seen (seen_by parts opening) asked answer
      (record { disk = parts.journal.disk; history = H; pending = parts.pending; opening = opening })) (sym same) acts)
