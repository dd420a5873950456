-- What the archive holds at the end of `archive`.
use Rattle.std.proofs.Common.{◌≡◌, ◌≢◌, ◌⊎◌, inl, inr, ℕ, Bool, true, false, List, [], ◌∷◌, ◌++◌, Option, Some, None, refl, sym, ap, subst, ◌∙◌}
use Rattle.std.specs.Prelude.{IfSome, Result, Ok, Err, bytes_eq}
use Rattle.std.proofs.lemmas.Slice.Eq.{bytes_eq-Decides}
use Rattle.disk_model.specs.Disks.{DiskState}
use Rattle.book.specs.declared.faults.BookFault.{BookFault}
use Rattle.book.specs.declared.faults.BookFault.TheVariants as fault
use Rattle.release_archive.specs.declared.ends.ArchiveEnd.{ArchiveEnd}
use Rattle.release_archive.specs.declared.ends.ArchiveEnd.TheVariants as archive_end
use Rattle.release_archive.specs.declared.ends.Archived.{Archived}
use Rattle.release_archive.specs.declared.ends.Archived.TheVariants.{New, Same}
use Rattle.release_archive.specs.declared.kept.Kept.{Kept}
use Rattle.release_archive.specs.ArchivedReleases.{Archives, IsReleaseAdded}
use Rattle.release_archive.specs.Keepers.{KeeperState}
use Rattle.release_archive.specs.Releases.{release_named}
use Rattle.rulebook.specs.declared.rules.Phase.TheVariants as phase_name
use Rattle.rulebook.specs.Campaign.{History, phase}
use Rattle.campaign_cli.specs.declared.endings.Cause.{Cause}
use Rattle.campaign_cli.specs.declared.endings.Cause.TheVariants as cause
use Rattle.campaign_cli.specs.Ends.ArchiveEnds.{ArchiveWork, ArchivesAddOne, Archiving, ShowsCampaign, archive_cause, cause_of, cause_of_answer, not_published, release_of_history, released, short}
use Rattle.campaign_cli.specs.Ends.BookEnds.{BookWay, Unopened, cause_by_work, cause_of_fault, cause_of_none, missed, not_opened, not_told, refused, short as no_memory, unopened, unset, worked}
use Rattle.campaign_cli.specs.Causes.{Ending, status_number}
use Rattle.campaign_cli.specs.Kinds.{ended, unread}
use Rattle.campaign_cli.specs.Surroundings.Outside.{Outside}
use Rattle.campaign_cli.proofs.ToldCauses.{cause_is}

-- a release that was added is found
found_last : (name : List ℕ) (kept : Kept) (releases : List Kept) → release_named releases name ≡ None → bytes_eq name kept.name ≡ true
    → release_named (releases ++ kept ∷ []) name ≡ Some kept
found_last name kept [] none is = rw is refl
found_last name kept (first ∷ others) none is = by (bytes_eq name first.name) refl (λ absent. found_last name kept others absent is)
  where
    by : (t : Bool) → bytes_eq name first.name ≡ t
        → (release_named others name ≡ None → release_named (others ++ kept ∷ []) name ≡ Some kept)
        → release_named (first ∷ (others ++ kept ∷ [])) name ≡ Some kept
    by true e later =
        let there : Some first ≡ None = rw e at none in
        cc there
    by false e later = rw e (later (rw e at none))

found_added : (name : List ℕ) (kept : Kept) (old new : Option (List Kept)) → kept.name ≡ name → IsReleaseAdded old kept new
    → IfSome new (λ releases. release_named releases name ≡ Some kept)
found_added name kept None new is added =
    subst (λ (held : Option (List Kept)). IfSome held (λ releases. release_named releases name ≡ Some kept)) (sym added.1) tt
found_added name kept (Some releases) new is added =
    let last = found_last name kept releases (subst (λ n. release_named releases n ≡ None) is added.0) ((bytes_eq-Decides name kept.name).1 (sym is)) in
    subst (λ (held : Option (List Kept)). IfSome held (λ releases. release_named releases name ≡ Some kept)) (sym added.1) last

-- one that was there is found where nothing was added
found_there : (name : List ℕ) (kept : Kept) (old new : Option (List Kept)) → new ≡ old → IfSome old (λ releases. release_named releases kept.name ≡ Some kept)
    → kept.name ≡ name → IfSome new (λ releases. release_named releases name ≡ Some kept)
found_there name kept old new same there is =
    subst (λ (held : Option (List Kept)). IfSome held (λ releases. release_named releases name ≡ Some kept)) (sym same)
    (subst (λ n. IfSome old (λ releases. release_named releases n ≡ Some kept)) is there)

-- a fault isn't told as work that is done
fault_not_done : (why : BookFault) → (cause_of_fault why).cause ≡ cause.Done → ⊥
fault_not_done fault.Disk e = cc e
fault_not_done fault.Header e = cc e
fault_not_done (fault.Damaged entry) e = cc e
fault_not_done fault.RulesDiffer e = cc e
fault_not_done fault.Memory e = cc e

module _ {D : Type 0} (seen : D → DiskState) (name : List ℕ) (old new : Outside D) where
  abbrev Way : Type 0
  Way = BookWay seen (ArchiveWork seen name old.keeper new.keeper old.disk new.disk) (new.keeper ≡ old.keeper) old.shelf new.shelf old.disk new.disk

  abbrev told_by : Way → Ending
  told_by way = cause_by_work seen (archive_cause seen name) way

  none_not_done : (none : Unopened seen old.shelf new.shelf old.disk new.disk) → (cause_of_none seen none).cause ≡ cause.Done → ⊥
  none_not_done (unset (refused gives) same) e = cc e
  none_not_done (unset (missed miss) same) e = cc e
  none_not_done (unset no_memory same) e = cc e
  none_not_done (not_opened why given_up) e = fault_not_done why e
  none_not_done (not_told entry given_up) e = cc e

  -- the archive is as it was, or one release was added
  abbrev Adds : Type 0
  Adds = ShowsCampaign seen name old new (λ H. (phase H ≡ phase_name.Published) × IsReleaseAdded old.keeper.held (release_of_history name H) new.keeper.held)

  same_list : new.keeper ≡ old.keeper → new.keeper.held ≡ old.keeper.held
  same_list same = ap (λ (k : KeeperState). k.held) same

  -- and so it is that only where that is told, or a call failed
  what_came : (way : Way) → (new.keeper.held ≡ old.keeper.held) ⊎ (Adds × (((told_by way).cause ≡ cause.Done) ⊎ ((told_by way).cause ≡ cause.Keeper)))
  what_came (unopened none same) = inl (same_list same)
  what_came (worked (text, settings, gives, is, w)) = by w.comes
    where
      added : phase w.book.history ≡ phase_name.Published → IsReleaseAdded old.keeper.held (release_of_history name w.book.history) new.keeper.held → Adds
      added published one = (text, settings, gives, is, (w.book, w.shows, (published, one)))

      put : phase w.book.history ≡ phase_name.Published → (answer : Result Archived ArchiveEnd)
          → Archives old.keeper (release_of_history name w.book.history) answer new.keeper
          → (new.keeper.held ≡ old.keeper.held)
          ⊎ (Adds × (((cause_of_answer name answer).cause ≡ cause.Done) ⊎ ((cause_of_answer name answer).cause ≡ cause.Keeper)))
      put published (Ok New) archives = inr (added published archives.held, inl refl)
      put published (Ok Same) archives = inl archives.held
      put published (Err archive_end.Differs) archives = inl archives.held
      put published (Err archive_end.Failed) archives = elim archives.held [ inl kept ↦ inl kept | inr one ↦ inr (added published one, inr refl) ]
      put published (Err archive_end.Memory) archives = inl archives.held

      by : (comes : Archiving name w.book.history old.keeper new.keeper)
          → (new.keeper.held ≡ old.keeper.held) ⊎ (Adds × (((cause_of name comes).cause ≡ cause.Done) ⊎ ((cause_of name comes).cause ≡ cause.Keeper)))
      by (released published answer archives) = put published answer archives
      by (short same) = inl (same_list same)
      by (not_published other same) = inl (same_list same)

  -- where the work is done the release is there
  is_there : (way : Way) → (told_by way).cause ≡ cause.Done
      → ShowsCampaign seen name old new (λ H. IfSome new.keeper.held (λ releases. release_named releases name ≡ Some (release_of_history name H)))
  is_there (unopened none same) e = absurd (none_not_done none e)
  is_there (worked (text, settings, gives, is, w)) e = (text, settings, gives, is, (w.book, w.shows, by w.comes e))
    where
      There : Type 0
      There = IfSome new.keeper.held (λ releases. release_named releases name ≡ Some (release_of_history name w.book.history))

      put : (answer : Result Archived ArchiveEnd) → Archives old.keeper (release_of_history name w.book.history) answer new.keeper
          → (cause_of_answer name answer).cause ≡ cause.Done → There
      put (Ok New) archives e = found_added name (release_of_history name w.book.history) old.keeper.held new.keeper.held refl archives.held
      put (Ok Same) archives e = found_there name (release_of_history name w.book.history) old.keeper.held new.keeper.held archives.held archives.found refl
      put (Err archive_end.Differs) archives e = cc e
      put (Err archive_end.Failed) archives e = cc e
      put (Err archive_end.Memory) archives e = cc e

      by : (comes : Archiving name w.book.history old.keeper new.keeper) → (cause_of name comes).cause ≡ cause.Done → There
      by (released published answer archives) e = put answer archives e
      by (short same) e = cc e
      by (not_published other same) e = cc e

pub archives_one : {D : Type 0} (seen : D → DiskState) → ArchivesAddOne seen
archives_one seen name old new status (unread same e) =
    let kept = ap (λ (o : Outside _). o.keeper.held) same in
    record { held = inl kept; done = λ zero. cc (zero, e); short = λ is. kept; differs = λ is. kept }
archives_one seen name old new status (ended ending done tells) = record {
  held = elim (what_came seen name old new done.way) [ inl same ↦ inl same | inr adds ↦ inr adds.0 ];
  done = λ zero. is_there seen name old new done.way (is_cause cause.Done zero (λ e. cc e));
  short = λ e. as_it_was cause.Memory (is_cause cause.Memory e (λ e. cc e)) (λ e. cc e) (λ e. cc e);
  differs = λ e. as_it_was cause.Differs (is_cause cause.Differs e (λ e. cc e)) (λ e. cc e) (λ e. cc e);
}
  where
    is_cause : (found : Cause) → status ≡ status_number found → status_number found ≢ 8 → (told_by seen name old new done.way).cause ≡ found
    is_cause found e other = ap (λ (t : Ending). t.cause) (sym done.told) ∙ cause_is ending old.out new.out status found tells e other

    as_it_was : (found : Cause) → (told_by seen name old new done.way).cause ≡ found → found ≢ cause.Done
        → found ≢ cause.Keeper → new.keeper.held ≡ old.keeper.held
    as_it_was found is done_not keeper_not =
        elim (what_came seen name old new done.way)
        [ inl same ↦ same | inr adds ↦ absurd (elim adds.1 [ inl e ↦ done_not (sym is ∙ e) | inr e ↦ keeper_not (sym is ∙ e) ]) ]
