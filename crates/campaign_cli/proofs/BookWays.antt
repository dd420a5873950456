-- The commands that keep a campaign: what is shown of them all, and how one ends whose campaign was opened.
use Rattle.std.proofs.Common.{◌≡◌, ◌⊎◌, inl, inr, ℕ, List, Option, None, Some, refl, sym, ap, subst, ◌∙◌}
use Rattle.std.specs.Prelude.{IfErr, IfOk, Result, Ok, Err}
use Rattle.disk_model.specs.Disks.{DiskState}
use Rattle.book.specs.declared.faults.BookFault.{BookFault}
use Rattle.book.specs.declared.faults.BookFault.TheVariants as fault
use Rattle.book.specs.Books.{BookView}
use Rattle.book.specs.Opening.Openings.{Opened, Refused}
use Rattle.routes.specs.declared.keys.KeyRow.{KeyRow}
use Rattle.campaign_settings.specs.declared.settings.Settings.{Settings}
use Rattle.campaign_cli.specs.declared.endings.Cause.{Cause}
use Rattle.campaign_cli.specs.declared.endings.Cause.TheVariants as cause
use Rattle.campaign_cli.specs.declared.endings.Outcome.{Outcome}
use Rattle.campaign_cli.specs.Ends.BookEnds.{BookEnds, BookWay, CanOpen, GivesSettings, IsGiven, IsOpened, IsToldOf, Unopened, book_kind, cause_by_work, cause_of_none, missed, not_opened, not_told, refused, short, unopened, unset, worked}
use Rattle.campaign_cli.specs.Causes.{Ending, IsWay, ending_of, says, silent}
use Rattle.campaign_cli.specs.Kinds.{Needs}
use Rattle.campaign_cli.specs.Surroundings.Outside.{Outside}
use Rattle.campaign_cli.specs.Requests.{Request}
use Rattle.campaign_cli.specs.Surroundings.Shelves.{KeepsFiles, ShelfState}
use Rattle.campaign_cli.specs.Statuses.{IsCalm}
use Rattle.campaign_cli.proofs.ToldCauses.{Shown, Shows}
use Rattle.campaign_cli.proofs.ToldDisks.{OpensStory, damage_told, none_opened, others_told, settings_told}
use Rattle.campaign_cli.proofs.ToldFiles.{missed_rose}

module _ {D : Type 0} (seen : D → DiskState) where
  module _ (request : Request) (old new : Outside D) where
    -- what is shown of there being no campaign
    none_shown : (none : Unopened seen old.shelf new.shelf old.disk new.disk) → Shown seen request (CanOpen seen) old new (cause_of_none seen none)
    none_shown none = by none (λ can calm. ap (λ (e : Ending). e.cause) (none_opened seen old new calm can none))
      where
        Opens : Cause → Type 0
        Opens found = CanOpen seen old → IsCalm seen old new → found ≡ cause.Memory

        by : (none : Unopened seen old.shelf new.shelf old.disk new.disk) → Opens (cause_of_none seen none).cause
            → Shown seen request (CanOpen seen) old new (cause_of_none seen none)
        by (unset (refused gives) same) opens = (refl, λ can calm. cc (opens can calm))
        by (unset (missed miss) same) opens = ((refl, missed_rose old.shelf new.shelf _ miss, same), λ can calm. cc (opens can calm))
        by (unset short same) opens = (refl, tt)
        by (not_opened fault.Disk given_up) opens = ((refl, given_up.4.causes), tt)
        by (not_opened fault.Header given_up) opens = (inl refl, λ can calm. cc (opens can calm))
        by (not_opened (fault.Damaged entry) given_up) opens = (inr (entry, refl), λ can calm. cc (opens can calm))
        by (not_opened fault.RulesDiffer given_up) opens = (refl, λ can calm. cc (opens can calm))
        by (not_opened fault.Memory given_up) opens = (refl, tt)
        by (not_told entry given_up) opens = (refl, tt)

    -- what is shown of a command by what is shown of its work
    pub shows_book : (needs : Needs) (Work : Outside D → Outside D → Settings → Type 0) (Still : Outside D → Outside D → Type 0)
        (cause_of : (old new : Outside D) → (settings : Settings) → Work old new settings → Ending)
        → ((settings : Settings) → Work old new settings → OpensStory seen settings.rules old.disk)
        → ((settings : Settings) (work : Work old new settings) → Shown seen request (CanOpen seen) old new (cause_of old new settings work))
        → Shows seen request (book_kind seen needs Work Still cause_of) old new
    shows_book needs Work Still cause_of opens works = record {
      ways = λ leaves way. by way;
      refused = λ calm has. settings_told seen old new calm (Work old new) (Still old new) (cause_of old new) opens has;
      damaged = λ calm book told. damage_told seen old new calm (Work old new) (Still old new) (cause_of old new) opens told;
      differs = λ calm book told. others_told seen old new calm (Work old new) (Still old new) (cause_of old new) opens told;
    }
      where
        by : (way : BookWay seen (Work old new) (Still old new) old.shelf new.shelf old.disk new.disk)
            → Shown seen request (CanOpen seen) old new (cause_by_work seen (cause_of old new) way)
        by (worked w) = works w.1 w.4
        by (unopened none kept) = none_shown none
