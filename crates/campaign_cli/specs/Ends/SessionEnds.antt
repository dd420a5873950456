-- How `session` ends.
use Rattle.std.specs.Prelude.{◌≡◌, List, None, true}
use Rattle.decimal_rank.specs.Causes.{Rose}
use Rattle.disk_model.specs.Disks.{DiskState}
use Rattle.book.specs.Books.{BookView, IsSound, Runs}
use Rattle.book.specs.Images.{ImagesHold}
use Rattle.book.specs.Opening.Openings.{Opened}
use Rattle.campaign_server.specs.declared.ends.End.{End}
use Rattle.campaign_server.specs.declared.ends.End.TheVariants as end
use Rattle.campaign_server.specs.Connections.{ConnectionEnds}
use Rattle.campaign_server.specs.Links.{LinkState}
use Rattle.campaign_server.specs.Sessions.{IsSession}
use Rattle.routes.specs.declared.keys.KeyRow.{KeyRow}
use Rattle.campaign_settings.specs.declared.settings.Settings.{Settings}
use Rattle.campaign_cli.specs.declared.endings.Cause.{Cause}
use Rattle.campaign_cli.specs.declared.endings.Cause.TheVariants as cause
use Rattle.campaign_cli.specs.Ends.BookEnds.{BookEnds, book_kind}
use Rattle.campaign_cli.specs.Causes.{Ending, silent}
use Rattle.campaign_cli.specs.Kinds.{Kind, a_book}
use Rattle.campaign_cli.specs.Surroundings.Shelves.{ShelfState}

-- the cause by an end
abbrev pub cause_of : End → Cause
cause_of end.Ended = cause.Done
cause_of end.Cut = cause.Cut
cause_of (end.Refused fault) = cause.Cut
cause_of end.ReadFault = cause.Link
cause_of end.WriteFault = cause.Output
cause_of end.Memory = cause.Memory
cause_of end.Worn = cause.Cut

-- what a campaign on a disk comes to where it answers a link: the end, the campaign then, and its disk
pub record AnswersLink {D : Type 0} (seen : D → DiskState) (callers : List KeyRow)
    (opened : BookView D) (old new : LinkState) (disk : D) (told : Cause) : Type 0 where
  pub how : End
  pub closed : BookView D
  pub talk : ConnectionEnds (IsSession seen callers opened old.clock closed new.clock) old new how
  pub runs : Runs seen opened closed
  pub sound : IsSound seen closed
  pub closes : disk ≡ closed.disk
  pub told_is : told ≡ cause_of how

module _ {D : Type 0} (seen : D → DiskState) where
  -- The requests of a link were answered by the campaign of these settings, and nothing is printed. The link and the
  -- disk were as the first, and are as the second.
  pub record HoldsSession (old new : LinkState) (disk after : D) (settings : Settings) : Type 0 where
    pub how : End
    -- a campaign, as it was opened and as it was closed
    pub opened : BookView D
    pub closed : BookView D
    -- it began with the entries that the disk told, or with the founding one
    pub opens : Opened seen settings.rules disk opened
    -- each answer is what the rules give after the entries so far, and an accepted command is added to them
    pub talk : ConnectionEnds (IsSession seen settings.callers opened old.clock closed new.clock) old new how
    -- the entries only grow; a crash at any moment leaves a part of them from their start, with each one from before,
    -- or it and one entry that the rules accept next
    pub runs : Runs seen opened closed
    -- at the end the disk stands for the entries, with the pending one or without it
    pub sound : IsSound seen closed
    pub closes : after ≡ closed.disk

  abbrev pub session_cause : {old new : LinkState} → {disk after : D} → (settings : Settings) → HoldsSession old new disk after settings → Ending
  session_cause settings session = silent (cause_of session.how)

  abbrev pub SessionEnds : LinkState → LinkState → ShelfState → ShelfState → D → D → Ending → Type 0
  SessionEnds own later_own shelf later disk after =
      BookEnds seen (HoldsSession own later_own disk after) (later_own ≡ own) session_cause shelf later disk after

  -- Where no call on the disk failed, each of its images holds the entries at the end, and no other.
  abbrev pub SessionsStand : Type 0
  SessionsStand = (settings : Settings) (old new : LinkState) (disk after : D) (session : HoldsSession old new disk after settings)
      → ¬ (Rose (seen disk).faults (seen after).faults) → ImagesHold (seen after).images session.closed.history None

  abbrev pub session_kind : Kind D
  session_kind = book_kind seen (record a_book { own = true }) (λ old new. HoldsSession old.own new.own old.disk new.disk)
      (λ old new. new.own ≡ old.own) (λ old new. session_cause)
