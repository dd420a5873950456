-- How `serve` ends.
use Rattle.std.specs.Prelude.{◌≡◌, List, None, true}
use Rattle.decimal_rank.specs.Causes.{Rose}
use Rattle.disk_model.specs.Disks.{DiskState}
use Rattle.book.specs.Books.{BookView, IsSound}
use Rattle.book.specs.Images.{ImagesHold}
use Rattle.book.specs.Opening.Openings.{Opened}
use Rattle.campaign_server.specs.declared.ends.ServeEnd.{ServeEnd}
use Rattle.campaign_server.specs.declared.ends.ServeEnd.TheVariants as serve_end
use Rattle.campaign_server.specs.declared.numbers.ServerNumbers.{ServerNumbers}
use Rattle.campaign_server.specs.Doors.{DoorState}
use Rattle.campaign_server.specs.Servers.{ServesBook}
use Rattle.routes.specs.declared.keys.KeyRow.{KeyRow}
use Rattle.campaign_settings.specs.declared.settings.Settings.{Settings}
use Rattle.campaign_cli.specs.declared.endings.Cause.{Cause}
use Rattle.campaign_cli.specs.declared.endings.Cause.TheVariants as cause
use Rattle.campaign_cli.specs.Ends.BookEnds.{BookEnds, book_kind}
use Rattle.campaign_cli.specs.Causes.{Ending, silent}
use Rattle.campaign_cli.specs.Kinds.{Kind, a_book}
use Rattle.campaign_cli.specs.Surroundings.Shelves.{ShelfState}

-- the cause by an end
abbrev pub cause_of : ServeEnd → Cause
cause_of serve_end.Ended = cause.Done
cause_of serve_end.DoorFault = cause.Door
cause_of serve_end.Memory = cause.Memory

-- What a campaign on a disk comes to where its server takes the links of a door: the end, the campaign then, and its disk.
pub record ServesDoor {D : Type 0} (seen : D → DiskState) (callers : List KeyRow)
    (numbers : ServerNumbers) (opened : BookView D) (old new : DoorState) (disk : D) (told : Cause) : Type 0 where
  pub how : ServeEnd
  pub closed : BookView D
  pub serves : ServesBook seen callers numbers opened closed old new how
  pub sound : IsSound seen closed
  pub closes : disk ≡ closed.disk
  pub told_is : told ≡ cause_of how

module _ {D : Type 0} (seen : D → DiskState) where
  -- The requests of the links of a door were answered by the campaign of these settings, and nothing is printed. The
  -- door and the disk were as the first, and are as the second.
  pub record Served (numbers : ServerNumbers) (old new : DoorState) (disk after : D) (settings : Settings) : Type 0 where
    pub how : ServeEnd
    -- a campaign, as it was opened and as it was closed
    pub opened : BookView D
    pub closed : BookView D
    -- it began with the entries that the disk told, or with the founding one
    pub opens : Opened seen settings.rules disk opened
    -- The entries only grow, and each link that was taken has its record: what was written is the answers of the rules after the entries so far,
    -- which begin with all that was seen on it. A fault of the door is counted.
    pub serves : ServesBook seen settings.callers numbers opened closed old new how
    -- at the end the disk stands for the entries, with the pending one or without it
    pub sound : IsSound seen closed
    pub closes : after ≡ closed.disk

  module _ (numbers : ServerNumbers) where
    abbrev pub serve_cause : {old new : DoorState} → {disk after : D} → (settings : Settings) → Served numbers old new disk after settings → Ending
    serve_cause settings server = silent (cause_of server.how)

    abbrev pub ServeEnds : DoorState → DoorState → ShelfState → ShelfState → D → D → Ending → Type 0
    ServeEnds door later_door shelf later disk after =
        BookEnds seen (Served numbers door later_door disk after) (later_door ≡ door) serve_cause shelf later disk after

    abbrev pub serve_kind : Kind D
    serve_kind = book_kind seen (record a_book { door = true }) (λ old new. Served numbers old.door new.door old.disk new.disk)
        (λ old new. new.door ≡ old.door) (λ old new. serve_cause)

  -- Where no call on the disk failed, each of its images holds the entries at the end, and no other.
  abbrev pub ServersStand : Type 0
  ServersStand = (settings : Settings) (numbers : ServerNumbers) (old new : DoorState) (disk after : D) (server : Served numbers old new disk after settings)
      → ¬ (Rose (seen disk).faults (seen after).faults) → ImagesHold (seen after).images server.closed.history None
