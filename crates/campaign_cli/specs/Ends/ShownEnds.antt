-- How a command ends that opens the campaign of the settings and prints a text of it: `check`, `reuse` and `agreement`.
use Rattle.std.specs.Prelude.{◌≡◌, ℕ, List}
use Rattle.disk_model.specs.Disks.{DiskState}
use Rattle.book.specs.Books.{BookView}
use Rattle.book.specs.Opening.Openings.{Opened}
use Rattle.rulebook.specs.Campaign.{History}
use Rattle.campaign_settings.specs.declared.settings.Settings.{Settings}
use Rattle.campaign_cli.specs.declared.endings.Cause.TheVariants.{Done, Memory}
use Rattle.campaign_cli.specs.Ends.BookEnds.{BookEnds, book_kind}
use Rattle.campaign_cli.specs.Causes.{Ending, says, silent}
use Rattle.campaign_cli.specs.Kinds.{Kind, a_book}
use Rattle.campaign_cli.specs.Surroundings.Shelves.{ShelfState}

module _ {D : Type 0} (seen : D → DiskState) where
  -- The campaign of these settings was opened from the disk, and no further call was made on it.
  pub record Shows (disk after : D) (settings : Settings) (book : BookView D) : Type 0 where
    pub opens : Opened seen settings.rules disk book
    pub closes : after ≡ book.disk

  module _ (text_of : History → List ℕ) where
    -- the text of the campaign is printed, or there was no memory for it
    pub data ShownWork (disk after : D) (settings : Settings) : Type 0 where
      shown : (book : BookView D) → Shows disk after settings book → ShownWork disk after settings
      short : (book : BookView D) → Shows disk after settings book → ShownWork disk after settings

    abbrev pub cause_of : {disk after : D} → (settings : Settings) → ShownWork disk after settings → Ending
    cause_of settings (shown book shows) = says Done (text_of book.history)
    cause_of settings (short book shows) = silent Memory

    abbrev pub ShownEnds : ShelfState → ShelfState → D → D → Ending → Type 0
    ShownEnds shelf later disk after = BookEnds seen (ShownWork disk after) (Unit {0}) cause_of shelf later disk after

    abbrev pub shown_kind : Kind D
    shown_kind = book_kind seen a_book (λ old new. ShownWork old.disk new.disk) (λ old new. Unit {0}) (λ old new. cause_of)
