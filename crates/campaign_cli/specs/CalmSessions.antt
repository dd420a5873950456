-- What a session comes to in which no call on the outside failed.
use Rattle.std.specs.Prelude.{◌≡◌, ◌≢◌, ◌⊎◌, ℕ, List, [], ◌∷◌, Some}
use Rattle.disk_model.specs.Disks.{DiskState}
use Rattle.book.specs.Books.{BookView}
use Rattle.book.specs.Opening.Openings.{Opened}
use Rattle.routes.specs.declared.answers.Answered.TheVariants as answered
use Rattle.campaign_server.specs.declared.ends.End.{End}
use Rattle.campaign_server.specs.declared.ends.End.TheVariants as end
use Rattle.campaign_server.specs.Conversations.Chains.{Said}
use Rattle.campaign_server.specs.Connections.{ConnectionEnds}
use Rattle.campaign_server.specs.Sessions.{IsSession}
use Rattle.campaign_settings.specs.declared.settings.Settings.{Settings}
use Rattle.campaign_settings.specs.Settings.{settings_of}
use Rattle.campaign_cli.specs.Ends.BookEnds.{CanOpen, settings_file}
use Rattle.campaign_cli.specs.Causes.{status_number}
use Rattle.campaign_cli.specs.Kinds.{Finishes}
use Rattle.campaign_cli.specs.Surroundings.Outside.{Outside}
use Rattle.campaign_cli.specs.Ends.SessionEnds.{cause_of, session_kind}
use Rattle.campaign_cli.specs.Surroundings.Shelves.{GivesFile}
use Rattle.campaign_cli.specs.Statuses.{IsCalm}

-- no answer tells a fault of the disk
abbrev pub HasNoDiskFault : List Said → Type 0
HasNoDiskFault [] = Unit {0}
HasNoDiskFault (x ∷ said) = (x.answer ≢ answered.DiskFault) × HasNoDiskFault said

-- the end isn't that of a failed call
abbrev pub IsCalmEnd : End → Type 0
IsCalmEnd end.Ended = Unit {0}
IsCalmEnd end.Cut = Unit {0}
IsCalmEnd (end.Refused cause) = Unit {0}
IsCalmEnd end.ReadFault = ⊥
IsCalmEnd end.WriteFault = ⊥
IsCalmEnd end.Memory = Unit {0}
IsCalmEnd end.Worn = Unit {0}

module _ {D : Type 0} (seen : D → DiskState) where
  -- The campaign of the settings was opened, and each whole request up to the end was answered by the rules, by its own
  -- fault or by want of memory: by no fault of the disk.
  pub record IsCalmlyAnswered (old new : Outside D) (status : ℕ) : Type 0 where
    pub text : List ℕ
    pub settings : Settings
    pub given : GivesFile old.shelf settings_file text
    pub read : settings_of text ≡ Some settings
    pub opened : BookView D
    pub closed : BookView D
    pub opens : Opened seen settings.rules old.disk opened
    pub how : End
    pub calm : IsCalmEnd how
    pub status_is : status ≡ status_number (cause_of how)
    pub talk : ConnectionEnds (λ said. IsSession seen settings.callers opened old.own.clock closed new.own.clock said × HasNoDiskFault said) old.own new.own how

  -- With its files and its disk told and within their grammars, and no count risen, the requests of a session are
  -- answered, or memory was short before the first one was read.
  abbrev pub CalmSessionsAreAnswered : Type 0
  CalmSessionsAreAnswered = (old new : Outside D) (status : ℕ) → Finishes (session_kind seen) old new status
      → CanOpen seen old → IsCalm seen old new
      → ((status ≡ 7) × (new.own ≡ old.own)) ⊎ IsCalmlyAnswered old new status
