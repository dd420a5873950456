-- How the program ends, by what its words ask for.
use Rattle.std.specs.Prelude.{ℕ}
use Rattle.disk_model.specs.Disks.{DiskState}
use Rattle.campaign_cli.specs.declared.endings.Cause.TheVariants.{Usage}
use Rattle.campaign_cli.specs.Ends.ArchiveEnds.{archive_kind}
use Rattle.campaign_cli.specs.Causes.{says}
use Rattle.campaign_cli.specs.Ends.CompactEnds.{compact_kind}
use Rattle.campaign_cli.specs.Ends.DrillEnds.{drill_kind}
use Rattle.campaign_cli.specs.Ends.EvalEnds.{eval_kind}
use Rattle.campaign_cli.specs.Kinds.{Finishes, Kind, needs_nothing}
use Rattle.campaign_cli.specs.Surroundings.Outside.{Outside}
use Rattle.campaign_cli.specs.Ends.ReportEnds.{compare_kind, export_text, history_text, listing_kind}
use Rattle.campaign_cli.specs.Requests.{Request, Eval, Session, Serve, Drill, Show, Compact, Archive, RunHistory, Compare, Export, Nothing, usage_line}
use Rattle.campaign_cli.specs.Ends.ServeEnds.{serve_kind}
use Rattle.campaign_cli.specs.Ends.SessionEnds.{session_kind}
use Rattle.campaign_cli.specs.Ends.ShownEnds.{shown_kind}
use Rattle.campaign_cli.specs.ShownTexts.{text_by}

-- where the words are no command the usage line is printed
abbrev pub usage_kind : {D : Type 0} → Kind D
usage_kind = record {
  Way = λ old new. Unit {0};
  cause_of = λ old new way. says Usage usage_line;
  needs = needs_nothing;
  can_do = λ old. ⊥;
  has_to_refuse = λ old. ⊥;
}

module _ {D : Type 0} (seen : D → DiskState) where
  -- the page of each command
  abbrev pub kind_of : Request → Kind D
  kind_of (Eval run qrels) = eval_kind run qrels
  kind_of Session = session_kind seen
  kind_of (Serve numbers) = serve_kind seen numbers
  kind_of (Drill numbers) = drill_kind numbers
  kind_of (Show display) = shown_kind seen (text_by display)
  kind_of Compact = compact_kind seen
  kind_of (Archive name) = archive_kind seen name
  kind_of (RunHistory run) = listing_kind (history_text run)
  kind_of (Compare first second) = compare_kind first second
  kind_of Export = listing_kind export_text
  kind_of Nothing = usage_kind

  -- The program was asked this and ended with the status; the outside was as the first, and is as the second.
  abbrev pub Ends : Request → Outside D → Outside D → ℕ → Type 0
  Ends request = Finishes (kind_of request)
