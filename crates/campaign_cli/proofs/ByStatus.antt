-- What each status says, from the way in which a command ended: what is shown of each command's ways.
use Rattle.std.proofs.Common.{◌≡◌, ◌⊎◌, inl, inr, ℕ, List, true, refl, sym, ap, subst}
use Rattle.std.specs.Prelude.{Result, Ok, Err}
use Rattle.decimal_rank.specs.Causes.{Rose}
use Rattle.disk_model.specs.Disks.{DiskState}
use Rattle.book.specs.declared.faults.BookFault.{BookFault}
use Rattle.book.specs.declared.faults.BookFault.TheVariants as fault
use Rattle.campaign_server.specs.declared.ends.End.{End}
use Rattle.campaign_server.specs.declared.ends.End.TheVariants as end
use Rattle.campaign_server.specs.declared.ends.ServeEnd.{ServeEnd}
use Rattle.campaign_server.specs.declared.ends.ServeEnd.TheVariants as serve_end
use Rattle.campaign_server.specs.declared.numbers.ServerNumbers.{ServerNumbers}
use Rattle.campaign_server.specs.Connections.{EndsOn}
use Rattle.campaign_server.specs.Sessions.{IsSession}
use Rattle.drill.specs.declared.numbers.DrillNumbers.{DrillNumbers}
use Rattle.eval.specs.Evaluations.{IsInputFault, IsReport}
use Rattle.eval.specs.Findings.{AreExclusive}
use Rattle.release_archive.specs.declared.ends.ArchiveEnd.{ArchiveEnd}
use Rattle.release_archive.specs.declared.ends.ArchiveEnd.TheVariants as archive_end
use Rattle.release_archive.specs.declared.ends.Archived.{Archived}
use Rattle.release_archive.specs.declared.ends.Archived.TheVariants.{New, Same}
use Rattle.release_archive.specs.declared.kept.Kept.{Kept}
use Rattle.release_archive.specs.ArchivedReleases.{Archives}
use Rattle.rulebook.specs.Campaign.{History}
use Rattle.campaign_settings.specs.declared.settings.Settings.{Settings}
use Rattle.campaign_cli.specs.declared.endings.Cause.TheVariants as cause
use Rattle.campaign_cli.specs.Ends.ArchiveEnds.{Archiving, archive_kind, cause_of as archive_cause, cause_of_answer, not_published, release_of_history, released, short as unarchived}
use Rattle.campaign_cli.specs.Ends.BookEnds.{CanOpen, cause_of_fault}
use Rattle.campaign_cli.specs.Causes.{Ending, silent}
use Rattle.campaign_cli.specs.Ends.CompactEnds.{CompactWork, cause_of as compact_cause, compact_kind, left, packed, short as untold}
use Rattle.campaign_cli.specs.Ends.DrillEnds.{DrillWay, cause_of as drill_cause, drill_kind, played, short as unplayed}
use Rattle.campaign_cli.specs.Endings.{Ends, kind_of, usage_kind}
use Rattle.campaign_cli.specs.Ends.EvalEnds.{EvalWay, TellsBoth, cause_of as eval_cause, eval_kind, refused, scored, short, unread}
use Rattle.campaign_cli.specs.Kinds.{Leaves, needs_nothing}
use Rattle.campaign_cli.specs.Surroundings.Outside.{Outside}
use Rattle.campaign_cli.specs.Ends.ReportEnds.{CompareWay, ListingWay, compare_cause, compare_kind, compared, export_text, first_unknown, history_text, listed, listing_cause, listing_kind, second_unknown, short as unreported, short_of, unfound, unlisted}
use Rattle.campaign_cli.specs.Requests.{Request, Eval, Session, Serve, Drill, Show, Compact, Archive, RunHistory, Compare, Export, Nothing}
use Rattle.campaign_cli.specs.Ends.ServeEnds.{Served, cause_of as server_cause, serve_kind}
use Rattle.campaign_cli.specs.Ends.SessionEnds.{HoldsSession, cause_of as session_cause, session_kind}
use Rattle.campaign_cli.specs.Ends.ShownEnds.{ShownWork, cause_of as shown_cause, short as unshown, shown, shown_kind}
use Rattle.campaign_cli.specs.ShownTexts.{text_by}
use Rattle.campaign_cli.specs.Surroundings.Shelves.{GivesFile}
use Rattle.campaign_cli.specs.Statuses.{IsCalm, Statuses}
use Rattle.campaign_cli.proofs.BookWays.{shows_book}
use Rattle.campaign_cli.proofs.ToldCauses.{Shown, Shows, IsOrShort, shows_ways, statuses}
use Rattle.campaign_cli.proofs.ToldDisks.{OpensStory, book_opens}
use Rattle.campaign_cli.proofs.ToldFiles.{missed_rose, not_both_missed, told_both}

module _ {D : Type 0} (seen : D → DiskState) (old new : Outside D) where
  module _ (exclusive : AreExclusive) (run qrels : List ℕ) where
    eval_shows : Shows seen (Eval run qrels) (eval_kind run qrels) old new
    eval_shows = record {
      ways = ways;
      refused = refuses;
      damaged = λ calm book told way. cc book;
      differs = λ calm book told way. cc book;
    }
      where
        able : (r q line : List ℕ) → GivesFile old.shelf run r → GivesFile old.shelf qrels q → IsInputFault run qrels r q line
            → TellsBoth old.shelf run qrels (λ r q. (text : List ℕ) × IsReport run r q text) → ⊥
        able r q line first second fault can =
            let report = told_both old.shelf run qrels r q (λ r q. (text : List ℕ) × IsReport run r q text) can first second in
            exclusive run qrels r q report.0 line report.1 fault

        ways : Leaves (record needs_nothing { files = true }) old new → (way : EvalWay run qrels old.shelf new.shelf)
            → Shown seen (Eval run qrels) (eval_kind run qrels).can_do old new (eval_cause run qrels way)
        ways leaves (scored r q text first second report) = (tt, tt)
        ways leaves (refused r q line first second fault) = (refl, λ can calm. able r q line first second fault can)
        ways leaves (unread miss) = (
          (refl, elim miss [ inl one ↦ missed_rose old.shelf new.shelf run one | inr other ↦ missed_rose old.shelf new.shelf qrels other ], leaves.disk),
          λ can calm. not_both_missed old.shelf new.shelf run qrels (λ r q. (text : List ℕ) × IsReport run r q text) can calm.shelf miss,
        )
        ways leaves short = (refl, tt)

        refuses : IsCalm seen old new → TellsBoth old.shelf run qrels (λ r q. (line : List ℕ) × IsInputFault run qrels r q line)
            → (way : EvalWay run qrels old.shelf new.shelf)
            → IsOrShort cause.Input (eval_cause run qrels way)
        refuses calm has (scored r q text first second report) =
            let fault = told_both old.shelf run qrels r q (λ r q. (line : List ℕ) × IsInputFault run qrels r q line) has first second in
            absurd (exclusive run qrels r q text fault.0 report fault.1)
        refuses calm has (refused r q line first second fault) = inl refl
        refuses calm has (unread miss) =
            absurd (not_both_missed old.shelf new.shelf run qrels (λ r q. (line : List ℕ) × IsInputFault run qrels r q line) has calm.shelf miss)
        refuses calm has short = inr refl

  session_shows : Shows seen Session (session_kind seen) old new
  session_shows = shows_book seen Session old new _ _ _ _ (λ settings w. book_opens seen settings.rules old.disk w.opened w.opens)
      (λ settings w. by settings w w.how w.talk.ends)
    where
      by : (settings : Settings) (w : HoldsSession seen old.own new.own old.disk new.disk settings) (how : End)
          → EndsOn (IsSession seen settings.callers w.opened old.own.clock w.closed new.own.clock) w.talk.bytes old.own new.own how
          → Shown seen Session (CanOpen seen) old new (silent (session_cause how))
      by settings w end.Ended ends = (tt, tt)
      by settings w end.Cut ends = ((refl, refl), tt)
      by settings w (end.Refused why) ends = ((refl, refl), tt)
      by settings w end.ReadFault ends = ((refl, refl, ends.1), tt)
      by settings w end.WriteFault ends = ((refl, refl, elim ends [ inl part ↦ part.fault | inr cut ↦ cut.fault ]), tt)
      by settings w end.Memory ends = (refl, tt)
      by settings w end.Worn ends = ((refl, refl), tt)

  serve_shows : (numbers : ServerNumbers) → Shows seen (Serve numbers) (serve_kind seen numbers) old new
  serve_shows numbers =
      shows_book seen (Serve numbers) old new _ _ _ _ (λ settings w. book_opens seen settings.rules old.disk w.opened w.opens)
      (λ settings w. by w.how w.serves.fault)
    where
      by : (how : ServeEnd) → (how ≡ serve_end.DoorFault → Rose old.door.faults new.door.faults)
          → Shown seen (Serve numbers) (CanOpen seen) old new (silent (server_cause how))
      by serve_end.Ended fault = (tt, tt)
      by serve_end.DoorFault fault = ((refl, (numbers, refl), fault refl), tt)
      by serve_end.Memory fault = (refl, tt)

  shown_shows : (request : Request) (text_of : History → List ℕ) → Shows seen request (shown_kind seen text_of) old new
  shown_shows request text_of = shows_book seen request old new _ _ _ _ opens works
    where
      opens : (settings : Settings) → ShownWork seen text_of old.disk new.disk settings → OpensStory seen settings.rules old.disk
      opens settings (shown book shows) = book_opens seen settings.rules old.disk book shows.opens
      opens settings (unshown book shows) = book_opens seen settings.rules old.disk book shows.opens

      works : (settings : Settings) (work : ShownWork seen text_of old.disk new.disk settings)
          → Shown seen request (CanOpen seen) old new (shown_cause seen text_of settings work)
      works settings (shown book shows) = (tt, tt)
      works settings (unshown book shows) = (refl, tt)

  compact_shows : Shows seen Compact (compact_kind seen) old new
  compact_shows = shows_book seen Compact old new _ _ _ _ opens works
    where
      opens : (settings : Settings) → CompactWork seen old.disk new.disk settings → OpensStory seen settings.rules old.disk
      opens settings (packed entries before size w) = (w.opening.payloads, w.history, w.opening.reads, w.opening.opens)
      opens settings (untold entries before size w) = (w.opening.payloads, w.history, w.opening.reads, w.opening.opens)
      opens settings (left why w) = (w.opening.payloads, w.history, w.opening.reads, w.opening.opens)

      fails : (why : BookFault) → (why ≡ fault.Memory) ⊎ ((why ≡ fault.Disk) × Rose (seen old.disk).faults (seen new.disk).faults)
          → Shown seen Compact (CanOpen seen) old new (cause_of_fault why)
      fails why (inl is) = subst (λ (f : BookFault). Shown seen Compact (CanOpen seen) old new (cause_of_fault f)) (sym is) (refl, tt)
      fails why (inr (is, rose)) = subst (λ (f : BookFault). Shown seen Compact (CanOpen seen) old new (cause_of_fault f)) (sym is) ((refl, rose), tt)

      works : (settings : Settings) (work : CompactWork seen old.disk new.disk settings)
          → Shown seen Compact (CanOpen seen) old new (compact_cause seen settings work)
      works settings (packed entries before size w) = (tt, tt)
      works settings (untold entries before size w) = (refl, tt)
      works settings (left why w) = fails why w.cause

  archive_shows : (name : List ℕ) → Shows seen (Archive name) (archive_kind seen name) old new
  archive_shows name =
      shows_book seen (Archive name) old new _ _ _ _ (λ settings w. book_opens seen settings.rules old.disk w.book w.shows.opens) (λ settings w. by w.comes)
    where
      put : (kept : Kept) (answer : Result Archived ArchiveEnd) → Archives old.keeper kept answer new.keeper
          → Shown seen (Archive name) (CanOpen seen) old new (cause_of_answer name answer)
      put kept (Ok New) archives = (tt, tt)
      put kept (Ok Same) archives = (tt, tt)
      put kept (Err archive_end.Differs) archives = ((refl, (name, refl)), tt)
      put kept (Err archive_end.Failed) archives = ((refl, refl, archives.failed refl), tt)
      put kept (Err archive_end.Memory) archives = (refl, tt)

      by : {H : History} → (comes : Archiving name H old.keeper new.keeper) → Shown seen (Archive name) (CanOpen seen) old new (archive_cause name comes)
      by (released published answer archives) = put _ answer archives
      by (unarchived same) = (refl, tt)
      by (not_published other same) = ((refl, (name, refl)), tt)

  listing_shows : (request : Request) (text_of : List Kept → List ℕ) → (kind_of seen request).needs.archive ≡ true
      → Shows seen request (listing_kind text_of) old new
  listing_shows request text_of asks = shows_ways seen request (listing_kind text_of) old new (λ none. none) refl (λ leaves way. ways way)
    where
      ways : (way : ListingWay text_of old.keeper new.keeper) → Shown seen request (λ old. Unit {0}) old new (listing_cause way)
      ways (listed all lists) = (tt, tt)
      ways (unlisted rose) = ((refl, asks, rose), tt)
      ways unreported = (refl, tt)

  compare_shows : (first second : List ℕ) → Shows seen (Compare first second) (compare_kind first second) old new
  compare_shows first second = shows_ways seen (Compare first second) (compare_kind first second) old new (λ none. none) refl (λ leaves way. ways way)
    where
      ways : (way : CompareWay first second old.keeper new.keeper) → Shown seen (Compare first second) (λ old. Unit {0}) old new (compare_cause way)
      ways (compared kept other one two) = (tt, tt)
      ways (first_unknown none) = ((first, second, refl, inl refl), tt)
      ways (second_unknown kept one none) = ((first, second, refl, inr refl), tt)
      ways (unfound rose) = ((refl, refl, rose), tt)
      ways short_of = (refl, tt)

  drill_shows : (numbers : DrillNumbers) → Shows seen (Drill numbers) (drill_kind numbers) old new
  drill_shows numbers = shows_ways seen (Drill numbers) (drill_kind numbers) old new (λ none. none) refl (λ leaves way. ways way)
    where
      ways : (way : DrillWay numbers) → Shown seen (Drill numbers) (λ old. Unit {0}) old new (drill_cause way)
      ways (played H plays) = (tt, tt)
      ways unplayed = (refl, tt)

  -- what is shown of each command
  shows_of : AreExclusive → (request : Request) → Shows seen request (kind_of seen request) old new
  shows_of exclusive (Eval run qrels) = eval_shows exclusive run qrels
  shows_of exclusive Session = session_shows
  shows_of exclusive (Serve numbers) = serve_shows numbers
  shows_of exclusive (Drill numbers) = drill_shows numbers
  shows_of exclusive (Show display) = shown_shows (Show display) (text_by display)
  shows_of exclusive Compact = compact_shows
  shows_of exclusive (Archive name) = archive_shows name
  shows_of exclusive (RunHistory run) = listing_shows (RunHistory run) (history_text run) refl
  shows_of exclusive (Compare first second) = compare_shows first second
  shows_of exclusive Export = listing_shows Export export_text refl
  shows_of exclusive Nothing = shows_ways seen Nothing usage_kind old new (λ none. none) refl (λ leaves way. ((refl, refl), λ can calm. can))

-- what each status says, by what was asked
pub by_status : {D : Type 0} (seen : D → DiskState) → AreExclusive → (request : Request) (old new : Outside D) (status : ℕ)
    → Ends seen request old new status → Statuses seen request old new status
by_status seen exclusive request old new status ends = statuses seen request old new status (shows_of seen old new exclusive request) ends
