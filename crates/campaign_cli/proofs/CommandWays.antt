-- The ways in which the commands end, from what their functions were given.
use Rattle.std.proofs.Common.{◌≡◌, ◌≤◌, ◌⊎◌, inl, inr, ℕ, List, Option, Some, None, refl, sym, ap, subst, ◌∙◌, arith}
use Rattle.std.specs.Prelude.{IfErr, IfOk, IfSome, Result, Ok, Err}
use Rattle.decimal_rank.specs.Causes.{Rose}
use Rattle.disk_model.specs.Disks.{DiskState}
use Rattle.book.specs.declared.compacting.CompactEnd.{CompactEnd}
use Rattle.book.specs.declared.compacting.CompactEnd.TheVariants as compact_end
use Rattle.book.specs.declared.faults.BookFault.{BookFault}
use Rattle.book.specs.declared.faults.BookFault.TheVariants as fault
use Rattle.book.specs.Books.{BookView, IsSound}
use Rattle.book.specs.Compaction.Compactings.{CompactsTo, LeavesStory}
use Rattle.book.specs.Images.{ImagesHold}
use Rattle.book.specs.Opening.OpeningLaws.{stands_alone}
use Rattle.book.specs.Opening.Openings.{Opened, Refused}
use Rattle.release_archive.specs.declared.ends.KeepEnd.{KeepEnd}
use Rattle.release_archive.specs.declared.ends.KeepEnd.TheVariants as keep_end
use Rattle.release_archive.specs.declared.kept.Kept.{Kept}
use Rattle.release_archive.specs.Keepers.{Finds, KeeperState}
use Rattle.routes.specs.declared.keys.KeyRow.{KeyRow}
use Rattle.release_archive.specs.ArchivedReleases.{Archives}
use Rattle.rulebook.specs.declared.rules.Phase.TheVariants as phase_name
use Rattle.rulebook.specs.Campaign.{History, phase}
use Rattle.campaign_settings.specs.declared.settings.Settings.{Settings}
use Rattle.campaign_cli.specs.declared.endings.Cause.{Cause}
use Rattle.campaign_cli.specs.declared.endings.Cause.TheVariants as cause
use Rattle.campaign_cli.specs.declared.endings.Outcome.{Outcome}
use Rattle.campaign_cli.specs.Ends.ArchiveEnds.{Archiving, PutsRelease, cause_of as archive_cause, release_of_history, released, short as unarchived}
use Rattle.campaign_cli.specs.Ends.BookEnds.{BookEnds, IsGiven, IsOpened, IsToldOf, NoSettings, Unopened, cause_of_fault, cause_of_none, cause_without_settings, missed, not_opened, not_told, settings_file, short as no_memory, unopened, unset, worked}
use Rattle.campaign_cli.specs.Causes.{Ending, IsUnread, IsWay, SaysOrShort, ending_of, silent}
use Rattle.campaign_cli.specs.Ends.CompactEnds.{CompactEnds, CompactWork, Compacting, IsToldEnd, cause_of as compact_cause, compact_text, left, packed, short as untold}
use Rattle.campaign_cli.specs.Ends.EvalEnds.{EvalEnds, short, unread}
use Rattle.campaign_cli.specs.Surroundings.Outside.{MissesFile}
use Rattle.campaign_cli.specs.Ends.ReportEnds.{CompareEnds, ListingEnds, cause_of_end, first_unknown, no_release_line, second_unknown, short as unreported, short_of, unfound, unlisted}
use Rattle.campaign_cli.specs.Ends.ServeEnds.{ServersStand}
use Rattle.campaign_cli.specs.Ends.SessionEnds.{SessionsStand}
use Rattle.campaign_cli.specs.Surroundings.Shelves.{KeepsFiles, ShelfState, file_at}
use Rattle.campaign_cli.specs.Ends.ShownEnds.{ShownEnds, Shows, short as unshown, shown}
use Rattle.campaign_cli.proofs.ToldFiles.{follows_on}

-- what rose later rose since before
pub rose_before : (a b c : ℕ) → a ≤ b → Rose b c → Rose a c
rose_before a b c before rose = grind (arith, before, rose)

-- what is missed later was missing before
missed_before : (a b c : ShelfState) (name : List ℕ) → KeepsFiles a b → MissesFile b c name → MissesFile a c name
missed_before a b c name w (inl rose) = inl (rose_before a.faults b.faults c.faults w.faults rose)
missed_before a b c name w (inr (rose, lacks)) =
    inr (rose_before a.misses b.misses c.misses w.misses rose, subst (λ files. IfSome files (λ files. file_at files name ≡ None)) w.files lacks)

module _ (run qrels : List ℕ) (a b : ShelfState) (first : KeepsFiles a b) where
  -- the run wasn't read
  pub run_unread : (found : Cause) → IsUnread a b run found → EvalEnds run qrels a b (silent found)
  run_unread found (inl (is, miss)) = (record { way = unread (inl miss); told = ap silent is }, first)
  run_unread found (inr is) = (record { way = short; told = ap silent is }, first)

  -- it was, and the qrels weren't
  pub qrels_unread : (c : ShelfState) (found : Cause) → KeepsFiles b c → IsUnread b c qrels found → EvalEnds run qrels a c (silent found)
  qrels_unread c found second
      (inl (is, miss)) = (record { way = unread (inr (missed_before a b c qrels first miss)); told = ap silent is }, follows_on a b c first second)
  qrels_unread c found second (inr is) = (record { way = short; told = ap silent is }, follows_on a b c first second)

-- the settings weren't read
pub settings_unread : (shelf later : ShelfState) (found : Cause) → IsUnread shelf later settings_file found
    → IsWay (NoSettings shelf later) cause_without_settings (silent found)
settings_unread shelf later found (inl (is, miss)) = record { way = missed miss; told = ap silent is }
settings_unread shelf later found (inr is) = record { way = no_memory; told = ap silent is }

-- a report for which the archive's keeper failed, or had no memory
pub not_listed : (text_of : List Kept → List ℕ) (old new : KeeperState) (end : KeepEnd) (found : Cause) → found ≡ cause_of_end end
    → old.faults ≤ new.faults → new.held ≡ old.held → (end ≡ keep_end.Failed → Rose old.faults new.faults) → ListingEnds text_of old new (silent found)
not_listed text_of old new keep_end.Failed found is later same failed = record { way = unlisted (failed refl); told = ap silent is; archive = (later, same) }
not_listed text_of old new keep_end.Memory found is later same failed = record { way = unreported; told = ap silent is; archive = (later, same) }

module _ (first second : List ℕ) (old new : KeeperState) (later : old.faults ≤ new.faults) (same : new.held ≡ old.held) where
  pub not_compared : (end : KeepEnd) (found : Cause) → found ≡ cause_of_end end → (end ≡ keep_end.Failed → Rose old.faults new.faults)
      → CompareEnds first second old new (silent found)
  not_compared keep_end.Failed found is failed = record { way = unfound (failed refl); told = ap silent is; archive = (later, same) }
  not_compared keep_end.Memory found is failed = record { way = short_of; told = ap silent is; archive = (later, same) }

  pub not_first : (ending : Ending) → Finds old.held first None → SaysOrShort cause.Unknown (no_release_line first) ending
      → CompareEnds first second old new ending
  not_first ending none (inl is) = record { way = first_unknown none; told = is; archive = (later, same) }
  not_first ending none (inr is) = record { way = short_of; told = is; archive = (later, same) }

  pub not_second : (ending : Ending) (kept : Kept) → Finds old.held first (Some kept) → Finds old.held second None
      → SaysOrShort cause.Unknown (no_release_line second) ending → CompareEnds first second old new ending
  not_second ending kept one none (inl is) = record { way = second_unknown kept one none; told = is; archive = (later, same) }
  not_second ending kept one none (inr is) = record { way = short_of; told = is; archive = (later, same) }

-- what came of a release that was to be put into the archive
pub put_campaign : (name : List ℕ) (H : History) (before after : KeeperState) (ending : Ending)
    → phase H ≡ phase_name.Published → (kept : Kept) → kept ≡ release_of_history name H
    → PutsRelease name kept before after ending → IsWay (Archiving name H before after) (archive_cause name) ending
put_campaign name H before after ending published kept is (inl (answer, archives, told)) =
    record { way = released published answer (subst (λ (k : Kept). Archives before k answer after) is archives); told = told }
put_campaign name H before after ending published kept is (inr (same, told)) = record { way = unarchived same; told = told }

module _ {D : Type 0} (seen : D → DiskState) where
  -- a text of a campaign that was opened is told, or there was no memory for it
  pub shown_campaign : (shelf later : ShelfState) (disk after : D) (ending : Ending) (text_of : History → List ℕ) (book : BookView D) (callers : List KeyRow)
      (opened : IsOpened seen shelf disk book callers) → KeepsFiles shelf later → SaysOrShort cause.Done (text_of book.history) ending → after ≡ book.disk
      → ShownEnds seen text_of shelf later disk after ending
  shown_campaign shelf later disk after ending text_of book callers opened follows told closes = by told
    where
      shows : Shows seen disk after opened.settings book
      shows = record { opens = opened.opened; closes = closes }

      by : SaysOrShort cause.Done (text_of book.history) ending → ShownEnds seen text_of shelf later disk after ending
      by (inl is) = record { way = worked (opened.text, opened.settings, opened.given, opened.read, shown book shows); told = is; follows = follows }
      by (inr is) = record { way = worked (opened.text, opened.settings, opened.given, opened.read, unshown book shows); told = is; follows = follows }

  -- a disk that was opened under settings that were given
  pub opened_disk : {T : Type 0} (settings : Settings) (shelf : ShelfState) (disk : D) → IsGiven shelf settings → (result : Result (BookView D × List KeyRow) T)
      → IfOk result (λ found. Opened seen settings.rules disk found.0) → IfOk result (λ found. found.1 ≡ settings.callers)
      → IfOk result (λ found. IsOpened seen shelf disk found.0 found.1)
  opened_disk settings shelf disk given (Ok found) opens callers =
      record { text = given.0; settings = settings; given = given.1; read = given.2; callers_are = callers; opened = opens }
  opened_disk settings shelf disk given (Err ended) opens callers = tt

  -- a disk that wasn't opened
  pub refused_disk : {T : Type 0} (settings : Settings) (shelf later : ShelfState) (disk : D) → IsGiven shelf settings → (result : Result T (Outcome × D))
      → IfErr result (λ given. (why : BookFault) × Refused seen settings.rules disk given.1 why × IsToldOf why (ending_of given.0))
      → IfErr result (λ given. IsWay (Unopened seen shelf later disk given.1) (cause_of_none seen) (ending_of given.0))
  refused_disk settings shelf later disk given (Ok found) none = tt
  refused_disk settings shelf later disk given (Err ended) (why, given_up, inl told) =
      record { way = not_opened why (given.0, settings, given.1, given.2, given_up); told = told }
  refused_disk settings shelf later disk given (Err ended) (why, given_up, inr (entry, is, told)) =
      record { way = not_told entry (given.0, settings, given.1, given.2, subst (Refused seen settings.rules disk ended.1) is given_up); told = told }

  -- what came of the journal of the settings
  pub compacted_campaign : (shelf later : ShelfState) (disk after : D) (ending : Ending) (settings : Settings) → IsGiven shelf settings → KeepsFiles shelf later
      → Compacting seen settings disk after ending → CompactEnds seen shelf later disk after ending
  compacted_campaign shelf later disk after ending settings given follows (end, comes, told) = by end comes told
    where
      ended : (work : CompactWork seen disk after settings) → ending ≡ compact_cause seen settings work → CompactEnds seen shelf later disk after ending
      ended work is = record { way = worked (given.0, settings, given.1, given.2, work); told = is; follows = follows }

      absent : (none : Unopened seen shelf later disk after) → ending ≡ cause_of_none seen none → CompactEnds seen shelf later disk after ending
      absent none is = record { way = unopened none tt; told = is; follows = follows }

      never : (entry : ℕ) (why : BookFault) → why ≡ fault.Damaged entry
          → (why ≡ fault.Memory) ⊎ ((why ≡ fault.Disk) × Rose (seen disk).faults (seen after).faults) → ⊥
      never entry why is (inl other) = cc (is, other)
      never entry why is (inr (other, rose)) = cc (is, other)

      by : (end : CompactEnd) → CompactsTo seen settings.rules disk after end → IsToldEnd seen end ending → CompactEnds seen shelf later disk after ending
      by (compact_end.Done entries before size) compacts (inl is) = ended (packed entries before size compacts) is
      by (compact_end.Done entries before size) compacts (inr is) = ended (untold entries before size compacts) is
      by (compact_end.Fault why) (inl given_up) (inl is) = absent (not_opened why (given.0, settings, given.1, given.2, given_up)) is
      by (compact_end.Fault why) (inl given_up) (inr (entry, damaged, is)) =
          absent (not_told entry (given.0, settings, given.1, given.2, subst (Refused seen settings.rules disk after) damaged given_up)) is
      by (compact_end.Fault why) (inr leaves) (inl is) = ended (left why leaves) is
      by (compact_end.Fault why) (inr leaves) (inr (entry, damaged, is)) = absurd (never entry why damaged leaves.cause)

  -- what a disk stands for at the end, where no call on it failed since the opening
  stands : (disk after : D) (closed : BookView D) → IsSound seen closed → closed.opening ≡ (seen disk).faults → after ≡ closed.disk
      → ¬ (Rose (seen disk).faults (seen after).faults) → ImagesHold (seen after).images closed.history None
  stands disk after closed sound same closes calm =
      let alone = stands_alone seen closed sound
      (λ rose. calm
      (subst (λ (last : D). Rose (seen disk).faults (seen last).faults) (sym closes) (subst (λ n. Rose n (seen closed.disk).faults) same rose))) in
      subst (λ (last : D). ImagesHold (seen last).images closed.history None) (sym closes) alone

  pub session_stands : SessionsStand seen
  session_stands settings old new disk after session calm =
      stands disk after session.closed session.sound (session.runs.opening ∙ session.opens.opening_is) session.closes calm

  pub server_stands : ServersStand seen
  server_stands settings numbers old new disk after server calm =
      stands disk after server.closed server.sound (sym server.serves.grown.opening ∙ server.opens.opening_is) server.closes calm
