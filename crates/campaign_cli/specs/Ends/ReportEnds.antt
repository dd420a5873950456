-- How the reports on the archive end: `history`, `compare` and `export`. They read no settings and no journal.
use Rattle.std.specs.Prelude.{◌≡◌, ℕ, ◌+◌, ◌-◌, List, ◌++◌, Some, None, if◌then◌else◌, nat_lt, max, codes, decimal, true, false}
use Rattle.std.specs.List.{flat_map}
use Rattle.decimal_rank.specs.Causes.{Rose}
use Rattle.archive_reports.specs.Comparisons.{pairs_of}
use Rattle.archive_reports.specs.declared.comparisons.Pairs.{Pairs}
use Rattle.archive_reports.specs.declared.histories.HistoryRow.{HistoryRow}
use Rattle.archive_reports.specs.Exports.{csv_records, csv_text}
use Rattle.archive_reports.specs.Histories.{history_of}
use Rattle.measures.specs.ScoreLines.{four_decimals}
use Rattle.release_archive.specs.declared.ends.KeepEnd.{KeepEnd}
use Rattle.release_archive.specs.declared.ends.KeepEnd.TheVariants as keep_end
use Rattle.release_archive.specs.declared.kept.Kept.{Kept}
use Rattle.release_archive.specs.Keepers.{Finds, KeeperState, Lists}
use Rattle.campaign_cli.specs.declared.endings.Cause.{Cause}
use Rattle.campaign_cli.specs.declared.endings.Cause.TheVariants as cause
use Rattle.campaign_cli.specs.Causes.{Ending, IsWay, says, silent}
use Rattle.campaign_cli.specs.Kinds.{Kind, LeavesArchive, needs_nothing}
use Rattle.campaign_cli.specs.Surroundings.Outside.{name_line, word_line}

-- a run in a release: the release's name, how many topics counted, and the map, with tabs between them
abbrev pub history_line : HistoryRow → List ℕ
history_line row = row.name ++ codes "\t" ++ decimal row.topics ++ codes "\t" ++ four_decimals row.map ++ codes "\n"

abbrev pub history_text : List ℕ → List Kept → List ℕ
history_text run all = flat_map history_line (history_of run all)

abbrev pub export_text : List Kept → List ℕ
export_text all = csv_text (csv_records all)

-- a number less another, with a sign where that is negative
abbrev pub difference : ℕ → ℕ → List ℕ
difference a b = if nat_lt a b then codes "-" ++ decimal (b - a) else decimal (a - b)

-- the pairs, each of which is concordant, discordant or tied
abbrev pub all_pairs : Pairs → ℕ
all_pairs pairs = pairs.concordant + pairs.discordant + pairs.tied

-- the counts, and Kendall's tau as a quotient by the number of pairs, or by 1 where there is none
abbrev pub compare_text : Pairs → List ℕ
compare_text pairs = word_line (codes "common ") pairs.common ++ word_line (codes "concordant ") pairs.concordant
    ++ word_line (codes "discordant ") pairs.discordant ++ word_line (codes "tied ") pairs.tied
    ++ codes "tau " ++ difference pairs.concordant pairs.discordant ++ codes "/" ++ decimal (max (all_pairs pairs) 1) ++ codes "\n"

-- what is printed where the archive has no release of a name
abbrev pub no_release_line : List ℕ → List ℕ
no_release_line name = name_line (codes "unknown ") name

-- the cause where the archive's keeper didn't do its work
abbrev pub cause_of_end : KeepEnd → Cause
cause_of_end keep_end.Failed = cause.Keeper
cause_of_end keep_end.Memory = cause.Memory

-- the ways in which a report on all releases ends
pub data ListingWay (text_of : List Kept → List ℕ) (old new : KeeperState) : Type 0 where
  -- its text of the releases is printed
  listed : (all : List Kept) → Lists old.held all → ListingWay text_of old new
  -- the archive's keeper failed
  unlisted : Rose old.faults new.faults → ListingWay text_of old new
  -- there was no memory
  short : ListingWay text_of old new

abbrev pub listing_cause : {text_of : List Kept → List ℕ} → {old new : KeeperState} → ListingWay text_of old new → Ending
listing_cause {text_of} (listed all lists) = says cause.Done (text_of all)
listing_cause (unlisted rose) = silent cause.Keeper
listing_cause short = silent cause.Memory

-- the ways in which `compare` ends
pub data CompareWay (first second : List ℕ) (old new : KeeperState) : Type 0 where
  -- both releases are there: how they agree is printed
  compared : (kept other : Kept) → Finds old.held first (Some kept) → Finds old.held second (Some other) → CompareWay first second old new
  -- the first isn't
  first_unknown : Finds old.held first None → CompareWay first second old new
  -- the first is, and the second isn't
  second_unknown : (kept : Kept) → Finds old.held first (Some kept) → Finds old.held second None → CompareWay first second old new
  -- the archive's keeper failed
  unfound : Rose old.faults new.faults → CompareWay first second old new
  -- there was no memory
  short_of : CompareWay first second old new

abbrev pub compare_cause : {first second : List ℕ} → {old new : KeeperState} → CompareWay first second old new → Ending
compare_cause (compared kept other one two) = says cause.Done (compare_text (pairs_of kept.systems other.systems))
compare_cause {first} (first_unknown none) = says cause.Unknown (no_release_line first)
compare_cause {second = second} (second_unknown kept one none) = says cause.Unknown (no_release_line second)
compare_cause (unfound rose) = silent cause.Keeper
compare_cause short_of = silent cause.Memory

-- A report ended in one of its ways. The archive is as it was, but for its keeper's count of faults.
pub record ReportEnds (Way : KeeperState → KeeperState → Type 0) (cause_of : (old new : KeeperState) → Way old new → Ending)
    (old new : KeeperState) (ending : Ending) : Type 0 where
  pub way : Way old new
  pub told : ending ≡ cause_of old new way
  pub archive : LeavesArchive true false old new

abbrev pub report_kind : {D : Type 0} → (Way : KeeperState → KeeperState → Type 0) → ((old new : KeeperState) → Way old new → Ending) → Kind D
report_kind Way cause_of = record {
  Way = λ old new. Way old.keeper new.keeper;
  cause_of = λ old new. cause_of old.keeper new.keeper;
  needs = record needs_nothing { archive = true };
  can_do = λ old. Unit {0};
  has_to_refuse = λ old. ⊥;
}

abbrev pub ListingEnds : (List Kept → List ℕ) → KeeperState → KeeperState → Ending → Type 0
ListingEnds text_of = ReportEnds (ListingWay text_of) (λ old new. listing_cause)

abbrev pub listing_kind : {D : Type 0} → (List Kept → List ℕ) → Kind D
listing_kind text_of = report_kind (ListingWay text_of) (λ old new. listing_cause)

abbrev pub CompareEnds : List ℕ → List ℕ → KeeperState → KeeperState → Ending → Type 0
CompareEnds first second = ReportEnds (CompareWay first second) (λ old new. compare_cause)

abbrev pub compare_kind : {D : Type 0} → List ℕ → List ℕ → Kind D
compare_kind first second = report_kind (CompareWay first second) (λ old new. compare_cause)
