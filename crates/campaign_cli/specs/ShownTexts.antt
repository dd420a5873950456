-- What is printed of a campaign that was opened. H is its list of accepted entries.
use Rattle.std.specs.Prelude.{ℕ, List, ◌++◌, codes, decimal, length}
use Rattle.std.specs.List.{flat_map}
use Rattle.leave_out.specs.declared.assessors.Agreed.{Agreed}
use Rattle.leave_out.specs.declared.reusability.Reused.{Reused}
use Rattle.leave_out.specs.Agreement.{agreement}
use Rattle.leave_out.specs.Reuse.{reuse}
use Rattle.measures.specs.ScoreLines.{four_decimals}
use Rattle.rulebook.specs.declared.rules.Phase.{Phase}
use Rattle.rulebook.specs.declared.rules.Phase.TheVariants.{Collecting, Judging, Published}
use Rattle.rulebook.specs.Campaign.{History, phase}
use Rattle.rulebook.specs.Reports.Scores.{table_page}
use Rattle.campaign_cli.specs.declared.commands.displays.Display.{Display}
use Rattle.campaign_cli.specs.declared.commands.displays.Display.TheVariants as display

abbrev pub phase_word : Phase → List ℕ
phase_word Collecting = codes "collecting"
phase_word Judging = codes "judging"
phase_word Published = codes "published"

-- the number of entries, the phase, and the table of the runs
abbrev pub check_text : History → List ℕ
check_text H = codes "entries " ++ decimal (length H) ++ codes "\nphase " ++ phase_word (phase H) ++ codes "\n" ++ table_page H

-- a run: how many graded documents its group alone brought in, and its map with their grades and without, with tabs between them
abbrev pub reuse_line : Reused → List ℕ
reuse_line row =
    row.run ++ codes "\t" ++ decimal row.unique ++ codes "\t" ++ four_decimals row.full ++ codes "\t" ++ four_decimals row.reduced ++ codes "\n"

-- the live runs, by submission
abbrev pub reuse_text : History → List ℕ
reuse_text H = flat_map reuse_line (reuse H)

-- a topic: how many documents have two labels, how many of these are equal, and of how many both are relevant, or at least one
abbrev pub agreed_line : Agreed → List ℕ
agreed_line row =
    row.topic ++ codes " " ++ decimal row.pairs ++ codes " " ++ decimal row.equal ++ codes " "
    ++ decimal row.both ++ codes " " ++ decimal row.either ++ codes "\n"

-- the topics whose documents need two labels, by id
abbrev pub agreement_text : History → List ℕ
agreement_text H = flat_map agreed_line (agreement H)

-- what a command prints of its campaign
abbrev pub text_by : Display → History → List ℕ
text_by display.Check = check_text
text_by display.Reuse = reuse_text
text_by display.Agreement = agreement_text
