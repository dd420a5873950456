-- The seven lines that are printed of a generated campaign.
use Rattle.std.specs.Prelude.{ℕ, ◌*◌, List, ◌++◌, codes, decimal, length}
use Rattle.std.specs.Option.{option_map_or}
use Rattle.campaign_core.specs.Views.Tallies.{best_map, best_run, judged_in, relevant_in_all}
use Rattle.measures.specs.ScoreLines.{four_decimals}
use Rattle.rulebook.specs.Campaign.{History, Run}
use Rattle.drill.specs.declared.numbers.DrillNumbers.{DrillNumbers}

abbrev pub summary_line : List ℕ → ℕ → List ℕ
summary_line word count = word ++ codes " " ++ decimal count ++ codes "\n"

-- the live run with the greatest mean average precision, and that mean
abbrev pub named_best : History → Run → List ℕ
named_best H run = codes "best " ++ run.name ++ codes " " ++ four_decimals (best_map H) ++ codes "\n"

-- where no run is live a minus stands for it
abbrev pub best_line : History → List ℕ
best_line H = option_map_or (named_best H) (best_run H) (codes "best -\n")

abbrev pub drill_summary : DrillNumbers → History → List ℕ
drill_summary numbers H =
    summary_line (codes "runs") numbers.runs
    ++ summary_line (codes "topics") numbers.topics
    ++ summary_line (codes "lines") (numbers.runs * numbers.topics * numbers.docs)
    ++ summary_line (codes "entries") (length H)
    ++ summary_line (codes "judged") (judged_in H)
    ++ summary_line (codes "relevant") (relevant_in_all H)
    ++ best_line H
