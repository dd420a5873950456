-- How `drill` ends.
use Rattle.rulebook.specs.Campaign.{History}
use Rattle.drill.specs.Plays.{IsPlayed}
use Rattle.drill.specs.Summaries.{drill_summary}
use Rattle.drill.specs.declared.numbers.DrillNumbers.{DrillNumbers}
use Rattle.campaign_cli.specs.declared.endings.Cause.TheVariants.{Done, Memory}
use Rattle.campaign_cli.specs.Causes.{Ending, says, silent}
use Rattle.campaign_cli.specs.Kinds.{Kind, needs_nothing}

-- the ways in which `drill` ends
pub data DrillWay (numbers : DrillNumbers) : Type 0 where
  -- the campaign is played, and its seven lines are printed
  played : (H : History) → IsPlayed numbers H → DrillWay numbers
  -- there was no memory for it, or for the answer to one of its messages
  short : DrillWay numbers

abbrev pub cause_of : {numbers : DrillNumbers} → DrillWay numbers → Ending
cause_of {numbers} (played H plays) = says Done (drill_summary numbers H)
cause_of short = silent Memory

abbrev pub drill_kind : {D : Type 0} → DrillNumbers → Kind D
drill_kind numbers = record {
  Way = λ old new. DrillWay numbers;
  cause_of = λ old new. cause_of;
  needs = needs_nothing;
  can_do = λ old. Unit {0};
  has_to_refuse = λ old. ⊥;
}
