-- The systems are those of the live runs among those so far, and each is sound.
use Rattle.std.proofs.Common.{◌≡◌, true}
use Rattle.std.specs.List.{list_all}
use Rattle.rulebook.specs.Reports.Systems.{is_sound_system}
use Rattle.campaign_core.proofs.Entries.Runs.LiveSystems.{systems_to}
use Rattle.campaign_core.proofs.systems.systems_of.Given as goal

abbrev pub invariant-loop-number : goal.invariant-loop-number
invariant-loop-number l = record {
  systems_are : l.systems.items ≡ systems_to l.history l.number;
  each_sound : list_all is_sound_system l.systems.items ≡ true;
}
