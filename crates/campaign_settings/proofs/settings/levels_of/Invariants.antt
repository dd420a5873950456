-- The levels of all items are those so far and those of the items that are left, if each of these is one.
use Rattle.std.proofs.Common.{◌≡◌, ◌++◌, length, map, option_map}
use Rattle.toml.specs.View.{view}
use Rattle.campaign_settings.specs.Settings.{level_setting}
use Rattle.campaign_settings.specs.TomlTables.{each_of}
use Rattle.campaign_settings.proofs.settings.levels_of.Given as goal

abbrev pub invariant-loop-left : goal.invariant-loop-left
invariant-loop-left l =
    each_of (level_setting l.top) (map view l.items) ≡ option_map (λ rest. l.levels.items ++ rest) (each_of (level_setting l.top) (map view l.left))

abbrev pub decreases-loop-left : goal.decreases-loop-left
decreases-loop-left l = length l.left
