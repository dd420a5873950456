-- The places so far have the maps of their systems.
use Rattle.std.proofs.Common.{◌≡◌, length, map, take}
use Rattle.archive_reports.specs.Comparisons.{maps_of}
use Rattle.archive_reports.proofs.comparisons.maps_in_both.Given as goal

abbrev pub invariant-loop-place : goal.invariant-loop-place
invariant-loop-place l = (take l.place l.found ≡ map (maps_of l.others) (take l.place l.systems)) × (length l.found ≡ 256)
