-- The lists are those of the lines so far, and their topics are below those of the lines to come.
use Rattle.std.proofs.Common.{◌-◌, ◌≤◌, drop, length}
use Rattle.trec_formats.specs.RunFormat.PackedRuns.{lines_in}
use Rattle.trec_formats.proofs.RankedLists.GroupLists.{IsListedTo}
use Rattle.trec_formats.proofs.runs.lists.lists_of.Given as goal

abbrev pub invariant-loop-start : goal.invariant-loop-start
invariant-loop-start l = record {
  within : l.start ≤ length l.rest.items;
  listed : IsListedTo (lines_in l.bytes l.initial.rest.items) (lines_in l.bytes (drop l.start l.rest.items)) l.lists.items;
}

abbrev pub decreases-loop-start : goal.decreases-loop-start
decreases-loop-start l = length l.rest.items - l.start
