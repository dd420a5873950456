-- The text up to what is done is appended to what was written, and the faults are no fewer than before.
use Rattle.std.proofs.Common.{◌-◌, ◌≤◌, length, take}
use Rattle.std.specs.Io.KnownBytes.{Appends}
use Rattle.decimal_rank.proofs.outputs.write_all.Given as goal

abbrev pub invariant-loop-done : goal.invariant-loop-done
invariant-loop-done g l = record {
  within : l.done ≤ length l.text;
  written : Appends (g.O.Output.writing l.initial.out).written (g.O.Output.writing l.out).written (take l.done l.text);
  later : (g.O.Output.writing l.initial.out).faults ≤ (g.O.Output.writing l.out).faults;
  kept : g.O.Output.Keeps l.initial.out l.out;
}

abbrev pub decreases-loop-done : goal.decreases-loop-done
decreases-loop-done g l = length l.text - l.done
