-- The text left, appended escaped, gives what the whole text appends; neither length nor capacity falls.
use Rattle.std.proofs.Common.{◌≡◌, ◌≤◌, ◌++◌, length}
use Rattle.std.specs.Prelude.{vec_capacity}
use Rattle.std.specs.List.{flat_map}
use Rattle.routes.specs.Json.Objects.{escaped_byte}
use Rattle.routes.proofs.answers.values.append_escaped.Given as goal

abbrev pub invariant-loop-rest : goal.invariant-loop-rest
invariant-loop-rest l = record {
  bytes : l.initial.out.items ++ flat_map escaped_byte l.text ≡ l.out.items ++ flat_map escaped_byte l.rest;
  before : l.before ≡ length l.initial.out.items;
  grown : length l.initial.out.items ≤ length l.out.items;
  capacity : vec_capacity l.initial.out ≤ vec_capacity l.out;
}

abbrev pub decreases-loop-rest : goal.decreases-loop-rest
decreases-loop-rest l = length l.rest
