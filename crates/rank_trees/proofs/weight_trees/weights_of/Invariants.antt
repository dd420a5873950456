-- The places behind the present one are the bits that are left, and those before it are weighed.
use Rattle.std.proofs.Common.{◌≡◌, ◌*◌, ◌^◌, ◌≤◌, List, Bool, drop, take}
use Rattle.rank_trees.specs.PlacesOn.{weights_from}
use Rattle.rank_trees.specs.Words.{number_of_bits}
use Rattle.rank_trees.proofs.weight_trees.weights_of.Given as goal

abbrev pub invariant-loop-i : goal.invariant-loop-i
invariant-loop-i l = record {
  weighed : (on : List Bool) → l.word ≡ number_of_bits on → (number_of_bits (drop l.i on) ≡ l.bits) × (l.sum ≡ weights_from l.first (take l.i on));
  small : l.sum ≤ l.i * 10 ^ 15;
}
