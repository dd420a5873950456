-- The places behind the present one are the bits that are left, and what is on before it and the rest make the number.
use Rattle.std.proofs.Common.{◌≡◌, ◌+◌, List, Bool, drop, take}
use Rattle.rank_trees.specs.PlacesOn.{count_on}
use Rattle.rank_trees.specs.Words.{number_of_bits}
use Rattle.rank_trees.proofs.count_trees.nth_on.Given as goal

abbrev pub invariant-loop-place : goal.invariant-loop-place
invariant-loop-place l = (on : List Bool) → l.word ≡ number_of_bits on
    → (number_of_bits (drop l.place on) ≡ l.bits) × (count_on (take l.place on) + l.rest ≡ l.number)
