-- The documents so far are distinct, and the map has the place of each.
use Rattle.std.proofs.Common.{◌≡◌, ℕ}
use Rattle.std.specs.HashMap.{get}
use Rattle.std.specs.Prelude.{nat_eq}
use Rattle.decimal_rank.specs.Rankings.Places.{AreDistinct, place_in}
use Rattle.decimal_rank.proofs.Standings.ListPlaces.{numbered, docs_to}
use Rattle.decimal_rank.proofs.rankings.first_repeat.Given as goal

abbrev pub invariant-loop-i : goal.invariant-loop-i
invariant-loop-i l =
    AreDistinct (docs_to l.i l.lines) × ((q : ℕ) → get nat_eq l.line_of q ≡ place_in (docs_to l.i l.lines) (numbered q))
