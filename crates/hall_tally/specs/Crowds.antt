-- How many workers a crowd has.
use Rattle.std.specs.Prelude.{ℕ}
use Rattle.hall_tally.specs.declared.workers.Crowd.{Crowd}
use Rattle.hall_tally.specs.declared.workers.Crowd.TheVariants.{One, Two, Four}

abbrev pub crowd_size : Crowd → ℕ
crowd_size One = 1
crowd_size Two = 2
crowd_size Four = 4
