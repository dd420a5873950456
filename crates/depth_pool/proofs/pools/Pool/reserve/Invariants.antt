-- The ledger in which the first documents are read is the blank's.
use Rattle.depth_pool.proofs.pools.Pool.reserve.Given as goal

abbrev pub ghosts-first_docs : goal.ghosts-first_docs
ghosts-first_docs a = record { name = a.blank.name; parts = a.blank.parts }
