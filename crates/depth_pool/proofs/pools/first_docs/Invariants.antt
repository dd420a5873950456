-- The documents are those of the first places of the ranking.
use Rattle.std.proofs.Common.{◌≡◌, take}
use Rattle.depth_pool.proofs.pools.first_docs.Given as goal

abbrev pub invariant-loop-place : goal.invariant-loop-place
invariant-loop-place g l = l.docs.items ≡ take l.place l.ranking
