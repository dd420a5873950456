-- The documents so far are admitted.
use Rattle.std.proofs.Common.{◌≡◌, ◌<◌, ℕ, true, get_or, length}
use Rattle.decimal_rank.specs.declared.naming.DocId.{DocId}
use Rattle.score_index.specs.Filters.{admits}
use Rattle.score_index.proofs.filters.admit_all.Given as goal

abbrev pub invariant-loop-place : goal.invariant-loop-place
invariant-loop-place g l = record {
  admitted : (k : ℕ) (d : DocId) → k < l.place → k < length l.ranking → admits l.filter (get_or l.ranking k d) ≡ true;
}
