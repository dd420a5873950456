-- Each document so far has a name.
use Rattle.std.proofs.Common.{ℕ, ◌<◌, get_or}
use Rattle.judging_tests.proofs.graded_views.are_named.Given as goal

abbrev pub invariant-loop-doc : goal.invariant-loop-doc
invariant-loop-doc l = (k : ℕ) → k < l.doc-index → (get_or l.doc-items k (record { 0 = 0 })).0 < l.len
