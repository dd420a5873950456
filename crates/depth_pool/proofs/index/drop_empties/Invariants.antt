-- Each document keeps its holders.
use Rattle.std.proofs.Common.{◌≡◌, false, take}
use Rattle.std.specs.List.{All}
use Rattle.decimal_rank.specs.declared.naming.DocId.{DocId}
use Rattle.depth_pool.specs.Index.{holders_at, is_vacant}
use Rattle.depth_pool.proofs.index.drop_empties.Given as goal

abbrev pub invariant-loop-doc : goal.invariant-loop-doc
invariant-loop-doc l =
    ((other : DocId) → holders_at l.index other ≡ holders_at l.initial.index other)
    × All (λ doc. is_vacant l.index doc ≡ false) (take l.doc-index l.docs)
