-- The list so far and the held documents of the entries to come make all that are held.
use Rattle.std.proofs.Common.{◌≡◌, ◌++◌}
use Rattle.depth_pool.specs.Index.{held_docs}
use Rattle.depth_pool.proofs.index.docs_held.Given as goal

abbrev pub invariant-loop-doc : goal.invariant-loop-doc
invariant-loop-doc l = l.docs.items ++ held_docs l.doc-iterator ≡ held_docs l.index.entries
