-- The sum is that of the words so far.
use Rattle.std.proofs.Common.{◌≡◌}
use Rattle.trec_formats.specs.DocnoKeys.{sum_of}
use Rattle.trec_formats.proofs.documents.document_keys.DocumentKeys.sum_of.Given as goal

abbrev pub invariant-loop-i : goal.invariant-loop-i
invariant-loop-i l = l.sum ≡ sum_of l.self l.docno l.i
