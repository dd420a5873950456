use Rattle.std.proofs.Common.{◌≡◌, ℕ, suc, ◌+◌, refl, arith}
use Rattle.trec_formats.specs.DocnoKeys.{sum_of}
use Rattle.trec_formats.proofs.documents.document_keys.DocumentKeys.sum_of.Goals as goal

pub loop-i-init : goal.loop-i-init
unfolding sum_of
loop-i-init c = refl

pub loop-i-preserved : goal.loop-i-preserved
unfolding sum_of
loop-i-preserved c =
    let i : ℕ = c.loop-i.i in
    let next : i + 1 ≡ suc i = omega arith in
    rw (next, c.word_at.ensures, ← c.loop-i.invariant)
