use Rattle.std.proofs.lemmas.Result.{err_from_is_err_and}
use Rattle.record_codec.specs.Readings.{docno_read}
use Rattle.record_codec.proofs.ItemLoops.{ends, goes_on, is_done}
use Rattle.record_codec.proofs.entries.lists.docnos_of.Goals as goal

pub returns-in_err-docno : goal.returns-in_err-docno
returns-in_err-docno c =
    let p = err_from_is_err_and c.from_residual-in_err-docno.result c.from_residual-in_err-docno.ensures.1 in
    rw (p.1, p.2) (ends docno_read _ _ _ _ _ _ c.loop-test.true c.in_err-docno.ensures c.loop.invariant)

pub loop-preserved : goal.loop-preserved
loop-preserved c = rw c.in_ok-push.ensures.added (goes_on docno_read _ _ _ _ _ _ _ c.loop-test.true c.in_ok-docno.ensures c.loop.invariant)

pub returns : goal.returns
returns c = rw c.shrink_to_fit.ensures (is_done docno_read _ _ _ _ _ c.loop-test.false c.loop.invariant)
