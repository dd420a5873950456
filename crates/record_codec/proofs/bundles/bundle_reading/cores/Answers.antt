-- One entry more.
use Rattle.std.proofs.lemmas.Result.{err_from_is_err_and}
use Rattle.record_codec.proofs.BundleCodes.BundleSteps.{ends, goes_on, is_done}
use Rattle.record_codec.proofs.bundles.bundle_reading.cores.Goals as goal

pub returns-in_err-core : goal.returns-in_err-core
returns-in_err-core c =
    let p = err_from_is_err_and c.from_residual.result c.from_residual.ensures.1 in
    rw (p.1, p.2) (ends _ _ _ _ _ _ _ _ _ c.loop-test.true c.in_err-core.ensures c.loop.invariant)

pub loop-preserved : goal.loop-preserved
loop-preserved c = rw c.in_ok-push.ensures.items (goes_on _ _ _ _ _ _ _ _ _ _ c.loop-test.true c.in_ok-core.ensures c.loop.invariant)

pub returns : goal.returns
returns c = is_done _ _ _ _ _ _ _ _ c.loop-test.false c.loop.invariant
