-- One caller more.
use Rattle.std.proofs.Common.{◌<◌, ◌∙◌, ap, arith, bytes_eq, length, rules}
use Rattle.rulebook.specs.Words.{Text}
use Rattle.record_codec.specs.Tables.{with_use}
use Rattle.record_codec.proofs.BundleCodes.TableSteps.{callers_fit, callers_next}
use Rattle.record_codec.proofs.bundles.bundle_tables.callers_in.Goals as goal

pub add_use-requires : goal.add_use-requires
add_use-requires c =
    let few = callers_fit c.loop-core.callers c.args.cores.now c.loop-core.core-index c.loop-core.invariant in
    let all = c.requires.few in omega (arith, few, all)

pub loop-core-preserved : goal.loop-core-preserved
loop-core-preserved c =
    let within : c.loop-core.core-index < length c.args.cores.now = search rules in
    c.in_ok-add_use.ensures
    ∙ ap (λ (spelled : Text). with_use bytes_eq c.loop-core.callers spelled) (c.as_slice.ensures.value ∙ c.in_ok-spell.ensures)
    ∙ callers_next c.loop-core.callers c.args.cores.now c.loop-core.core-index c.core-item.result within c.core-item.is c.loop-core.invariant
