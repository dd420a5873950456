-- One caller more.
use Rattle.std.proofs.Common.{rules, ◌<◌, ◌++◌, ◌∙◌, length}
use Rattle.record_codec.specs.Varints.{varint}
use Rattle.record_codec.proofs.BundleCodes.ItemSteps.{table_next}
use Rattle.record_codec.proofs.bundles.put_callers.Goals as goal

pub loop-place-preserved : goal.loop-place-preserved
loop-place-preserved c =
    let within : c.loop-place.place < length c.args.callers.now = search rules in
    c.in_ok-append.ensures.text_added ∙ table_next (λ t. t) (c.args.out.now.items ++ varint (length c.args.callers.now)) c.loop-place.out.items
    c.args.callers.now c.loop-place.place c.name.result.now within c.name.ensures c.loop-place.invariant
