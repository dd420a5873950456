-- One text more.
use Rattle.std.proofs.Common.{rules, ◌<◌, ◌++◌, ◌∙◌, length}
use Rattle.rulebook.specs.Spelling.{short}
use Rattle.record_codec.specs.Varints.{varint}
use Rattle.record_codec.proofs.BundleCodes.ItemSteps.{table_next}
use Rattle.record_codec.proofs.bundles.put_texts.Goals as goal

pub loop-place-preserved : goal.loop-place-preserved
loop-place-preserved c =
    let within : c.loop-place.place < length c.args.texts.now = search rules in
    c.in_ok-put_text.ensures ∙ table_next short (c.args.out.now.items ++ varint (length c.args.texts.now)) c.loop-place.out.items
    c.args.texts.now c.loop-place.place c.name.result.now within c.name.ensures c.loop-place.invariant
