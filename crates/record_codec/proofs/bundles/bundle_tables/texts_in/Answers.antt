-- There is room for two texts more.
use Rattle.std.proofs.Common.{◌≤◌, ◌*◌, List, ap, arith, length, length-take, take}
use Rattle.rulebook.specs.Words.{Text}
use Rattle.record_codec.specs.Bundles.{texts_of}
use Rattle.record_codec.proofs.BundleCodes.TableSteps.{texts_fit}
use Rattle.record_codec.proofs.bundles.bundle_tables.texts_in.Goals as goal

pub add_texts-requires : goal.add_texts-requires
add_texts-requires c =
    let cores = take c.loop-core.core-index c.args.cores.now in
    let few : length (texts_of cores) ≤ 2 * length cores = texts_fit cores in
    let same = ap (λ (texts : List Text). length texts) c.loop-core.invariant in
    let part = length-take c.loop-core.core-index c.args.cores.now in
    omega (arith, few, same, part, c.requires)
