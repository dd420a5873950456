-- Tables and items have few bytes.
use Rattle.record_codec.proofs.BundleCodes.BundleSizes.{bundles_fit}
use Rattle.record_codec.proofs.laws.bundles_fit.Goals as goal

pub returns : goal.returns
returns c = bundles_fit
