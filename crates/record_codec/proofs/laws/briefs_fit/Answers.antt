-- Each part has few bytes.
use Rattle.record_codec.proofs.BundleCodes.BundleSizes.{briefs_fit}
use Rattle.record_codec.proofs.laws.briefs_fit.Goals as goal

pub returns : goal.returns
returns c = briefs_fit
