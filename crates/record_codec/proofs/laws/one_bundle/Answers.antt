use Rattle.record_codec.proofs.BundleCodes.BundleLaws.{one_bundle_holds}
use Rattle.record_codec.proofs.laws.one_bundle.Goals as goal

pub returns : goal.returns
returns c = one_bundle_holds
