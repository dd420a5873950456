use Rattle.record_codec.proofs.BundleCodes.BundleLaws.{payloads_are_read_holds}
use Rattle.record_codec.proofs.laws.payloads_are_read.Goals as goal

pub returns : goal.returns
returns c = payloads_are_read_holds
