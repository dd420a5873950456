use Rattle.record_codec.proofs.BundleCodes.BundleLaws.{one_payload_holds}
use Rattle.record_codec.proofs.laws.one_payload.Goals as goal

pub returns : goal.returns
returns c = one_payload_holds
