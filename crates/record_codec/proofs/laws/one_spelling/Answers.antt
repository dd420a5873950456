use Rattle.record_codec.proofs.FieldCodes.EntryCodes.{one_spelling_holds}
use Rattle.record_codec.proofs.laws.one_spelling.Goals as goal

pub returns : goal.returns
returns c = one_spelling_holds
