use Rattle.http_wire.proofs.ReadingLaws.{reading_is_one}
use Rattle.http_wire.proofs.laws.one_reading.Goals as goal

pub returns : goal.returns
returns c = reading_is_one
