use Rattle.http_wire.proofs.FrontLaws.{front_goes_on}
use Rattle.http_wire.proofs.laws.fronts_are_messages.Goals as goal

pub returns : goal.returns
returns c = front_goes_on
