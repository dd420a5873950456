use Rattle.http_wire.proofs.FrontLaws.{front_stays}
use Rattle.http_wire.proofs.laws.fronts_stay.Goals as goal

pub returns : goal.returns
returns c = front_stays
