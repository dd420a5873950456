use Rattle.http_wire.proofs.FrontLaws.{front_is_one}
use Rattle.http_wire.proofs.laws.one_front.Goals as goal

pub returns : goal.returns
returns c = front_is_one
