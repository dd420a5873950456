use Rattle.http_wire.proofs.PieceLaws.{pieces_go_on}
use Rattle.http_wire.proofs.laws.pieces_go_on.Goals as goal

pub returns : goal.returns
returns c = pieces_go_on
