use Rattle.http_wire.proofs.PieceLaws.{refuses_again}
use Rattle.http_wire.proofs.laws.refusals_stay.Goals as goal

pub returns : goal.returns
returns c = refuses_again
