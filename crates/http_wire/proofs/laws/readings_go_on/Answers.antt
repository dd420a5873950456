use Rattle.http_wire.proofs.FrontRequests.{reads_on}
use Rattle.http_wire.proofs.laws.readings_go_on.Goals as goal

pub returns : goal.returns
returns c = reads_on
