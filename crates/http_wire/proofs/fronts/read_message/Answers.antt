use Rattle.std.proofs.Common.{sym, subst}
use Rattle.http_wire.specs.Fronts.{IsFound}
use Rattle.http_wire.proofs.MessageFronts.{found_at}
use Rattle.http_wire.proofs.fronts.read_message.Goals as goal

pub returns-in_ok-head-in-Some : goal.returns-in_ok-head-in-Some
returns-in_ok-head-in-Some c =
    let (head, is, at) = c.in-Some.ensures.found in
    subst (IsFound c.args.message.now) (sym c.with_length.ensures)
    (found_at c.args.message.now c.args.head_len c.in_ok-head-in-Some.head head c.requires.head is (c.in_ok-head-in-Some.ensures head at))
