use Rattle.std.proofs.Common.{Some, rules}
use Rattle.depth_pool.proofs.Writes.{IsWrittenAt, other_room}
use Rattle.depth_pool.proofs.index.add_holder.Goals as goal

pub returns-in-Some-clause-rooms : goal.returns-in-Some-clause-rooms
returns-in-Some-clause-rooms c =
    let new = c.put_holder.new.holders in
    let written : IsWrittenAt c.args.index.now (c.get_mut.follows.lender new) c.args.doc (Some new) =
    record { each = ((c.get_mut.follows.holds new).3 (search rules)).0 } in
    other_room _ _ c.args.doc new written
