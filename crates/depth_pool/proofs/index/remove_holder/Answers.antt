use Rattle.std.proofs.Common.{◌≡◌, ◌∙◌, ap, sym, Some, [], rules}
use Rattle.std.specs.BTreeMap.{get}
use Rattle.std.specs.Option.{option_map_or}
use Rattle.depth_pool.specs.Index.{doc_cmp, without_holder}
use Rattle.depth_pool.proofs.Writes.{IsWrittenAt, read_after, kept_room, shrunk_room}
use Rattle.depth_pool.proofs.index.remove_holder.Goals as goal

pub returns-in-Some-clause-holders : goal.returns-in-Some-clause-holders
returns-in-Some-clause-holders c =
    let new = c.take_holder.new.holders in
    let found : get doc_cmp c.args.index.now c.args.doc ≡ Some c.in-Some.holders.now = search rules in
    let written : IsWrittenAt c.args.index.now (c.get_mut.follows.lender new) c.args.doc (Some new) =
    record { each = ((c.get_mut.follows.holds new).3 (search rules)).0 } in
    read_after (λ e. option_map_or (λ v. v.items) e []) (without_holder c.args.run) _ _ c.args.doc (Some new) written
    (c.take_holder.ensures.items ∙ sym (ap (λ e. without_holder c.args.run (option_map_or (λ v. v.items) e [])) found))

pub returns-in-Some-clause-rooms : goal.returns-in-Some-clause-rooms
returns-in-Some-clause-rooms c =
    let new = c.take_holder.new.holders in
    let found : get doc_cmp c.args.index.now c.args.doc ≡ Some c.in-Some.holders.now = search rules in
    let written : IsWrittenAt c.args.index.now (c.get_mut.follows.lender new) c.args.doc (Some new) =
    record { each = ((c.get_mut.follows.holds new).3 (search rules)).0 } in
    kept_room _ _ c.args.doc new written (shrunk_room c.args.index.now c.args.doc _ new found c.take_holder.ensures.len c.take_holder.ensures.capacity)
