use Rattle.std.proofs.Common.{lit<, ◌≡◌, ◌∙◌, ap, nat_lt, not, rules}
use Rattle.std.specs.List.{insert}
use Rattle.std.proofs.lemmas.List.Sums.{prefix_len-le-length}
use Rattle.depth_pool.specs.declared.runs.RunId.{RunId}
use Rattle.depth_pool.proofs.Lists.{insert_put}
use Rattle.depth_pool.proofs.index.put_holder.Goals as goal

pub insert-requires : goal.insert-requires
insert-requires c =
    let short = prefix_len-le-length (λ (holder : RunId). not (nat_lt c.args.run.0 holder.0)) c.as_slice.result.now in
    (lit< tt, rw (c.place_of-place.ensures, ← c.as_slice.ensures) short)

pub returns-clause-items : goal.returns-clause-items
returns-clause-items c =
    let holders = c.args.holders.now.items in
    let put : c.insert.new.self.items ≡ insert holders c.place_of-place.result c.args.run = search rules in
    put ∙ ap (λ n. insert holders n c.args.run) (rw (← c.as_slice.ensures) c.place_of-place.ensures)
    ∙ insert_put (λ holder. nat_lt c.args.run.0 holder.0) c.args.run holders
