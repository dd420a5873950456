use Rattle.std.proofs.Common.{Bool, rules}
use Rattle.std.proofs.lemmas.List.Sorted.{IsPartitionPoint-from_clause}
use Rattle.depth_pool.specs.Holdings.{pool_holds}
use Rattle.depth_pool.specs.declared.runs.RunId.{RunId}
use Rattle.mtf_queue.proofs.OrderedQueues.{in_order_inserted, partitioned_in_order, rule_lt}
use Rattle.mtf_queue.proofs.rule.place_of.Goals as goal

pub returns-clause-in_order : goal.returns-clause-in_order
returns-clause-in_order c =
    let held = pool_holds c.args.pool.now.runs in
    let trail = c.args.trail.now in
    let order = c.args.order.now in
    let run = c.args.run in
    let passes : RunId → Bool = λ other. rule_lt held trail other run in
    let i = c.partition_point.result in
    in_order_inserted held trail order run i c.requires.is_new c.requires.in_order
    (IsPartitionPoint-from_clause passes order i c.partition_point.ensures.partitioned (partitioned_in_order held trail order run c.requires.in_order)
    (λ a r f' called. (search rules, search rules)))
    c.partition_point.ensures.bound
