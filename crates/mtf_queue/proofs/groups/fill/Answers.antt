use Rattle.std.proofs.Common.{◌≡◌, ◌++◌, ◌∷◌, [], arith, ap, get_or, sym, ◌∙◌}
use Rattle.std.proofs.lemmas.List.{map_more}
use Rattle.depth_pool.specs.declared.runs.RunId.{RunId}
use Rattle.mtf_queue.specs.Groups.{first_group}
use Rattle.mtf_queue.proofs.groups.fill.Goals as goal

pub loop-run-preserved : goal.loop-run-preserved
loop-run-preserved c =
    let none : RunId = record { 0 = 0 } in
    let run = get_or c.args.order.now c.loop-run.run-index none in
    let before = c.loop-run.members.items in
    let grown : c.push_reserved.new.self.items ≡ before ++ first_group run ∷ [] = c.push_reserved.ensures.items in (
      grown ∙ ap (λ members. members ++ first_group run ∷ []) c.loop-run.invariant.0
          ∙ sym (map_more first_group c.args.order.now c.loop-run.run-index none c.loop-run-test.true),
      omega (arith, c.push_reserved.ensures.capacity, c.loop-run.invariant.1),
      omega (arith, c.push_reserved.ensures.capacity, c.loop-run.invariant.2),
    )
