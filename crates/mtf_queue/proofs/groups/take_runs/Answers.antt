use Rattle.std.proofs.Common.{◌≡◌, ◌++◌, ◌∷◌, [], arith, ap, get_or, sym, ◌∙◌}
use Rattle.std.proofs.lemmas.List.{map_more}
use Rattle.mtf_queue.specs.declared.groups.Member.{Member}
use Rattle.mtf_queue.specs.Groups.{member_run}
use Rattle.mtf_queue.proofs.groups.take_runs.Goals as goal

pub loop-member-preserved : goal.loop-member-preserved
loop-member-preserved c =
    let none : Member = record { group = 0; run = record { 0 = 0 } } in
    let run = (get_or c.args.members.now c.loop-member.member-index none).run in
    let before = c.loop-member.order.items in
    let grown : c.push_reserved.new.self.items ≡ before ++ run ∷ [] = c.push_reserved.ensures.items in (
      grown ∙ ap (λ runs. runs ++ run ∷ []) c.loop-member.invariant.0
          ∙ sym (map_more member_run c.args.members.now c.loop-member.member-index none c.loop-member-test.true),
      omega (arith, c.push_reserved.ensures.capacity, c.loop-member.invariant.1),
    )
