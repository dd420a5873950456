use Rattle.std.proofs.Common.{◌<◌, arith, ap, length, refl, subst, sym}
use Rattle.std.specs.List.{All}
use Rattle.mtf_queue.specs.declared.groups.Member.{Member}
use Rattle.mtf_queue.specs.Groups.{numbered_by}
use Rattle.mtf_queue.proofs.MemberLoops.{all_changed, item_left, one_more}
use Rattle.mtf_queue.proofs.groups.put_numbers.Goals as goal

pub bounds-numbers-member : goal.bounds-numbers-member
bounds-numbers-member c =
    let none : Member = record { group = 0; run = record { 0 = 0 } } in
    let old = c.deref_mut-member-items.result.now in
    let at = c.loop-member.member-index in
    let within : All (λ member. member.group < length c.args.numbers.now) old =
    subst (All (λ member. member.group < length c.args.numbers.now)) (sym c.deref_mut-member-items.ensures.value) c.requires in
    omega (
      arith,
      within at none c.loop-member-test.true,
      ap (λ (m : Member). m.group)
          (item_left (numbered_by c.args.numbers.now) old c.loop-member.member-items at c.loop-member.invariant none c.loop-member-test.true),
    )

pub loop-member-preserved : goal.loop-member-preserved
loop-member-preserved c =
    let none : Member = record { group = 0; run = record { 0 = 0 } } in
    one_more (numbered_by c.args.numbers.now) c.deref_mut-member-items.result.now c.loop-member.member-items
    c.loop-member.member-index c.loop-member.invariant none _ c.loop-member-test.true refl

pub returns-clause-numbered : goal.returns-clause-numbered
returns-clause-numbered c =
    all_changed (numbered_by c.args.numbers.now) c.deref_mut-member-items.result.now c.loop-member.member-items
    c.loop-member.member-index c.loop-member.invariant c.args.members.now.items c.args.members.now.len
    (omega (arith, c.loop-member-test.false)) c.deref_mut-member-items.ensures.value c.args.members.now.ok.0
