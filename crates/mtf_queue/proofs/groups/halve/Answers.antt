use Rattle.std.proofs.Common.{◌≡◌, ◌∙◌, arith, ap, drop, get_or, not, subst, sym}
use mathlib.Core.Bool.{beq}
use Rattle.depth_pool.specs.declared.runs.RunId.{RunId}
use Rattle.mtf_queue.specs.declared.groups.Member.{Member}
use Rattle.mtf_queue.specs.Groups.{AreFewGroups, AreMembersByRun, KeepsFrom, half_of, member_run}
use Rattle.mtf_queue.proofs.HolderWalks.{among-is, more-passed}
use Rattle.mtf_queue.proofs.MemberLoops.{all_changed, byte_few, group_fits, half_is, item_left, one_more}
use Rattle.mtf_queue.proofs.groups.halve.Goals as goal

pub overflow_mul-member : goal.overflow_mul-member
overflow_mul-member c =
    let items = c.deref_mut-member-items.result.now in
    let member : Member = record { group = 0; run = record { 0 = 0 } } in
    let few : AreFewGroups items = subst AreFewGroups (sym c.deref_mut-member-items.ensures.value) c.requires.few in
    omega (
      arith,
      group_fits (half_of c.args.holders.now c.args.relevant) items c.loop-member.member-items c.loop-member.member-index
          member c.loop-member.invariant.0 c.loop-member-test.true few c.deref_mut-member-items.type_inv.1,
    )

pub overflow_add-member : goal.overflow_add-member
overflow_add-member c =
    let items = c.deref_mut-member-items.result.now in
    let member : Member = record { group = 0; run = record { 0 = 0 } } in
    let few : AreFewGroups items = subst AreFewGroups (sym c.deref_mut-member-items.ensures.value) c.requires.few in
    omega (
      arith,
      c.from.ensures,
      byte_few (not (beq c.is_at.result c.args.relevant)),
      group_fits (half_of c.args.holders.now c.args.relevant) items
          c.loop-member.member-items c.loop-member.member-index member c.loop-member.invariant.0
          c.loop-member-test.true few c.deref_mut-member-items.type_inv.1,
    )

pub loop-member-preserved : goal.loop-member-preserved
loop-member-preserved c =
    let none : Member = record { group = 0; run = record { 0 = 0 } } in
    let holders = c.args.holders.now in
    let half = half_of holders c.args.relevant in
    let old = c.deref_mut-member-items.result.now in
    let members = c.loop-member.member-items in
    let at = c.loop-member.member-index in
    let was = c.loop-member.invariant in
    let next = c.loop-member.next in
    let further = c.holder_from-next.result in
    let passed = c.holder_from-next.ensures.passed in
    let run : RunId = (get_or members at none).run in
    let run_is : run ≡ (get_or old at none).run = ap member_run (item_left half old members at was.0 none c.loop-member-test.true) in
    let by_run : AreMembersByRun old = subst AreMembersByRun (sym c.deref_mut-member-items.ensures.value) c.requires.by_run in
    let kept : KeepsFrom run holders (drop next holders) =
    subst (λ r. KeepsFrom r holders (drop next holders)) (sym run_is) (was.1 at none (omega arith) c.loop-member-test.true) in (
      one_more half old members at was.0 none _ c.loop-member-test.true
          (half_is holders c.args.relevant (get_or members at none) c.from.result c.is_at.result
          (c.is_at.ensures ∙ among-is holders next further run passed kept) c.from.ensures),
      more-passed holders old at next further run none by_run c.loop-member-test.true run_is passed was.1,
    )

pub returns-clause-halves : goal.returns-clause-halves
returns-clause-halves c =
    all_changed (half_of c.args.holders.now c.args.relevant) c.deref_mut-member-items.result.now c.loop-member.member-items
    c.loop-member.member-index c.loop-member.invariant.0 c.args.members.now.items c.args.members.now.len
    (omega (arith, c.loop-member-test.false)) c.deref_mut-member-items.ensures.value c.args.members.now.ok.0
