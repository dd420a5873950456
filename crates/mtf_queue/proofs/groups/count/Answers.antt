use Rattle.std.proofs.Common.{◌≡◌, ◌+◌, ◌-◌, ◌*◌, ◌<◌, ◌++◌, ◌∙◌, [], arith, ap, cond, get_or, is_ok, length, replicate, subst, sym, take, take_all, vec_len}
use Rattle.std.proofs.lemmas.List.{length-set}
use Rattle.mtf_queue.specs.declared.groups.Member.{Member}
use Rattle.mtf_queue.specs.Groups.{AreSizes}
use Rattle.mtf_queue.proofs.GroupNumbers.{more-counted, none-counted}
use Rattle.mtf_queue.proofs.groups.count.Goals as goal

pub unwrap-requires : goal.unwrap-requires
unwrap-requires c = c.resize.ensures.succeeds (omega (arith, c.requires.room, c.clear.ensures.capacity))

pub loop-member-init : goal.loop-member-init
loop-member-init c =
    let n = 2 * length c.args.members.now in
    let cleared = c.clear.new.self in
    let more = n - vec_len cleared in
    let sizes = c.resize.new.self.items in
    let made = c.resize.ensures.items ∙ ap (λ b. cond b (take n cleared.items ++ replicate more 0) cleared.items) (ap is_ok c.unwrap.ensures) in
    let zeros : sizes ≡ replicate more 0 = made ∙ ap (λ list. take n list ++ replicate more 0) c.clear.ensures.items
    ∙ ap (λ list. list ++ replicate more 0) (take_all n [] (omega arith)) in
    let long : vec_len c.resize.new.self ≡ n = c.resize.ensures.len ∙ ap (λ b. cond b n (vec_len cleared)) (ap is_ok c.unwrap.ensures) in (
      subst (λ list. AreSizes list []) (sym zeros) (none-counted more),
      omega (arith, long, c.resize.new.self.ok.0),
      omega arith,
    )

pub loop-member-preserved : goal.loop-member-preserved
loop-member-preserved c =
    let none : Member = record { group = 0; run = record { 0 = 0 } } in
    let members = c.args.members.now in
    let sizes = c.loop-member.sizes.items in
    let at = c.loop-member.member-index in
    let was = c.loop-member.invariant in
    let size = c.index_mut.result.now in
    let group = (get_or members at none).group in
    let within : group < length sizes = omega (arith, was.1, c.requires.within at none c.loop-member-test.true) in (
      more-counted sizes members at none size c.loop-member-test.true within c.index_mut.ensures.value was.0,
      length-set sizes group (size + 1) ∙ was.1,
      was.2,
    )
