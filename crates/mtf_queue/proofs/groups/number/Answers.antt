use Rattle.std.proofs.Common.{◌≡◌, ◌<◌, ◌*◌, ◌∙◌, arith, ap, length, map, subst, sym}
use Rattle.std.specs.List.{All}
use Rattle.mtf_queue.specs.Groups.{AreSizes, AreSumsBefore, member_run}
use Rattle.mtf_queue.proofs.GroupNumbers.{alike-numbered, apart-numbered, few-numbered, not-more, runs_numbered}
use Rattle.mtf_queue.proofs.groups.number.Goals.{After-as_slice-2}
use Rattle.mtf_queue.proofs.groups.number.Goals as goal

pub count-requires-clause-within : goal.count-requires-clause-within
count-requires-clause-within c = subst (λ list. All (λ member. member.group < 2 * length list) list) (sym c.as_slice.ensures.value) c.requires.within

pub add_up-largest-requires : goal.add_up-largest-requires
add_up-largest-requires c = omega (arith, c.count.ensures.sizes.total, c.as_slice.type_inv.1)

are_sizes : (c : After-as_slice-2) → AreSizes c.count.new.sizes.items c.args.members.now.items
are_sizes c = subst (AreSizes c.count.new.sizes.items) c.as_slice.ensures.value c.count.ensures.sizes

sums_before : (c : After-as_slice-2) → AreSumsBefore c.count.new.sizes.items c.as_slice-2.result.now
sums_before c = subst (AreSumsBefore c.count.new.sizes.items) (sym c.as_slice-2.ensures.value) c.add_up-largest.ensures.sums

long : (c : After-as_slice-2) → length c.count.new.sizes.items ≡ 2 * length c.args.members.now.items
long c = omega (arith, c.count.new.sizes.ok.0, c.count.ensures.len, ap length c.as_slice.ensures.value)

within : (c : After-as_slice-2) → All (λ member. member.group < length c.count.new.sizes.items) c.args.members.now.items
within c = subst (λ n. All (λ member. member.group < n) c.args.members.now.items) (sym (long c)) c.requires.within

pub put_numbers-requires : goal.put_numbers-requires
put_numbers-requires c =
    let as_long : length c.as_slice-2.result.now ≡ length c.count.new.sizes.items =
    omega (arith, ap length c.as_slice-2.ensures.value, c.add_up-largest.ensures.len, c.add_up-largest.new.sizes.ok.0, c.count.new.sizes.ok.0) in
    subst (λ n. All (λ member. member.group < n) c.args.members.now.items) (sym as_long) (within c)

pub returns-clause-runs : goal.returns-clause-runs
returns-clause-runs c = ap (map member_run) c.put_numbers.ensures.numbered ∙ runs_numbered c.as_slice-2.result.now c.args.members.now.items

pub returns-clause-alike : goal.returns-clause-alike
returns-clause-alike c =
    let at = (goal.at.returns-clause-alike c).After-as_slice-2 in
    alike-numbered c.count.new.sizes.items c.as_slice-2.result.now c.args.members.now.items (are_sizes at) (sums_before at)
    (within at) c.put_numbers.new.members.items c.put_numbers.ensures.numbered

pub returns-clause-few : goal.returns-clause-few
returns-clause-few c =
    let at = (goal.at.returns-clause-few c).After-as_slice-2 in
    few-numbered c.count.new.sizes.items c.as_slice-2.result.now c.args.members.now.items (are_sizes at) (sums_before at)
    (within at) c.put_numbers.new.members.items c.put_numbers.ensures.numbered

pub returns-clause-told_apart : goal.returns-clause-told_apart
returns-clause-told_apart c = λ none.
    let at = (goal.at.returns-clause-told_apart c).After-as_slice-2 in
    apart-numbered c.count.new.sizes.items c.as_slice-2.result.now c.args.members.now.items (are_sizes at) (sums_before at)
    (within at) c.add_up-largest.result c.add_up-largest.ensures.largest
    (not-more c.add_up-largest.result none) c.put_numbers.new.members.items c.put_numbers.ensures.numbered
