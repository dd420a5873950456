use Rattle.std.proofs.Common.{◌≡◌, ◌∙◌, arith, ap, length, map, subst, sym}
use Rattle.std.specs.List.{AllPairs}
use Rattle.std.specs.List.Sorted.{IsPermutation}
use Rattle.std.proofs.lemmas.List.{length-map}
use Rattle.std.proofs.lemmas.List.Sorted.{All-permutation, length_permutation}
use Rattle.depth_pool.specs.Holdings.{pool_holds}
use Rattle.mtf_queue.specs.Groups.{first_group, member_run}
use Rattle.mtf_queue.specs.Rule.{IsBefore}
use Rattle.mtf_queue.proofs.GroupOrder.{first_groups, pairs_of_runs, runs_of_pairs, sorted_runs}
use Rattle.mtf_queue.proofs.OrderedQueues.{Differ, differ_permuted}
use Rattle.mtf_queue.proofs.groups.sort_by_rule.Goals as goal

pub cut_groups-requires-clause-one_group : goal.cut_groups-requires-clause-one_group
cut_groups-requires-clause-one_group c =
    All-permutation (λ member. member.group ≡ 0) (map first_group c.as_slice.result.now) c.put_in_one_group.new.members.items c.put_in_one_group.ensures.runs
    (first_groups c.as_slice.result.now)

pub cut_groups-requires-clause-room : goal.cut_groups-requires-clause-room
cut_groups-requires-clause-room c =
    let order = c.as_slice.result.now in
    let put = c.put_in_one_group.new.members in
    omega (
      arith,
      length_permutation (map first_group order) put.items c.put_in_one_group.ensures.runs,
      length-map order first_group,
      ap length c.as_slice.ensures.value,
      c.args.order.now.ok.0,
      put.ok.0,
      c.requires.room_for_sizes,
    )

pub take_runs-requires : goal.take_runs-requires
take_runs-requires c =
    let order = c.args.order.now.items in
    let members = c.cut_groups.new.members.items in
    let permuted =
    sorted_runs order c.as_slice.result.now c.put_in_one_group.new.members.items members c.as_slice.ensures.value
    c.put_in_one_group.ensures.runs c.cut_groups.ensures.runs in
    omega (
      arith,
      length_permutation order (map member_run members) permuted,
      length-map members member_run,
      ap length c.as_slice-2.ensures.value,
      c.args.order.now.ok.0,
    )

pub returns-clause-runs : goal.returns-clause-runs
returns-clause-runs c =
    let order = c.args.order.now.items in
    let members = c.cut_groups.new.members.items in
    subst (IsPermutation order) (sym (c.take_runs.ensures ∙ ap (map member_run) c.as_slice-2.ensures.value))
    (sorted_runs order c.as_slice.result.now c.put_in_one_group.new.members.items members c.as_slice.ensures.value
    c.put_in_one_group.ensures.runs c.cut_groups.ensures.runs)

pub returns-clause-pairwise : goal.returns-clause-pairwise
returns-clause-pairwise c = λ differ.
    let order = c.args.order.now.items in
    let members = c.cut_groups.new.members.items in
    let before = IsBefore (pool_holds c.args.pool.now.runs) c.args.trail.now in
    let permuted =
    sorted_runs order c.as_slice.result.now c.put_in_one_group.new.members.items members c.as_slice.ensures.value
    c.put_in_one_group.ensures.runs c.cut_groups.ensures.runs in
    subst (AllPairs before) (sym (c.take_runs.ensures ∙ ap (map member_run) c.as_slice-2.ensures.value))
    (runs_of_pairs before members
    (c.cut_groups.ensures.pairwise (pairs_of_runs Differ members (differ_permuted order (map member_run members) permuted differ))))

pub returns-clause-len : goal.returns-clause-len
returns-clause-len c =
    let order = c.args.order.now.items in
    let members = c.cut_groups.new.members.items in
    let permuted =
    sorted_runs order c.as_slice.result.now c.put_in_one_group.new.members.items members c.as_slice.ensures.value
    c.put_in_one_group.ensures.runs c.cut_groups.ensures.runs in
    omega (
      arith,
      length_permutation order (map member_run members) permuted,
      ap length (c.take_runs.ensures ∙ ap (map member_run) c.as_slice-2.ensures.value),
      c.args.order.now.ok.0,
      c.take_runs.new.order.ok.0,
    )
