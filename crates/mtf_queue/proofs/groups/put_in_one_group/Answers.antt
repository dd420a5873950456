use Rattle.std.proofs.Common.{◌≡◌, map, subst}
use Rattle.std.specs.List.Sorted.{IsPermutation}
use Rattle.std.proofs.lemmas.List.Sorted.{All-permutation}
use Rattle.mtf_queue.specs.Groups.{first_group}
use Rattle.mtf_queue.proofs.GroupOrder.{first_groups, sorted_by_run, sorted_pairs}
use Rattle.mtf_queue.proofs.groups.put_in_one_group.Goals as goal

pub returns-clause-runs : goal.returns-clause-runs
returns-clause-runs c = subst (λ filled. IsPermutation filled c.sort_unstable.new.self.items) c.fill.ensures.runs c.sort_unstable.ensures.permutation

pub returns-clause-by_run : goal.returns-clause-by_run
returns-clause-by_run c =
    let order = c.args.order.now in
    let members = c.sort_unstable.new.self.items in
    let permuted : IsPermutation (map first_group order) members =
    subst (λ filled. IsPermutation filled members) c.fill.ensures.runs c.sort_unstable.ensures.permutation in
    sorted_by_run members (All-permutation (λ member. member.group ≡ 0) (map first_group order) members permuted (first_groups order))
    (sorted_pairs members c.sort_unstable.ensures.sorted)
