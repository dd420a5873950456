use Rattle.std.proofs.Common.{◌≡◌, ◌++◌, ◌∷◌, [], Bool, Some, cond, is_ok, arith, length, sym, ap, subst, ◌∙◌}
use Rattle.std.specs.List.Sorted.{IsPermutation}
use Rattle.std.proofs.lemmas.List.Sorted.{length_permutation}
use Rattle.depth_pool.specs.Holdings.{has_id, pool_holds}
use Rattle.depth_pool.specs.declared.runs.RunId.{RunId}
use Rattle.mtf_queue.specs.QueueView.{QueueView}
use Rattle.mtf_queue.specs.Rule.{IsInOrder, moved_runs}
use Rattle.mtf_queue.specs.declared.rule.Judged.{Judged}
use Rattle.mtf_queue.proofs.OrderedQueues.{in_order_judged, moved_alike, runs_moved}
use Rattle.mtf_queue.proofs.queues.Queue.judge.Goals as goal

pub returns-clause-runs : goal.returns-clause-runs
returns-clause-runs g c =
    let runs = c.args.pool.now.runs in
    let order = c.self.inside.order.items in
    let after = c.move_group.new.order.items in
    let is : after ≡ moved_runs (λ run. pool_holds runs run c.args.doc) c.args.relevant order =
    c.move_group.ensures
    ∙ moved_alike (λ run. has_id run c.holders-holders.result.now)
    (λ run. pool_holds runs run c.args.doc) c.args.relevant order c.holders-holders.ensures.each in
    let permuted : IsPermutation order after = subst (IsPermutation order) (sym is) (runs_moved (pool_holds runs) c.args.doc c.args.relevant order) in
    subst (λ (queue : QueueView). IsPermutation queue.order after) c.self.view_is permuted

pub returns-clause-in_order : goal.returns-clause-in_order
returns-clause-in_order g c =
    let runs = c.args.pool.now.runs in
    let trail = c.self.inside.trail.items in
    let order = c.self.inside.order.items in
    let judged : Judged = record { doc = c.args.doc; relevant = Some c.args.relevant } in
    let before : IsInOrder runs trail order = subst (λ (queue : QueueView). IsInOrder runs queue.trail queue.order) (sym c.self.view_is) c.requires.in_order in
    let longer : c.push.new.self.items ≡ trail ++ judged ∷ [] =
    c.push.ensures.items ∙ ap (λ b. cond b (trail ++ judged ∷ []) trail) (ap is_ok c.unwrap.ensures) in
    let after = moved_runs (λ run. pool_holds runs run c.args.doc) c.args.relevant order in
    let is : c.move_group.new.order.items ≡ after =
    c.move_group.ensures
    ∙ moved_alike (λ run. has_id run c.holders-holders.result.now)
    (λ run. pool_holds runs run c.args.doc) c.args.relevant order c.holders-holders.ensures.each in
    subst (IsInOrder runs c.push.new.self.items) (sym is)
    (subst (λ t. IsInOrder runs t after) (sym longer) (in_order_judged runs trail c.args.doc c.args.relevant order before))

pub invariant_of-self : goal.invariant_of-self
invariant_of-self g c =
    let order = c.self.inside.order.items in
    let relevant = c.args.relevant in
    let is_holder : RunId → Bool = λ run. has_id run c.holders-holders.result.now in
    omega (
      arith,
      c.self.invariant,
      length_permutation order (moved_runs is_holder relevant order)
          (runs_moved (λ run doc. is_holder run) c.args.doc relevant order),
      ap length c.move_group.ensures,
      c.move_group.new.order.ok.0,
      c.self.inside.order.ok.0,
    )
