use Rattle.std.proofs.Common.{◌≡◌, ◌∷◌, cond, is_ok, sym, ap, subst, ◌∙◌}
use Rattle.std.specs.List.{AllPairs, insert}
use Rattle.std.specs.List.Sorted.{IsPermutation}
use Rattle.std.proofs.lemmas.List.Sorted.{IsPermutation-insert}
use Rattle.depth_pool.specs.Holdings.{pool_holds}
use Rattle.mtf_queue.specs.QueueView.{QueueView}
use Rattle.mtf_queue.specs.Rule.{IsBefore, IsInOrder}
use Rattle.mtf_queue.proofs.OrderedQueues.{in_order_entered}
use Rattle.mtf_queue.proofs.queues.Queue.enter.Goals as goal

pub returns-clause-runs : goal.returns-clause-runs
returns-clause-runs c =
    let order = c.self.inside.order.items in
    let run = c.args.run in
    let place = c.place_of-place.result in
    let after = c.insert.new.self.items in
    let inserted : after ≡ insert order place run = c.insert.ensures.items ∙ ap (λ b. cond b (insert order place run) order) (ap is_ok c.unwrap.ensures) in
    subst (λ (queue : QueueView). IsPermutation (run ∷ queue.order) after) c.self.view_is
    (subst (IsPermutation (run ∷ order)) (sym inserted) (IsPermutation-insert order place run))

pub returns-clause-in_order : goal.returns-clause-in_order
returns-clause-in_order c =
    let runs = c.args.pool.now.runs in
    let held = pool_holds runs in
    let trail = c.self.inside.trail.items in
    let order = c.self.inside.order.items in
    let run = c.args.run in
    let place = c.place_of-place.result in
    let before : IsInOrder runs trail order = subst (λ (queue : QueueView). IsInOrder runs queue.trail queue.order) (sym c.self.view_is) c.requires.in_order in
    let inserted : c.insert.new.self.items ≡ insert order place run =
    c.insert.ensures.items ∙ ap (λ b. cond b (insert order place run) order) (ap is_ok c.unwrap.ensures) in
    let placed : AllPairs (IsBefore held trail) (insert order place run) =
    subst (λ runs_now. AllPairs (IsBefore held trail) (insert runs_now place run)) c.as_slice.ensures.value
    (subst (λ trail_now. AllPairs (IsBefore held trail_now) (insert c.as_slice.result.now place run))
    c.as_slice-2.ensures.value c.place_of-place.ensures.in_order) in
    subst (IsInOrder runs trail) (sym inserted) (in_order_entered runs trail order run place c.requires.in_pool before placed)
