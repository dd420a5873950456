use Rattle.std.proofs.Common.{◌+◌, ◌<◌, ◌++◌, Bool, Some, arith, sym, ap, ◌∙◌, length, set, take, vec_capacity, is_ok, cond, ◌∷◌, []}
use mathlib.Core.Bool.{beq}
use Rattle.depth_pool.specs.Holdings.{has_id}
use Rattle.depth_pool.specs.declared.runs.RunId.{RunId}
use Rattle.mtf_queue.specs.Rule.{is_first_side}
use Rattle.mtf_queue.proofs.GroupMoves.{all_moved, first_from_test, moved_at, moved_behind, moved_front}
use Rattle.mtf_queue.proofs.moves.move_group.Goals as goal
use Rattle.mtf_queue.proofs.moves.move_group.Goals.{then-is_first, else-is_first}

pub unwrap-requires : goal.unwrap-requires
unwrap-requires c =
    let few = c.loop-at.invariant.0.within in
    c.push.ensures.succeeds (omega (arith, few, c.loop-at.behind.ok.0, c.loop-at.invariant.1, c.loop-at.invariant.2, c.loop-at-test.true))

pub loop-at-preserved : goal.loop-at-preserved
loop-at-preserved c =
    let run = c.index-run.result.now in
    let old = c.args.order.now.items in
    let first : RunId → Bool = λ r. is_first_side (Some c.args.relevant) (has_id r c.args.holders.now) in
    let was = c.loop-at.invariant.0 in
    let here : c.loop-at.at < length c.loop-at.order.items = omega (arith, was.len, c.loop-at.invariant.2, c.loop-at-test.true) in
    elim c.if-is_first.branch [
      | then-is_first w ↦ (
        moved_at first old (set c.loop-at.order.items c.loop-at.front run) c.loop-at.behind.items (c.loop-at.at + 1)
            (c.loop-at.front + 1) _ _ _ (ap (λ v. v.items) w.order-is) (ap (λ v. v.items) w.behind-is) w.front-is
            (moved_front first old c.loop-at.order.items c.loop-at.behind.items c.loop-at.at c.loop-at.front run was here c.index-run.ensures
            (first_from_test _ _ _ (sym (ap (λ b. beq b c.args.relevant) c.is_among.ensures) ∙ w.if-is_first.true))),
        omega (arith, ap vec_capacity w.behind-is, c.loop-at.invariant.1),
        c.loop-at.invariant.2,
      )
      | else-is_first w ↦ (
        moved_at first old c.loop-at.order.items (c.loop-at.behind.items ++ run ∷ []) (c.loop-at.at + 1) c.loop-at.front _ _ _ (ap (λ v. v.items) w.order-is)
            (ap (λ v. v.items) w.behind-is ∙ w.push.ensures.items
            ∙ ap (λ b. cond b (c.loop-at.behind.items ++ run ∷ []) c.loop-at.behind.items) (ap is_ok w.unwrap.ensures)) w.front-is
            (moved_behind first old c.loop-at.order.items c.loop-at.behind.items c.loop-at.at c.loop-at.front run was here c.index-run.ensures
            (first_from_test _ _ _ (sym (ap (λ b. beq b c.args.relevant) c.is_among.ensures) ∙ w.if-is_first.false))),
        omega (arith, ap vec_capacity w.behind-is, w.push.ensures.capacity, c.loop-at.invariant.1),
        c.loop-at.invariant.2,
      )
    ]

pub unwrap-requires-2 : goal.unwrap-requires-2
unwrap-requires-2 c =
    let was = c.loop-at.invariant.0 in
    c.extend_from_slice.ensures.succeeds
    (omega (
      arith,
      was.within,
      was.len,
      c.loop-at.order.ok,
      c.loop-at.invariant.2,
      c.loop-at-test.false,
      c.truncate.ensures.len,
      c.truncate.ensures.capacity,
      c.as_slice.ensures.len,
      c.loop-at.behind.ok.0,
    ))

pub returns : goal.returns
returns c =
    let first : RunId → Bool = λ r. is_first_side (Some c.args.relevant) (has_id r c.args.holders.now) in
    let front = take c.loop-at.front c.loop-at.order.items in
    c.extend_from_slice.ensures.items
    ∙ ap (λ b. cond b (c.truncate.new.self.items ++ c.as_slice.result.now) c.truncate.new.self.items) (ap is_ok c.unwrap-2.ensures)
    ∙ ap (λ runs. runs ++ c.as_slice.result.now) c.truncate.ensures.items
    ∙ ap (λ runs. front ++ runs) c.as_slice.ensures.value
    ∙ all_moved first c.args.order.now.items c.loop-at.order.items c.loop-at.behind.items c.loop-at.at c.loop-at.front c.loop-at.invariant.0
    (omega (arith, c.loop-at.invariant.2, c.loop-at-test.false))
