use Rattle.std.proofs.Common.{◌≡◌, ◌∙◌, ◌+◌, ◌-◌, length, ap, sym, cond, subst, arith}
use Rattle.decimal_rank.specs.declared.naming.DocId.{DocId}
use Rattle.depth_pool.specs.Holdings.{Holdings, KeepsOthers, AreByNumber, IsCount, has_doc, holders_of, some_run_holds, without_run}
use Rattle.depth_pool.specs.Index.{held_docs, holders_at, without_holder}
use Rattle.depth_pool.proofs.Counts.{count_before, count_held, runs_counted}
use Rattle.depth_pool.proofs.Holders.{by_number-without_run, holders_left, others-without_run}
use Rattle.depth_pool.proofs.pools.Pool.drop_run.Goals as goal

pub overflow_sub-self : goal.overflow_sub-self
overflow_sub-self c =
    let pool = c.self.invariant.0 in
    let had = count_before c.self.inside.runs.items c.self.inside.index c.remove_holders-fewer.new.index pool.holders
    c.len-before.ensures.ordered c.len-after.ensures.ordered _ _ c.remove_holders-fewer.ensures.count pool.count in
    omega arith

pub invariant_of-self : goal.invariant_of-self
invariant_of-self c =
    let runs = c.self.inside.runs.items in
    let run = c.args.run in
    let pool = c.self.invariant.0 in
    let holders : (doc : DocId) → holders_at c.remove_holders-fewer.new.index doc ≡ holders_of doc c.take_run-docs.new.runs.items = λ doc.
    c.remove_holders-fewer.ensures.holders doc
    ∙ ap (λ holders. cond (has_doc doc c.as_slice.result.now) (without_holder run holders) holders) (pool.holders doc)
    ∙ holders_left doc run runs (has_doc doc c.as_slice.result.now) (ap (has_doc doc) c.as_slice.ensures.value ∙ c.take_run-docs.ensures.docs doc)
    ∙ ap (holders_of doc) (sym c.take_run-docs.ensures.runs) in
    let index = c.remove_holders-fewer.new.index in
    let had : c.self.inside.held_docs ≡ length (held_docs index.entries) + c.remove_holders-fewer.result =
    count_before runs c.self.inside.index index pool.holders c.len-before.ensures.ordered c.len-after.ensures.ordered
    _ _ c.remove_holders-fewer.ensures.count pool.count in (
      record {
        by_number = subst AreByNumber (sym c.take_run-docs.ensures.runs) (by_number-without_run run runs pool.by_number);
        holders = holders;
        count =
            subst (IsCount (λ doc. some_run_holds doc c.take_run-docs.new.runs.items))
            (let left : length (held_docs index.entries) ≡ c.self.inside.held_docs - c.remove_holders-fewer.result = omega arith in left)
            (runs_counted c.take_run-docs.new.runs.items c.remove_holders-fewer.new.index holders _
            (count_held c.remove_holders-fewer.new.index c.len-after.ensures.ordered));
      },
      λ docs is.
          let room = c.self.invariant.1 docs is in (
            record { distinct = room.0.distinct; room = λ k d h. c.remove_holders-fewer.ensures.rooms _ (room.0.room k d h) },
            omega (arith, room.1, c.take_run-docs.ensures.len, c.take_run-docs.ensures.capacity),
          ),
    )

pub returns-clause-others : goal.returns-clause-others
returns-clause-others c =
    let was : c.self.inside.runs.items ≡ c.args.self.now.runs = ap (λ (pool : Holdings). pool.runs) c.self.view_is in
    subst (λ runs. KeepsOthers c.args.self.now.runs runs c.args.run) (sym (c.take_run-docs.ensures.runs ∙ ap (without_run c.args.run) was))
    (others-without_run c.args.run c.args.self.now.runs)
