use Rattle.std.proofs.Common.{◌≡◌, ◌∙◌, ap, arith, sym, subst, cond, false, Some, None}
use Rattle.decimal_rank.specs.declared.naming.DocId.{DocId}
use Rattle.depth_pool.specs.Holdings.{Holdings, Held, AreByNumber, KeepsOthers, has_doc, has_run, holders_of, with_run}
use Rattle.depth_pool.specs.Index.{with_holder, holders_at}
use Rattle.depth_pool.proofs.Counts.{few_held, held_counted, index_counted, runs_counted}
use Rattle.depth_pool.proofs.Holders.{by_number-with_run, holders-with_run, in_with_run, others-with_run}
use Rattle.depth_pool.proofs.pools.Pool.add_run.Goals as goal

pub overflow_add-self : goal.overflow_add-self
overflow_add-self c =
    let pool = c.self.invariant.0 in
    let counted = c.add_holders-more.ensures.count _ (index_counted c.self.inside.runs.items c.self.inside.index pool.holders _ pool.count) in
    let same = held_counted c.add_holders-more.new.index c.len-entries.ensures.ordered _ counted in
    let few = few_held c.add_holders-more.new.index.entries in
    omega (arith, c.len-entries.ensures.len, c.len-entries.ensures.small)

pub invariant_of-self : goal.invariant_of-self
invariant_of-self c =
    let runs = c.self.inside.runs.items in
    let run = c.args.run in
    let pool = c.self.invariant.0 in
    let new : Held = record { run = run; docs = c.in-Some.docs.items } in
    let fresh : has_run run runs ≡ false = ap (λ (view : Holdings). has_run run view.runs) c.self.view_is ∙ c.requires.is_new in
    let holders : (doc : DocId) → holders_at c.add_holders-more.new.index doc ≡ holders_of doc c.put_run.new.runs.items = λ doc.
    c.add_holders-more.ensures.holders doc
    ∙ ap (λ docs. cond (has_doc doc docs) (with_holder run (holders_at c.self.inside.index doc)) (holders_at c.self.inside.index doc)) c.as_slice.ensures.value
    ∙ ap (λ holders. cond (has_doc doc c.in-Some.docs.items) (with_holder run holders) holders) (pool.holders doc)
    ∙ sym (holders-with_run doc new runs pool.by_number)
    ∙ ap (holders_of doc) (sym c.put_run.ensures) in (
      record {
        by_number = subst AreByNumber (sym c.put_run.ensures) (by_number-with_run new runs pool.by_number fresh);
        holders = holders;
        count = runs_counted c.put_run.new.runs.items c.add_holders-more.new.index holders _
            (c.add_holders-more.ensures.count _ (index_counted runs c.self.inside.index pool.holders _ pool.count));
      },
      λ docs is. absurd (let none : None ≡ Some docs = sym c.take.ensures.after ∙ is in cc),
    )

pub returns-in-Some-clause-is_in : goal.returns-in-Some-clause-is_in
returns-in-Some-clause-is_in c =
    let new : Held = record { run = c.args.run; docs = c.in-Some.docs.items } in
    ap (has_run c.args.run) c.put_run.ensures ∙ in_with_run new c.self.inside.runs.items

pub returns-in-Some-clause-others : goal.returns-in-Some-clause-others
returns-in-Some-clause-others c =
    let new : Held = record { run = c.args.run; docs = c.in-Some.docs.items } in
    let was : c.self.inside.runs.items ≡ c.args.self.now.runs = ap (λ (view : Holdings). view.runs) c.self.view_is in
    subst (λ runs. KeepsOthers c.args.self.now.runs runs c.args.run) (sym (c.put_run.ensures ∙ ap (with_run new) was))
    (others-with_run new c.args.self.now.runs)
