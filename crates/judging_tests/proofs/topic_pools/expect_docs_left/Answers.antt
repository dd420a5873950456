use Rattle.std.proofs.Common.{◌<◌, sym, subst, arith, eqb, not}
use Rattle.std.specs.List.{All}
use Rattle.std.proofs.lemmas.List.Elements.{All-filter}
use Rattle.decimal_rank.specs.declared.naming.DocId.{DocId}
use Rattle.depth_pool.specs.Holdings.{Held}
use Rattle.judging_tests.proofs.topic_pools.expect_docs_left.Goals as goal

pub are_docs-requires-2 : goal.are_docs-requires-2
are_docs-requires-2 g c =
    let named = λ (held : Held). All (λ (doc : DocId). doc.0 < 6) held.docs in
    let left : All named c.drop_run.new.self.runs =
    subst (All named) (sym c.drop_run.ensures.runs)
    (All-filter (λ (held : Held). not (eqb held.run.0 c.args.dropped.0)) named c.args.pool.now.runs c.requires.named) in
    record { named = λ k d h k' d' h'. let low = left k d h k' d' h' in omega arith }
