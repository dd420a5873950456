use Rattle.std.proofs.Common.{◌≡◌, subst}
use Rattle.depth_pool.specs.Holdings.{Holdings, has_doc, pool_docs, pool_holds}
use Rattle.depth_pool.proofs.ByNumber.{docs_held}
use Rattle.depth_pool.proofs.pools.Pool.doc_at.Goals as goal

pub returns-clause-each : goal.returns-clause-each
returns-clause-each g c = λ doc.
    subst (λ (view : Holdings). has_doc doc (pool_docs view.runs c.args.run) ≡ pool_holds view.runs c.args.run doc) c.self.view_is
    (docs_held c.args.run c.self.inside.runs.items doc c.self.invariant.0.by_number)
