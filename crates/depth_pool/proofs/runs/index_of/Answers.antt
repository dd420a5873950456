use Rattle.std.proofs.Common.{◌≡◌, rules}
use Rattle.std.specs.Ordering.{nat_cmp}
use Rattle.std.proofs.lemmas.Fn.{always_returns_same}
use Rattle.depth_pool.specs.Holdings.{Held}
use Rattle.depth_pool.proofs.Search.{found_at, found_nowhere}
use Rattle.depth_pool.proofs.runs.index_of.Goals as goal

pub returns-in-Ok : goal.returns-in-Ok
returns-in-Ok c =
    found_at c.args.run c.args.runs.now c.in-Ok.index c.requires c.in-Ok.ensures.bound
    (c.in-Ok.ensures.position (λ (held : Held). nat_cmp held.run.0 c.args.run.0)
    (always_returns_same _ (λ a r. r ≡ nat_cmp a.0.now.run.0 c.args.run.0) _ (λ a r f' called. (search rules, search rules))))

pub returns-in-Err : goal.returns-in-Err
returns-in-Err c =
    found_nowhere c.args.run c.args.runs.now c.in-Err.field-0 c.requires
    (c.in-Err.ensures.position (λ (held : Held). nat_cmp held.run.0 c.args.run.0)
    (always_returns_same _ (λ a r. r ≡ nat_cmp a.0.now.run.0 c.args.run.0) _ (λ a r f' called. (search rules, search rules))))
