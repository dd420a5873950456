use Rattle.std.proofs.Common.{◌<◌, ◌∙◌, ap, sym, subst, nat_lt, take}
use Rattle.std.specs.List.{All}
use Rattle.std.proofs.lemmas.List.Elements.{All-take}
use Rattle.decimal_rank.specs.declared.naming.DocId.{DocId}
use Rattle.depth_pool.specs.Holdings.{Held, with_run}
use Rattle.depth_pool.proofs.Lists.{all_put}
use Rattle.judging_tests.proofs.topic_pools.submit.Goals as goal

pub returns-clause-named : goal.returns-clause-named
returns-clause-named c =
    let small = λ (doc : DocId). doc.0 < 6 in
    let named = λ (held : Held). All small held.docs in
    let docs = take c.reserve.new.self.depth c.in_ok-ranking.ranking in
    let new : Held = record { run = c.args.run; docs = docs } in
    subst (All named) (sym (c.add_run.ensures.runs ∙ ap (with_run new) c.reserve.ensures.runs))
    (all_put named (λ other. nat_lt c.args.run.0 other.run.0) new c.args.pool.now.runs
    (All-take small c.reserve.new.self.depth c.in_ok-ranking.ranking c.in_ok-ranking.ensures) c.requires.named)
