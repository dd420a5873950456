use Rattle.std.proofs.Common.{◌≡◌, ◌<◌, ◌∙◌, List, [], ap, sym, subst, rules}
use Rattle.std.specs.List.{AllPairs}
use Rattle.depth_pool.specs.Holdings.{has_id, holders_of}
use Rattle.depth_pool.specs.declared.runs.RunId.{RunId}
use Rattle.depth_pool.proofs.Holders.{holders_ascend, holds_among}
use Rattle.depth_pool.proofs.pools.Pool.holders.Goals as goal

pub returns-in-Some-clause-each : goal.returns-in-Some-clause-each
returns-in-Some-clause-each g c = λ run.
    let value : c.as_slice.result.now ≡ holders_of c.args.doc c.args.self.now.runs = search rules in
    ap (has_id run) value ∙ holds_among c.args.doc run c.args.self.now.runs

pub returns-in-None-clause-each : goal.returns-in-None-clause-each
returns-in-None-clause-each g c = λ run.
    let none : List RunId = [] in
    let value : none ≡ holders_of c.args.doc c.args.self.now.runs = search rules in
    ap (has_id run) value ∙ holds_among c.args.doc run c.args.self.now.runs

pub returns-in-Some-clause-ascending : goal.returns-in-Some-clause-ascending
returns-in-Some-clause-ascending g c =
    let value : c.as_slice.result.now ≡ holders_of c.args.doc c.self.inside.runs.items = search rules in
    subst (AllPairs (λ (a b : RunId). a.0 < b.0)) (sym value) (holders_ascend c.args.doc c.self.inside.runs.items c.self.invariant.0.by_number)
