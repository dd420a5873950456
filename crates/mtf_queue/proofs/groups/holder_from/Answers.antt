use Rattle.std.proofs.Common.{◌∙◌, arith, drop, length, subst, sym}
use Rattle.std.proofs.lemmas.List.{drop_all}
use Rattle.depth_pool.specs.declared.runs.RunId.{RunId}
use Rattle.mtf_queue.specs.Groups.{KeepsFrom}
use Rattle.mtf_queue.proofs.HolderWalks.{ahead-from, keeps-past, none-ahead}
use Rattle.mtf_queue.proofs.groups.holder_from.Goals as goal

pub loop-index-preserved : goal.loop-index-preserved
loop-index-preserved c =
    let none : RunId = record { 0 = 0 } in
    let holders = c.args.holders.now in
    keeps-past holders (drop c.args.from holders) c.loop-index.index none c.args.run c.loop-index-test.true c.if-run-holders.false c.loop-index.invariant

pub returns-then-run-holders-clause-ahead : goal.returns-then-run-holders-clause-ahead
returns-then-run-holders-clause-ahead c =
    let none : RunId = record { 0 = 0 } in
    ahead-from c.args.holders.now c.loop-index.index none c.args.run c.requires.ascending c.loop-index-test.true c.if-run-holders.true

pub returns-clause-passed : goal.returns-clause-passed
returns-clause-passed c =
    let holders = c.args.holders.now in
    subst (KeepsFrom c.args.run (drop c.args.from holders))
    (drop_all c.loop-index.index holders c.loop-index-test.false ∙ sym (drop_all (length holders) holders (omega arith))) c.loop-index.invariant

pub returns-clause-ahead : goal.returns-clause-ahead
returns-clause-ahead c =
    let holders = c.args.holders.now in
    none-ahead holders c.args.run (drop (length holders) holders) (drop_all (length holders) holders (omega arith))
