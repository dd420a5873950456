use Rattle.std.proofs.Common.{arith, sym}
use Rattle.std.proofs.lemmas.List.{append-nil}
use Rattle.drill.specs.Texts.{list_text}
use Rattle.drill.proofs.Counts.{written-all, written-more}
use Rattle.drill.proofs.texts.write_run.Goals as goal

pub loop-before-init : goal.loop-before-init
loop-before-init c = sym (append-nil c.args.out.now.items)

pub loop-before-preserved : goal.loop-before-preserved
loop-before-preserved c =
    written-more c.args.out.now.items c.loop-before.out.items c.write_list.new.out.items c.loop-before.before
    (list_text c.args.numbers.now c.args.r) c.loop-before.invariant c.in_ok-write_list.ensures

pub returns : goal.returns
returns c =
    written-all c.args.out.now.items c.loop-before.out.items c.loop-before.before c.args.numbers.now.topics
    (list_text c.args.numbers.now c.args.r) c.loop-before.invariant
    (omega (arith, c.loop-before-test.false, c.loop-before.auto.before-end))
