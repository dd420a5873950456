use Rattle.std.proofs.Common.{arith, sym}
use Rattle.std.proofs.lemmas.List.{append-nil}
use Rattle.drill.specs.Texts.{line}
use Rattle.drill.proofs.Counts.{written-all, written-more}
use Rattle.drill.proofs.texts.write_list.Goals as goal

pub loop-before-init : goal.loop-before-init
loop-before-init c = sym (append-nil c.args.out.now.items)

pub loop-before-preserved : goal.loop-before-preserved
loop-before-preserved c =
    written-more c.args.out.now.items c.loop-before.out.items c.write_line.new.out.items c.loop-before.before
    (line c.args.numbers.now c.args.r c.args.t) c.loop-before.invariant c.in_ok-write_line.ensures

pub returns : goal.returns
returns c =
    written-all c.args.out.now.items c.loop-before.out.items c.loop-before.before c.args.numbers.now.docs
    (line c.args.numbers.now c.args.r c.args.t) c.loop-before.invariant
    (omega (arith, c.loop-before-test.false, c.loop-before.auto.before-end))
