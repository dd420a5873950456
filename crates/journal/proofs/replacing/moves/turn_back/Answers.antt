-- The records behind the header count again.
use Rattle.std.proofs.Common.{arith}
use Rattle.std.proofs.lemmas.Result.{on_ok_weaker}
use Rattle.journal.specs.MovedAreas.{IsMoved}
use Rattle.journal.proofs.Phases.{alike_reaches, back_after, turning_back_moments}
use Rattle.journal.proofs.replacing.moves.turn_back.Goals as goal

pub write_through-requires-clause-within : goal.write_through-requires-clause-within
write_through-requires-clause-within g c =
    let moved = c.requires.moved in
    alike_reaches (g.D.Disk.seen c.args.disk.now).images (IsMoved moved.0 moved.1) 8
    (λ bytes has. omega (arith, has.turned.0.within, has.turned.0.room)) moved.2

pub returns-clause-back : goal.returns-clause-back
returns-clause-back g c = on_ok_weaker c.write_through.result
    (λ done place all moved. back_after (g.D.Disk.seen c.args.disk.now).images (g.D.Disk.seen c.write_through.new.disk).images place all moved done)
    c.write_through.ensures.done

pub returns-clause-any_moment : goal.returns-clause-any_moment
returns-clause-any_moment g c place all moved =
    turning_back_moments g.D.Disk.seen c.args.disk.now c.write_through.new.disk
    (g.D.Disk.seen c.args.disk.now).images place all all moved c.write_through.ensures.any_moment
