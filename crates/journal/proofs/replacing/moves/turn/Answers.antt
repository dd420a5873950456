-- The records at the place count.
use Rattle.std.proofs.Common.{arith}
use Rattle.std.proofs.lemmas.Result.{on_ok_weaker}
use Rattle.journal.specs.MovedAreas.{IsPlaced}
use Rattle.journal.proofs.Phases.{alike_reaches, turned_after, turning_moments}
use Rattle.journal.proofs.replacing.moves.turn.Goals as goal

pub write_through-requires-clause-within : goal.write_through-requires-clause-within
write_through-requires-clause-within g c =
    let placed = c.requires.placed in
    alike_reaches (g.D.Disk.seen c.args.disk.now).images (IsPlaced c.args.place placed.0 placed.1) 8
    (λ bytes has. omega (arith, has.0.0.within, has.0.0.room)) placed.2

pub returns-clause-turned : goal.returns-clause-turned
returns-clause-turned g c = on_ok_weaker c.write_through.result
    (λ done old all placed. turned_after (g.D.Disk.seen c.args.disk.now).images
    (g.D.Disk.seen c.write_through.new.disk).images c.args.place all old placed done) c.write_through.ensures.done

pub returns-clause-any_moment : goal.returns-clause-any_moment
returns-clause-any_moment g c old all placed =
    turning_moments g.D.Disk.seen c.args.disk.now c.write_through.new.disk
    (g.D.Disk.seen c.args.disk.now).images c.args.place old all placed c.write_through.ensures.any_moment
