-- The new records are written behind the header.
use Rattle.std.proofs.Common.{arith}
use Rattle.std.proofs.lemmas.Result.{on_ok_weaker}
use Rattle.journal.specs.MovedAreas.{IsTurned}
use Rattle.journal.proofs.MovedRecords.{area_size}
use Rattle.journal.proofs.Phases.{alike_reaches, moved_after, moving_moments}
use Rattle.journal.proofs.replacing.moves.put_behind_header.Goals as goal

pub write_through-requires-clause-within : goal.write_through-requires-clause-within
write_through-requires-clause-within g c =
    let turned = c.requires.turned in
    alike_reaches (g.D.Disk.seen c.args.disk.now).images (IsTurned turned.0 turned.1) 16 (λ bytes has. omega (arith, has.0.within, has.0.room)) turned.2

pub write_through-requires-clause-room : goal.write_through-requires-clause-room
write_through-requires-clause-room g c =
    let turned = c.requires.turned in
    omega (arith, area_size c.args.area.now turned.1 turned.3, turned.2.has.0.room, turned.4)

pub returns-clause-moved : goal.returns-clause-moved
returns-clause-moved g c = on_ok_weaker c.write_through.result
    (λ done place all turned is_area. moved_after (g.D.Disk.seen c.args.disk.now).images
    (g.D.Disk.seen c.write_through.new.disk).images place all c.args.area.now is_area turned done) c.write_through.ensures.done

pub returns-clause-any_moment : goal.returns-clause-any_moment
returns-clause-any_moment g c place all turned is_area =
    moving_moments g.D.Disk.seen c.args.disk.now c.write_through.new.disk
    (g.D.Disk.seen c.args.disk.now).images place all all c.args.area.now is_area turned c.write_through.ensures.any_moment
