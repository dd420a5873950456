-- A frame behind the closed gate.
use Rattle.std.proofs.Common.{length, inl}
use Rattle.std.proofs.lemmas.Result.{on_ok_weaker}
use Rattle.journal.specs.KeptRecords.{HoldsRecords}
use Rattle.journal.proofs.Steps.{moments_of, shut_is_cut, shut_reads, staged, torn_behind}
use Rattle.journal.proofs.appends.stages.stage.Goals as goal

pub returns-clause-done : goal.returns-clause-done
returns-clause-done g c = on_ok_weaker c.write_through.result
    (λ done all kept. staged (g.D.Disk.seen c.args.disk.now).images (g.D.Disk.seen c.write_through.new.disk).images c.args.place all c.args.bytes.now kept done)
    c.write_through.ensures.done

pub returns-clause-left : goal.returns-clause-left
returns-clause-left g c all kept =
    torn_behind (g.D.Disk.seen c.args.disk.now).images (g.D.Disk.seen c.write_through.new.disk).images c.args.place all
    (length c.args.bytes.now) (shut_is_cut (g.D.Disk.seen c.args.disk.now).images c.args.place all _ kept) c.write_through.ensures.crash

pub returns-clause-any_moment : goal.returns-clause-any_moment
returns-clause-any_moment g c all pending kept =
    let images = (g.D.Disk.seen c.args.disk.now).images in
    moments_of g.D.Disk.seen c.args.disk.now c.write_through.new.disk _ images (HoldsRecords all pending)
    (λ image here. inl (shut_reads images c.args.place all _ kept image here))
    (λ after follows image here. inl
    (shut_reads after c.args.place all _
    (torn_behind images after c.args.place all (length c.args.bytes.now) (shut_is_cut images c.args.place all _ kept) follows) image here))
    c.write_through.ensures.any_moment
