-- What stands behind the closed gate cut off.
use Rattle.std.proofs.Common.{inl}
use Rattle.std.proofs.lemmas.Result.{on_ok_weaker}
use Rattle.journal.specs.KeptRecords.{HoldsRecords}
use Rattle.journal.proofs.Steps.{cut_at_closed, cut_behind, moments_of, shut_reads, trimmed}
use Rattle.journal.proofs.appends.stages.trim.Goals as goal

pub returns-clause-done : goal.returns-clause-done
returns-clause-done g c = on_ok_weaker c.cut_through.result
    (λ done all kept. trimmed (g.D.Disk.seen c.args.disk.now).images (g.D.Disk.seen c.cut_through.new.disk).images c.args.place all kept done)
    c.cut_through.ensures.done

pub returns-clause-closed : goal.returns-clause-closed
returns-clause-closed g c = on_ok_weaker c.cut_through.result
    (cut_at_closed (g.D.Disk.seen c.args.disk.now).images (g.D.Disk.seen c.cut_through.new.disk).images c.args.place) c.cut_through.ensures.done

pub returns-clause-left : goal.returns-clause-left
returns-clause-left g c all kept =
    cut_behind (g.D.Disk.seen c.args.disk.now).images (g.D.Disk.seen c.cut_through.new.disk).images c.args.place all kept c.cut_through.ensures.crash

pub returns-clause-any_moment : goal.returns-clause-any_moment
returns-clause-any_moment g c all pending kept =
    let images = (g.D.Disk.seen c.args.disk.now).images in
    moments_of g.D.Disk.seen c.args.disk.now c.cut_through.new.disk _ images (HoldsRecords all pending)
    (λ image here. inl (shut_reads images c.args.place all _ kept image here))
    (λ after follows image here. inl (shut_reads after c.args.place all _ (cut_behind images after c.args.place all kept follows) image here))
    c.cut_through.ensures.any_moment
