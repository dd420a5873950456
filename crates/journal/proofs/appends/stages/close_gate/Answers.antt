-- A gate closed that may be open or missing.
use Rattle.std.proofs.lemmas.Result.{on_ok_weaker}
use Rattle.journal.specs.KeptRecords.{HoldsRecords}
use Rattle.journal.proofs.Steps.{closes_at, gate_closed, gate_reads, gate_torn, moments_of}
use Rattle.journal.proofs.appends.stages.close_gate.Goals as goal

pub returns-clause-done : goal.returns-clause-done
returns-clause-done g c = on_ok_weaker c.write_through.result
    (λ done all pending kept. gate_closed (g.D.Disk.seen c.args.disk.now).images
    (g.D.Disk.seen c.write_through.new.disk).images c.args.place all pending kept done) c.write_through.ensures.done

pub returns-clause-closed : goal.returns-clause-closed
returns-clause-closed g c = on_ok_weaker c.write_through.result
    (λ done all pending kept. closes_at (g.D.Disk.seen c.args.disk.now).images
    (g.D.Disk.seen c.write_through.new.disk).images c.args.place all pending kept done) c.write_through.ensures.done

pub returns-clause-left : goal.returns-clause-left
returns-clause-left g c all pending kept =
    gate_torn (g.D.Disk.seen c.args.disk.now).images (g.D.Disk.seen c.write_through.new.disk).images c.args.place all pending kept c.write_through.ensures.crash

pub returns-clause-any_moment : goal.returns-clause-any_moment
returns-clause-any_moment g c all pending kept =
    let images = (g.D.Disk.seen c.args.disk.now).images in
    moments_of g.D.Disk.seen c.args.disk.now c.write_through.new.disk _ images (HoldsRecords all pending)
    (gate_reads images c.args.place all pending kept)
    (λ after follows. gate_reads after c.args.place all pending (gate_torn images after c.args.place all pending kept follows))
    c.write_through.ensures.any_moment
