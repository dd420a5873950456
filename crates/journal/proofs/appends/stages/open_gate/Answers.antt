-- The gate opened in front of a frame.
use Rattle.std.proofs.Common.{[], ◌∷◌, inl}
use Rattle.std.proofs.lemmas.Result.{on_ok_weaker}
use Rattle.journal.specs.Format.{payload_behind}
use Rattle.journal.specs.KeptRecords.{HoldsRecords}
use Rattle.journal.proofs.Steps.{ends_closed, gate_reads, moments_of, opened, shut_reads, staged_torn}
use Rattle.journal.proofs.appends.stages.open_gate.Goals as goal

pub returns-clause-done : goal.returns-clause-done
returns-clause-done g c = on_ok_weaker c.write_through.result
    (λ done all bytes frame kept. opened (g.D.Disk.seen c.args.disk.now).images
    (g.D.Disk.seen c.write_through.new.disk).images c.args.place all bytes frame kept done) c.write_through.ensures.done

pub returns-clause-closed : goal.returns-clause-closed
returns-clause-closed g c = on_ok_weaker c.write_through.result
    (λ done all bytes frame kept. ends_closed (g.D.Disk.seen c.args.disk.now).images
    (g.D.Disk.seen c.write_through.new.disk).images c.args.place all bytes frame kept done) c.write_through.ensures.done

pub returns-clause-left : goal.returns-clause-left
returns-clause-left g c all bytes frame kept =
    staged_torn (g.D.Disk.seen c.args.disk.now).images
    (g.D.Disk.seen c.write_through.new.disk).images c.args.place all bytes frame kept c.write_through.ensures.crash

pub returns-clause-any_moment : goal.returns-clause-any_moment
returns-clause-any_moment g c all bytes frame kept =
    let images = (g.D.Disk.seen c.args.disk.now).images in
    let pending = payload_behind bytes ∷ [] in
    moments_of g.D.Disk.seen c.args.disk.now c.write_through.new.disk _ images (HoldsRecords all pending)
    (λ image here. inl (shut_reads images c.args.place all _ kept image here))
    (λ after follows. gate_reads after c.args.place all pending (staged_torn images after c.args.place all bytes frame kept follows))
    c.write_through.ensures.any_moment
