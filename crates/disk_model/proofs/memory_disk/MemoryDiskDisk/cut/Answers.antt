-- A crash may leave all that is torn of an image from before.
use Rattle.std.proofs.Common.{ap, ◌∙◌}
use Rattle.disk_model.specs.declared.disk_calls.DiskCall.TheVariants.{Cut}
use Rattle.disk_model.specs.MemoryDisks.{MemoryDiskState, with_call}
use Rattle.disk_model.proofs.MemoryDisks.{short_left}
use Rattle.disk_model.proofs.memory_disk.MemoryDiskDisk.cut.Goals as goal

pub returns-in-Ok-clause-torn : goal.returns-in-Ok-clause-torn
returns-in-Ok-clause-torn c =
    let held = c.args.self.now.held in
    let call = Cut c.args.to in
    let now = c.in-Ok.ensures.ok ∙ ap (λ (disk : MemoryDiskState). with_call disk.held call) c.self.view_is in
    rw now (short_left held c.args.to)
