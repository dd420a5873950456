-- What a crash may leave is what the calls allow.
use Rattle.std.proofs.Common.{◌≡◌, List, rules, subst, sym}
use Rattle.disk_model.specs.declared.disk_calls.DiskCall.{DiskCall}
use Rattle.disk_model.specs.Calls.{AreImagesOf}
use Rattle.disk_model.specs.MemoryDisks.{told_by}
use Rattle.disk_model.proofs.Images.{images_are}
use Rattle.disk_model.proofs.memory_disk.MemoryDisk.calls.Goals as goal

pub returns-clause-images : goal.returns-clause-images
returns-clause-images c =
    let disk = c.args.self.now in
    let same : c.calls.result.now ≡ disk.held.calls = search rules in
    subst (λ (calls : List DiskCall). AreImagesOf calls (told_by disk)) (sym same) (images_are disk.held.calls disk.held.start disk.faults)
