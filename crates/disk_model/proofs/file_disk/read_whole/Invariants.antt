-- What is done is within the bytes.
use Rattle.std.proofs.Common.{◌≤◌, length}
use Rattle.disk_model.proofs.file_disk.read_whole.Given as goal

abbrev pub invariant-loop : goal.invariant-loop
invariant-loop l = l.done ≤ length l.out
