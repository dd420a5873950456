-- What the calls do to the disk, as the trait asks it.
use Rattle.std.proofs.Common.{length}
use Rattle.disk_model.specs.declared.disk_calls.DiskCall.TheVariants.{Len, Read, Write, Cut, Sync}
use Rattle.disk_model.proofs.MemoryDisks.{alone_then, cause_of, content_stays, cut_content, cut_crash, no_further, time_of, written_content, written_crash}
use Rattle.disk_model.proofs.memory_disk.MemoryDiskDisk.TheImpl.Goals as goal

pub len-tells : goal.len-tells
len-tells c = record {
  told = c.ensures.told;
  content = rw c.ensures.after (content_stays c.args.self.now Len tt c.result);
  crash = rw c.ensures.after (no_further c.args.self.now Len tt c.result);
  time = rw c.ensures.after (time_of c.args.self.now Len c.result);
  cause = rw c.ensures.after (cause_of c.args.self.now Len c.result);
}

pub read-tells : goal.read-tells
read-tells c =
    let call = Read c.args.place (length c.args.out.now) in
    record {
      told = c.ensures.told;
      content = rw c.ensures.after (content_stays c.args.self.now call tt c.result);
      crash = rw c.ensures.after (no_further c.args.self.now call tt c.result);
      time = rw c.ensures.after (time_of c.args.self.now call c.result);
      cause = rw c.ensures.after (cause_of c.args.self.now call c.result);
    }

pub write_at-tells : goal.write_at-tells
write_at-tells c =
    let call = Write c.args.place c.args.piece.now in
    record {
      content = rw c.ensures.after (written_content c.args.self.now c.args.place c.args.piece.now c.result);
      crash = rw c.ensures.after (written_crash c.args.self.now c.args.place c.args.piece.now c.result c.requires.within);
      time = rw c.ensures.after (time_of c.args.self.now call c.result);
      cause = rw c.ensures.after (cause_of c.args.self.now call c.result);
    }

pub cut-tells : goal.cut-tells
cut-tells c = record {
  content = rw c.ensures.after (cut_content c.args.self.now c.args.to c.result);
  crash = rw c.ensures.after (cut_crash c.args.self.now c.args.to c.result);
  time = rw c.ensures.after (time_of c.args.self.now (Cut c.args.to) c.result);
  cause = rw c.ensures.after (cause_of c.args.self.now (Cut c.args.to) c.result);
}

pub sync-tells : goal.sync-tells
sync-tells c = record {
  alone = rw c.ensures.after (alone_then c.args.self.now c.result);
  content = rw c.ensures.after (content_stays c.args.self.now Sync tt c.result);
  crash = rw c.ensures.after (no_further c.args.self.now Sync tt c.result);
  time = rw c.ensures.after (time_of c.args.self.now Sync c.result);
  cause = rw c.ensures.after (cause_of c.args.self.now Sync c.result);
}
