use Rattle.std.proofs.Common.{refl}
use Rattle.release_archive.specs.Keepers.{with_added}
use Rattle.release_archive.proofs.CallCounts.{failed-call, later-call, leaves-added}
use Rattle.release_archive.proofs.memory_keeper.MemoryKeeperKeeper.TheImpl.Goals as goal

pub find-tells : goal.find-tells
find-tells c = record {
  found = c.ensures.found;
  archive = c.ensures.archive;
  same = rw c.ensures.after refl;
  later = rw c.ensures.after (later-call c.args.self.now c.args.self.now.releases);
  failed = λ failed. rw c.ensures.after (failed-call c.args.self.now c.args.self.now.releases (c.ensures.failed.0 failed));
}

pub add-tells : goal.add-tells
add-tells c =
    let releases = with_added c.args.self.now.releases c.args.kept.now c.result in
    record {
      added = rw c.ensures.after (leaves-added c.args.self.now.releases c.args.kept.now c.result);
      archive = c.ensures.archive;
      later = rw c.ensures.after (later-call c.args.self.now releases);
      failed = λ failed. rw c.ensures.after (failed-call c.args.self.now releases (c.ensures.failed.0 failed));
    }

pub all-tells : goal.all-tells
all-tells c = record {
  all = c.ensures.all;
  archive = c.ensures.archive;
  same = rw c.ensures.after refl;
  later = rw c.ensures.after (later-call c.args.self.now c.args.self.now.releases);
  failed = λ failed. rw c.ensures.after (failed-call c.args.self.now c.args.self.now.releases (c.ensures.failed.0 failed));
}
