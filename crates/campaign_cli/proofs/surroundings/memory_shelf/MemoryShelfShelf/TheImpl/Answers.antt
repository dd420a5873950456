use Rattle.std.proofs.Common.{refl}
use Rattle.campaign_cli.proofs.MemoryForms.{count_more_rose, follows_read}
use Rattle.campaign_cli.proofs.surroundings.memory_shelf.MemoryShelfShelf.TheImpl.Goals as goal

pub read_file-tells : goal.read_file-tells
read_file-tells c = record {
  follows = rw c.ensures.after (follows_read c.args.self.now c.result);
  bytes = c.ensures.bytes;
  lacks = c.ensures.lacks;
  missed = λ absent. rw (c.ensures.after, absent) (count_more_rose _);
  no_fault = λ absent. rw (c.ensures.after, absent) refl;
  failed = λ failed. rw (c.ensures.after, failed) (count_more_rose _);
  no_miss = λ failed. rw (c.ensures.after, failed) refl;
}
