use Rattle.campaign_cli.proofs.MemoryForms.{appends_write, cause_of_write, whole_some, whole_within}
use Rattle.campaign_cli.proofs.surroundings.memory_sink.MemorySinkOutput.TheImpl.Goals as goal

pub write-tells : goal.write-tells
write-tells c = record {
  bound = whole_within c.args.piece.now c.result c.ensures.whole;
  some = whole_some c.args.piece.now c.result c.ensures.whole;
  bytes = rw c.ensures.after (appends_write c.args.self.now c.args.piece.now c.result c.ensures.whole);
  cause = rw c.ensures.after (cause_of_write c.args.self.now c.args.piece.now c.result);
  kept = tt;
}
