use Rattle.record_codec.proofs.EntryParts.{doubles_short}
use Rattle.record_codec.proofs.spelling.put_rules.Goals as goal

pub put_items-requires-clause-plain : goal.put_items-requires-clause-plain
put_items-requires-clause-plain c = doubles_short c.args.rules.now c.requires
