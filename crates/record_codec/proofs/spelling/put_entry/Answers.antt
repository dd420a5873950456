use Rattle.record_codec.proofs.EntryParts.{command_plain}
use Rattle.record_codec.proofs.spelling.put_entry.Goals as goal

pub put_command-requires : goal.put_command-requires
put_command-requires c = command_plain c.args.core.now c.requires
