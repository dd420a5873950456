use Rattle.record_codec.proofs.EntryParts.{docs_short}
use Rattle.record_codec.proofs.spelling.TopicListSpelled.put.Goals as goal

pub put_docnos-requires-clause-plain : goal.put_docnos-requires-clause-plain
put_docnos-requires-clause-plain c = docs_short c.args.self.now c.requires
