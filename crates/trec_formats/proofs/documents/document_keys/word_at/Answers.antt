use Rattle.trec_formats.specs.DocnoKeys.{word_at}
use Rattle.trec_formats.proofs.documents.document_keys.word_at.Goals as goal

pub returns : goal.returns
unfolding word_at
returns c = c.from_le_bytes.ensures
