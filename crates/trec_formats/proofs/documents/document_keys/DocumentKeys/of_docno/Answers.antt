use Rattle.std.proofs.Common.{length}
use Rattle.std.proofs.lemmas.Bool.{le-leb, lt-leb}
use Rattle.trec_formats.specs.DocnoKeys.{docno_key}
use Rattle.trec_formats.proofs.documents.document_keys.DocumentKeys.of_docno.Goals as goal

pub returns-then-docno-gt-MOST_BYTES : goal.returns-then-docno-gt-MOST_BYTES
unfolding docno_key
returns-then-docno-gt-MOST_BYTES c = rw (c.key_of.ensures, lt-leb (length c.args.docno.now) 64 c.if-docno-gt-MOST_BYTES.true)

pub returns : goal.returns
unfolding docno_key
returns c = rw (c.sum_of.ensures, c.last_word.ensures, le-leb (length c.args.docno.now) 64 c.if-docno-gt-MOST_BYTES.false)
