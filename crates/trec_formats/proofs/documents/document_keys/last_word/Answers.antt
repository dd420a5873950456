use Rattle.std.proofs.Common.{length, arith}
use Rattle.std.proofs.lemmas.Bool.{le-leb, le-ltb, lt-leb, lt-ltb}
use Rattle.trec_formats.specs.DocnoKeys.{last_word}
use Rattle.trec_formats.proofs.documents.document_keys.last_word.Goals as goal

pub returns-then-len-ge4 : goal.returns-then-len-ge4
unfolding last_word
returns-then-len-ge4 c = rw (c.word_at.ensures, le-leb 4 (length c.args.bytes.now) c.if-len-ge4.true)

pub returns-then-len-eq0 : goal.returns-then-len-eq0
unfolding last_word
returns-then-len-eq0 c = rw (lt-leb 4 (length c.args.bytes.now) c.if-len-ge4.false, le-ltb 0 (length c.args.bytes.now) (omega (arith, c.if-len-eq0.true)))

pub returns : goal.returns
unfolding last_word
returns c = rw (
  c.from_le_bytes.ensures,
  lt-leb 4 (length c.args.bytes.now) c.if-len-ge4.false,
  lt-ltb 0 (length c.args.bytes.now) (omega (arith, c.if-len-eq0.false)),
)
