use Rattle.trec_formats.specs.Lines.{is_line_feed}
use Rattle.trec_formats.proofs.LineTexts.FirstBytes.{first_is_position}
use Rattle.trec_formats.proofs.lines.line_feed.Goals as goal

pub returns : goal.returns
returns c = first_is_position is_line_feed c.args.text.now c.memchr.result c.memchr.ensures
