use Rattle.std.proofs.Common.{◌∙◌}
use Rattle.trec_formats.proofs.qrels.read_qrels.Goals as goal

pub returns-clause-lines : goal.returns-clause-lines
returns-clause-lines c = rw (c.in_ok-owned.ensures ∙ c.lines.ensures) c.in_ok-table.ensures.lines
