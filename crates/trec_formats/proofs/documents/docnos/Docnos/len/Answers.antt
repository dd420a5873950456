use Rattle.std.proofs.Common.{ap, arith, length}
use Rattle.trec_formats.proofs.RankedLists.KeptDocnos.{parts_count}
use Rattle.trec_formats.proofs.documents.docnos.Docnos.len.Goals as goal

pub returns : goal.returns
returns c = omega (arith, c.len.ensures, c.self.inside.ends.ok.0, parts_count 0 c.self.inside.ends.items c.self.inside.bytes.items, ap length c.self.view_is)
