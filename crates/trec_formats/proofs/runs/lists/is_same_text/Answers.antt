use Rattle.std.proofs.Common.{sym}
use Rattle.std.proofs.lemmas.Cmp.{nat_list_eq_equiv}
use Rattle.trec_formats.specs.RunFormat.PackedRuns.{text_in}
use Rattle.trec_formats.proofs.runs.lists.is_same_text.Goals as goal

pub returns-then-is_one_span : goal.returns-then-is_one_span
returns-then-is_one_span c = rw (c.is_one_span.ensures c.if-is_one_span.true) (sym (nat_list_eq_equiv.refl (text_in c.args.bytes.now c.args.b)))
