use Rattle.std.proofs.Common.{sym, ◌∙◌, rules}
use Rattle.trec_formats.specs.RunFormat.PackedRuns.{line_in}
use Rattle.trec_formats.proofs.RankedLists.RankOrder.{equal_scores, unequal_scores}
use Rattle.trec_formats.proofs.runs.lists.compare.Goals as goal

pub returns-in-Equal : goal.returns-in-Equal
returns-in-Equal c =
    equal_scores (line_in c.args.bytes.now c.args.a.now) (line_in c.args.bytes.now c.args.b.now) c.cmp.result
    (sym c.compare.ensures ∙ c.in-Equal.is) (search rules)

pub returns-in_default : goal.returns-in_default
returns-in_default c =
    unequal_scores (line_in c.args.bytes.now c.args.a.now) (line_in c.args.bytes.now c.args.b.now) c.compare.result c.compare.ensures c.in_default.not-Equal
