use Rattle.std.proofs.lemmas.Result.{IfOk-weaker}
use Rattle.trec_formats.specs.RunFormat.PackedRuns.{lines_in}
use Rattle.trec_formats.proofs.RankedLists.RankOrder.{ranked_docs}
use Rattle.trec_formats.proofs.runs.lists.ranked.Goals as goal

pub returns : goal.returns
returns c =
    IfOk-weaker c.docnos_of.result _ _ (λ docs is.
    ranked_docs c.args.bytes.now (lines_in c.args.bytes.now c.args.lines.now) c.in_ok-order.order.items c.as_slice.result.now
    docs c.decimals_have_an_order.ensures c.requires c.in_ok-order.ensures c.as_slice.ensures.value is) c.docnos_of.ensures
