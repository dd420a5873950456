use Rattle.std.proofs.Common.{◌∙◌, sym, ap, map}
use Rattle.std.proofs.lemmas.List.{take_all}
use Rattle.trec_formats.specs.RunFormat.PackedRuns.{text_in}
use Rattle.trec_formats.proofs.RankedLists.RankOrder.{docs_shown}
use Rattle.trec_formats.proofs.runs.lists.docnos_of.Goals as goal

pub returns : goal.returns
returns c =
    c.shrink_to_fit.ensures ∙ c.loop-line.invariant
    ∙ ap (map (λ line. text_in c.args.bytes.now line.now.doc)) (take_all _ c.args.order.now c.loop-line-test.false)
    ∙ sym (docs_shown c.args.bytes.now c.args.order.now)
