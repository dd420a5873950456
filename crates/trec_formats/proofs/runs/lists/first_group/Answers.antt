use Rattle.std.proofs.Common.{◌∙◌, ap, get_or, length, refl, unwrap_or}
use Rattle.trec_formats.specs.RunFormat.PackedRuns.{text_in, line_in}
use Rattle.trec_formats.proofs.RankedLists.TopicGroups.{first_group_is}
use Rattle.trec_formats.proofs.runs.lists.first_group.Goals as goal

pub returns : goal.returns
returns c =
    let bytes = c.args.bytes.now in
    first_group_is (line_in bytes) c.args.lines.now c.index-lines-0.result
    (text_in bytes (get_or c.args.lines.now 0 c.index-lines-0.result).topic) _ c.requires refl
    (c.unwrap_or-end.ensures ∙ ap (λ o. unwrap_or o (length c.args.lines.now)) c.first_other.ensures)
