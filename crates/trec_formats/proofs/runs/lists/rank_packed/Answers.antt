use Rattle.trec_formats.specs.RunFormat.Groups.{AreByTopic}
use Rattle.trec_formats.specs.RunFormat.PackedRuns.{lines_in}
use Rattle.trec_formats.proofs.RankedLists.GroupLists.{distinct_carry, lists_carry}
use Rattle.trec_formats.proofs.runs.lists.rank_packed.Goals as goal

pub lists_of-requires-clause-distinct : goal.lists_of-requires-clause-distinct
lists_of-requires-clause-distinct c =
    let bytes = c.args.run.bytes.items in
    let sorted : AreByTopic (lines_in bytes c.args.run.lines.items) (lines_in bytes c.sort_by_topic.new.lines.items) =
    rw c.as_slice-3.ensures.value at c.in_ok-sort_by_topic.ensures in
    rw c.as_slice-4.ensures.value
    (distinct_carry _ _ sorted (rw (c.as_slice.ensures.value, c.as_slice-2.ensures.value) at c.in_ok-check_distinct.ensures.distinct))

pub returns-clause-lists : goal.returns-clause-lists
returns-clause-lists c =
    let bytes = c.args.run.bytes.items in
    let sorted : AreByTopic (lines_in bytes c.args.run.lines.items) (lines_in bytes c.sort_by_topic.new.lines.items) =
    rw c.as_slice-3.ensures.value at c.in_ok-sort_by_topic.ensures in
    lists_carry _ _ _ sorted (rw c.as_slice-4.ensures.value at c.in_ok-lists_of.ensures)
