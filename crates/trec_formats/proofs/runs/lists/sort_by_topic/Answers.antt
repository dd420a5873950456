use Rattle.std.proofs.Common.{◌≡◌, ap, rules}
use Rattle.std.specs.Cmp.Lexicographic.{slice_cmp}
use Rattle.std.specs.Ordering.{is_lt, nat_cmp}
use Rattle.std.proofs.lemmas.Fn.{always_returns_same}
use Rattle.trec_formats.specs.RunFormat.PackedRuns.{text_in, line_in}
use Rattle.trec_formats.proofs.RankedLists.TopicOrder.{line_lt, line_lt_order, sorted_by_topic}
use Rattle.trec_formats.proofs.runs.lists.sort_by_topic.Goals as goal

pub returns : goal.returns
returns c =
    let bytes = c.args.bytes.now in
    let lt = line_lt (line_in bytes) in
    let order = line_lt_order (line_in bytes) in
    sorted_by_topic (line_in bytes) c.args.lines.now.items c.sort_by.new.self.items c.sort_by.ensures.permutation
    (c.in_ok-sort_by.ensures.sorted lt order
    (always_returns_same _ (λ a r. is_lt r ≡ lt a.0.now a.1.0.now) _
    (λ a r f' q. (let e : r ≡ slice_cmp nat_cmp (text_in bytes a.0.now.topic) (text_in bytes a.1.0.now.topic) = search rules in ap is_lt e, search rules))))
    (c.sort_by.ensures.stable lt order
    (always_returns_same _ (λ a r. is_lt r ≡ lt a.0.now a.1.0.now) _
    (λ a r f' q. (let e : r ≡ slice_cmp nat_cmp (text_in bytes a.0.now.topic) (text_in bytes a.1.0.now.topic) = search rules in ap is_lt e, search rules))))
