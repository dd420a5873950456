use Rattle.std.proofs.Common.{ap, ◌≡◌, rules, le_of_lt}
use Rattle.std.specs.Ordering.{is_lt}
use Rattle.std.proofs.lemmas.Fn.{always_returns_same}
use Rattle.std.proofs.lemmas.List.Sorted.{sorted_far, IsPermutation-map}
use denote.Ref.{Bor}
use Rattle.decimal_rank.specs.Rankings.Ranks.{standing_cmp}
use Rattle.trec_formats.specs.declared.runs.packed_runs.PackedLine.{PackedLine}
use Rattle.trec_formats.specs.RunFormat.Lists.{standing}
use Rattle.trec_formats.specs.RunFormat.PackedRuns.{line_in}
use Rattle.trec_formats.proofs.RankedLists.RankOrder.{lent_shown, order_shown, rank_order}
use Rattle.trec_formats.proofs.runs.lists.by_rank.Goals as goal

pub returns : goal.returns
returns c =
    let bytes = c.args.bytes.now in
    let items = c.sort_unstable_by.new.self.items in
    let lt = λ (a b : Bor PackedLine). is_lt (standing_cmp (standing (line_in bytes b.now)) (standing (line_in bytes a.now))) in
    let order = rank_order bytes c.decimals_have_an_order.ensures in
    let sorted =
    c.sort_unstable_by.ensures.sorted lt order
    (always_returns_same _ (λ a r. is_lt r ≡ lt a.0.now a.1.0.now) _ (λ a r f' q. (ap is_lt (search rules), search rules))) in
    record {
      same = rw (← lent_shown bytes _ _ c.in_ok-order.ensures)
          (IsPermutation-map (λ (line : Bor PackedLine). line_in bytes line.now) _ _ c.sort_unstable_by.ensures.permutation);
      ranked = order_shown bytes (λ a b. is_lt (standing_cmp (standing a) (standing b))) items
          (λ i j d less within. sorted_far lt order items sorted i j d (le_of_lt less) within);
    }
