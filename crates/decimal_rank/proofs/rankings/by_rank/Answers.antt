use Rattle.std.proofs.Common.{sym, ap, ◌∙◌, ◌≡◌, map, rules, subst, le_of_lt}
use Rattle.std.specs.List.Sorted.{IsPermutation}
use Rattle.std.specs.Ordering.{is_lt}
use Rattle.std.proofs.lemmas.Fn.{always_returns_same}
use Rattle.std.proofs.lemmas.List.Sorted.{sorted_far, IsPermutation-map}
use Rattle.std.proofs.lemmas.Result.{IfOk-weaker}
use denote.Ref.{Bor}
use Rattle.decimal_rank.specs.declared.rankings.Scored.{Scored}
use Rattle.decimal_rank.specs.Rankings.Ranks.{standing_cmp, standing_of, IsRanking}
use Rattle.decimal_rank.proofs.Standings.StandingOrder.{ranked_by_sort, order_now, IsStrictWeakOrder-standing, docs_now}
use Rattle.decimal_rank.proofs.rankings.by_rank.Goals as goal

pub returns : goal.returns
returns c =
    let names = c.args.names.now in
    let items = c.sort_unstable_by.new.self.items in
    let sorted_lines = map (λ (line : Bor Scored). line.now) items in
    let lt = λ (a b : Bor Scored). is_lt (standing_cmp (standing_of names b.now) (standing_of names a.now)) in
    let sorted =
    c.sort_unstable_by.ensures.sorted lt (IsStrictWeakOrder-standing names)
    (always_returns_same _ (λ a r. is_lt r ≡ lt a.0.now a.1.0.now) _ (λ a r f' q. (ap is_lt (search rules), search rules))) in
    let perm : IsPermutation c.args.lines.now sorted_lines =
    rw (← c.in_ok-order.ensures) (IsPermutation-map (λ line. line.now) _ _ c.sort_unstable_by.ensures.permutation) in
    let order = order_now (λ a b. is_lt (standing_cmp (standing_of names a) (standing_of names b))) items
    (λ i j d h l. sorted_far lt (IsStrictWeakOrder-standing names) items sorted i j d (le_of_lt h) l) in
    let ranking = ranked_by_sort names c.args.lines.now sorted_lines c.requires.docs c.len.ensures.distinct c.requires.distinct perm order in
    IfOk-weaker c.docs_of.result (λ docs. docs.items ≡ map (λ line. line.now.doc) c.deref.result.now) _
    (λ docs e. subst (IsRanking names c.args.lines.now) (sym (e ∙ ap (map (λ line. line.now.doc)) c.deref.ensures.value ∙ docs_now items)) ranking)
    c.docs_of.ensures
