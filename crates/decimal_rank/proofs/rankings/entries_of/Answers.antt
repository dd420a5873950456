use Rattle.std.proofs.Common.{rules}
use Rattle.std.proofs.lemmas.List.Sorted.{IsNonDecreasingBy-from_sort_by_key}
use Rattle.decimal_rank.proofs.rankings.entries_of.Goals as goal

pub returns : goal.returns
returns c = record {
  same = rw (← c.in_ok-entries.ensures) c.sort_unstable_by_key.ensures.permutation;
  sorted = IsNonDecreasingBy-from_sort_by_key (λ entry. entry.doc) _ c.sort_unstable_by_key.ensures.sorted (λ a r q k. search rules);
}
