-- How a comparison counts on.
use Rattle.std.specs.Prelude.{◌≤◌, ℕ, ◌+◌, ◌-◌, ◌^◌, cond, List, Option, Some, None}
use Rattle.std.specs.List.{filter_map}
use Rattle.archive_reports.specs.Comparisons.{Maps, count, is_concordant, is_discordant, is_tied}
use Rattle.archive_reports.specs.declared.comparisons.Pairs.{Pairs}

-- those that are there
abbrev pub present : List (Option Maps) → List Maps
present found = filter_map (λ maps. maps) found

-- the counts of pairs may grow by so many
pub record PairsMayGrow (pairs : Pairs) (more : ℕ) : Type 0 where
  pub concordant : pairs.concordant + more ≤ 2 ^ 32 - 1
  pub discordant : pairs.discordant + more ≤ 2 ^ 32 - 1
  pub tied : pairs.tied + more ≤ 2 ^ 32 - 1

abbrev pub with_pair : Pairs → Maps → Maps → Pairs
with_pair pairs x y = record {
  common = pairs.common;
  concordant = pairs.concordant + cond (is_concordant x y) 1 0;
  discordant = pairs.discordant + cond (is_discordant x y) 1 0;
  tied = pairs.tied + cond (is_tied x y) 1 0;
}

-- with the pairs of a run and later ones
abbrev pub with_pairs : Pairs → Maps → List Maps → Pairs
with_pairs pairs x runs = record {
  common = pairs.common;
  concordant = pairs.concordant + count (is_concordant x) runs;
  discordant = pairs.discordant + count (is_discordant x) runs;
  tied = pairs.tied + count (is_tied x) runs;
}

-- with a run that both have, if this is one, and its pairs with later ones
abbrev pub with_maps : Pairs → Option Maps → List Maps → Pairs
with_maps pairs None runs = pairs
with_maps pairs (Some x) runs =
    with_pairs (record { common = pairs.common + 1; concordant = pairs.concordant; discordant = pairs.discordant; tied = pairs.tied }) x runs

-- the counts of two parts together
abbrev pub joined_pairs : Pairs → Pairs → Pairs
joined_pairs a b = record {
  common = a.common + b.common;
  concordant = a.concordant + b.concordant;
  discordant = a.discordant + b.discordant;
  tied = a.tied + b.tied;
}
