-- Each row of the table of the measures is one.
use Rattle.std.proofs.Common.{◌<◌, ℕ, zero, suc, get_or, arith}
use Rattle.std.proofs.lemmas.List.FromFn.{get_or-map-range_with_len}
use Rattle.measures.specs.declared.means.Measure.{Measure}
use Rattle.measures.specs.declared.means.Measure.TheVariants.{Precision}
use Rattle.measures.specs.Means.{IsMeasure, measure_count, measures}

pub each_measure : (place : ℕ) (d : Measure) → place < measure_count → IsMeasure (get_or measures place d)
each_measure zero d within = tt
each_measure (suc zero) d within = tt
each_measure (suc (suc zero)) d within = tt
each_measure (suc (suc (suc zero))) d within = tt
each_measure (suc (suc (suc (suc place)))) d within =
    let few : place < 9 = omega (arith, within) in
    rw (get_or-map-range_with_len Precision 0 9 place place d few (omega arith)) few
