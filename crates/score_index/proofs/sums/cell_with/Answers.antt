use Rattle.std.proofs.Common.{◌∙◌, ℕ, ap, min, nat_eq}
use Rattle.std.specs.Prelude.{if◌then◌else◌}
use Rattle.rank_trees.specs.PlacesOn.{count_on}
use Rattle.score_index.proofs.Cells.MovedSums.{same_cell}
use Rattle.score_index.proofs.sums.cell_with.Goals as goal

pub returns : goal.returns
returns c =
    let r = c.args.counts.relevant in
    let n = c.args.counts.non_relevant in
    record {
      cell = same_cell c.args.trees.now.relevant c.args.trees.now.lower r n c.len.result c.args.sums.rel_ret c.args.r_prec
          c.args.first c.args.sums.ap_sum c.bpref_num.result c.bpref_den.result c.args.sums.at
          c.len.ensures.len c.requires.sums.rel_ret c.requires.sums.at c.requires.r_prec c.requires.first c.requires.sums.ap_sum
          (c.bpref_num.ensures
          ∙ ap (λ (count : ℕ). if nat_eq r 0 then 0 else (if nat_eq (min r n) 0 then count else c.args.sums.preferences)) c.requires.sums.rel_ret
          ∙ ap (λ (sum : ℕ). if nat_eq r 0 then 0 else (if nat_eq (min r n) 0 then count_on c.args.trees.now.relevant else sum)) c.requires.sums.preferences)
          c.bpref_den.ensures.den;
    }
