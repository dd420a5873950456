use Rattle.std.proofs.Common.{◌∙◌, ℕ, ap, min, nat_eq}
use Rattle.std.specs.Prelude.{if◌then◌else◌}
use Rattle.rank_trees.specs.PlacesOn.{count_on}
use Rattle.score_index.proofs.Cells.MovedSums.{cell-places, same_cell}
use Rattle.score_index.proofs.sums.follow_counts.Goals as goal

pub moved_r_prec-r_prec-requires-clause-count : goal.moved_r_prec-r_prec-requires-clause-count
moved_r_prec-r_prec-requires-clause-count g c =
    (cell-places c.args.trees.now.relevant c.args.trees.now.lower c.requires.cell.0 c.requires.cell.1 c.args.cell.now c.requires.cell.2).r_prec

pub returns-clause-cell : goal.returns-clause-cell
returns-clause-cell g c =
    let r = c.args.counts.relevant in
    let n = c.args.counts.non_relevant in
    let cell = c.args.cell.now in
    let places = cell-places c.args.trees.now.relevant c.args.trees.now.lower c.requires.cell.0 c.requires.cell.1 cell c.requires.cell.2 in
    same_cell c.args.trees.now.relevant c.args.trees.now.lower r n cell.ret cell.rel_ret c.moved_r_prec-r_prec.result
    cell.first cell.ap_sum c.bpref_num-cell.result c.bpref_den-cell.result cell.at
    places.ret places.rel_ret places.at c.moved_r_prec-r_prec.ensures.count places.first places.ap_sum
    (c.bpref_num-cell.ensures
    ∙ ap (λ (count : ℕ). if nat_eq r 0 then 0 else (if nat_eq (min r n) 0 then count else c.args.sums.now.preferences)) c.requires.sums.rel_ret
    ∙ ap (λ (sum : ℕ). if nat_eq r 0 then 0 else (if nat_eq (min r n) 0 then count_on c.args.trees.now.relevant else sum)) c.requires.sums.preferences)
    c.bpref_den-cell.ensures.den
