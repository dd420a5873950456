use Rattle.std.proofs.Common.{ap, arith}
use Rattle.std.proofs.Math.Nat.{div-le_of_le-mul}
use Rattle.measures.specs.Cells.{cell_of}
use Rattle.measures.specs.declared.cells.Cell.{Cell}
use Rattle.leave_out.proofs.precision.average_precision.Goals as goal

pub returns-clause-mean : goal.returns-clause-mean
unfolding cell_of
returns-clause-mean c =
    let relevant_is = ap (λ (cell : Cell). cell.rel) c.scratch-cell.ensures.cell in
    div-le_of_le-mul c.args.judgements.relevant (omega (arith, c.scratch-cell.ensures.sound.ap_sum, relevant_is, c.requires.few.relevant))
