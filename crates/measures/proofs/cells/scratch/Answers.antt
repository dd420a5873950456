use Rattle.std.proofs.Common.{arith}
use Rattle.std.proofs.Math.Nat.{mul-le-mul_right}
use Rattle.measures.proofs.Cutoffs.{within_cutoffs, relevant_to-le}
use Rattle.measures.proofs.cells.scratch.Goals as goal

pub returns-clause-sound : goal.returns-clause-sound
returns-clause-sound c = record {
  ap_sum = omega (arith, mul-le-mul_right 1000000000000000 c.requires.relevant);
  at = within_cutoffs _ _ _ c.relevant_within.ensures;
  r_prec = omega (arith, c.relevant_to.ensures, relevant_to-le c.args.level c.args.grades.now c.args.r);
  bpref_den = c.bpref_den.ensures.positive;
  bpref_num = omega (arith, c.bpref_num.ensures.within, c.bpref_den.ensures.den);
}
