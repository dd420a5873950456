use Rattle.std.proofs.Common.{◌∙◌, arith, rules}
use Rattle.measures.proofs.RunningSums.{one_more_cell}
use Rattle.measures.proofs.totals.Totals.add.Goals as goal

pub invariant_of-self : goal.invariant_of-self
invariant_of-self c = record {
  topics = search rules;
  ret = search rules;
  rel = search rules;
  rel_ret = search rules;
  values = λ i within. omega (arith, c.self.invariant.values i within, c.values_added-sums.ensures.within i within);
}

pub returns-clause-sums : goal.returns-clause-sums
returns-clause-sums c = λ cells are.
    rw (c.values_added-sums.ensures.sums, c.values_of.ensures.values) (one_more_cell _ cells c.args.cell.now (c.self.view_is ∙ are))
