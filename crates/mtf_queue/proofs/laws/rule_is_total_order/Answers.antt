use Rattle.mtf_queue.proofs.RunComparisons.{chain, not_itself, one_of_two}
use Rattle.mtf_queue.proofs.laws.rule_is_total_order.Goals as goal

pub returns-clause-not_itself : goal.returns-clause-not_itself
returns-clause-not_itself c = not_itself

pub returns-clause-one_of_two : goal.returns-clause-one_of_two
returns-clause-one_of_two c = one_of_two

pub returns-clause-chain : goal.returns-clause-chain
returns-clause-chain c = chain
