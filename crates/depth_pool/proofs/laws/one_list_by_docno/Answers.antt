use Rattle.depth_pool.proofs.SingleDocnoOrder.{one_list}
use Rattle.depth_pool.proofs.laws.one_list_by_docno.Goals as goal

pub returns : goal.returns
returns c = one_list
