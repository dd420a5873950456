use Rattle.mtf_queue.proofs.OrderedQueues.{in_order_outlasts}
use Rattle.mtf_queue.proofs.laws.order_outlasts_other_runs.Goals as goal

pub returns : goal.returns
returns c = in_order_outlasts
