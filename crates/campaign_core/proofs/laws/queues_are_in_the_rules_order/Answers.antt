use Rattle.campaign_core.proofs.NamedDocuments.LentQueues.{queue-ruled}
use Rattle.campaign_core.proofs.laws.queues_are_in_the_rules_order.Goals as goal

pub returns : goal.returns
returns c = queue-ruled
