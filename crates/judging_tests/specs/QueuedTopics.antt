-- What the tests keep true of a topic.
use Rattle.std.specs.Prelude.{◌≡◌, ℕ, ◌<◌, List, All}
use Rattle.depth_pool.specs.Holdings.{Held}
use Rattle.mtf_queue.specs.QueueView.{QueueView}
use Rattle.mtf_queue.specs.Rule.{IsInOrder}
use Rattle.mtf_queue.specs.declared.rule.Judged.{Judged}

-- the queue is in order by the pool, the trail is the queue's, and each run has a number below the next
pub record IsTopicPlayed (runs : List Held) (queue : QueueView) (trail : List Judged) (next : ℕ) : Type 0 where
  pub in_order : IsInOrder runs queue.trail queue.order
  pub trail_is : trail ≡ queue.trail
  pub numbered : All (λ held. held.run.0 < next) runs
