-- What contracts see of a queue.
use Rattle.std.specs.Prelude.{ℕ, List}
use Rattle.depth_pool.specs.declared.runs.RunId.{RunId}
use Rattle.mtf_queue.specs.declared.rule.Judged.{Judged}

-- the runs in their order, the documents in the order of their first grades, and the room for more of both
pub record QueueView : Type 0 where
  pub order : List RunId
  pub trail : List Judged
  pub spare : ℕ
