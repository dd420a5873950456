-- The board and the queues that a state lends.
use Rattle.std.specs.Prelude.{◌≡◌, ℕ, List, Some, map, slice_get}
use Rattle.lease_desk.specs.declared.leases.Lease.{Lease}
use Rattle.mtf_queue.specs.QueueView.{QueueView}
use Rattle.score_index.specs.Scores.{Scores}
use Rattle.assessment.specs.TopicFacts.{IsQueued, TopicFacts}
use Rattle.rulebook.specs.Campaign.{History}
use Rattle.campaign_core.specs.CampaignStates.{KnowsAll}
use Rattle.campaign_core.specs.Numbering.Numbers.{names_of}
use Rattle.campaign_core.specs.Assessments.RunScores.{IsScored, fact_grades}

-- The board stands for the effective grades of the history's topics, and has the ranked lists of the live runs and no others.
pub record IsBoardOf (H : History) (board : Scores) : Type 0 where
  pub topics : List TopicFacts
  pub desk : List Lease
  pub knows : KnowsAll H topics desk
  pub scored : IsScored H (names_of H) (map fact_grades topics) board

-- The queue has the live runs that hold documents of a topic of the history, in the judging order by its trail.
pub record IsQueueOf (H : History) (topic : ℕ) (queue : QueueView) : Type 0 where
  pub topics : List TopicFacts
  pub desk : List Lease
  pub knows : KnowsAll H topics desk
  pub facts : TopicFacts
  pub topic_is : slice_get topics topic ≡ Some facts
  pub queued : IsQueued facts.level facts.pool facts.graded queue
