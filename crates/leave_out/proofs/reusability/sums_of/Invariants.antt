-- The sums are those of the topics so far, and small enough.
use Rattle.std.proofs.Common.{◌≡◌, ◌≤◌, ◌*◌, ◌^◌, ℕ, take}
use Rattle.rulebook.specs.Campaign.{Run}
use Rattle.rulebook.specs.Requests.Limits.{max_entries}
use Rattle.campaign_core.specs.Assessments.Topics.{topic_ids}
use Rattle.leave_out.specs.ReducedJudgements.{IsLive, sums_in}
use Rattle.leave_out.proofs.reusability.sums_of.Given as goal

abbrev pub invariant-loop-topic : goal.invariant-loop-topic
invariant-loop-topic l =
    let H = l.state.history in
    record {
      sums : (one : ℕ × Run) → IsLive H l.run one → l.sums ≡ sums_in H l.judgements.group one.1 (take l.topic (topic_ids H));
      own : l.sums.own ≤ l.topic * max_entries;
      topics : l.sums.topics ≤ l.topic;
      precisions : l.sums.precisions ≤ l.sums.topics * 10 ^ 15;
    }
