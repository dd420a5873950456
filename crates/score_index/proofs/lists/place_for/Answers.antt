use Rattle.std.proofs.Common.{nat_lt, rules}
use Rattle.std.proofs.lemmas.List.Sorted.{IsPartitionPoint-from_clause}
use Rattle.score_index.specs.Scores.{ScoreList}
use Rattle.score_index.proofs.KeptTopics.ListsByRun.{parted}
use Rattle.score_index.proofs.lists.place_for.Goals as goal

pub returns-clause-place : goal.returns-clause-place
returns-clause-place c =
    IsPartitionPoint-from_clause (λ (list : ScoreList). nat_lt list.run.0 c.args.run.0) c.args.lists.now c.partition_point.result
    c.partition_point.ensures.partitioned (parted c.args.lists.now c.args.run.0 c.requires)
    (λ a r f' q. (search rules, search rules))
