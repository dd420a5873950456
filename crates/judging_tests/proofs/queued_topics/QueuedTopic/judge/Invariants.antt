use Rattle.judging_tests.proofs.queued_topics.QueuedTopic.judge.Given as goal

-- the ledger is the blank's
abbrev pub ghosts-judge_counted : goal.ghosts-judge_counted
ghosts-judge_counted a = record { name = a.blank.name; parts = a.blank.parts }
