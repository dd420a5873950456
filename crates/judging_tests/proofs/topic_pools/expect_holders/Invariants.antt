use Rattle.judging_tests.proofs.topic_pools.expect_holders.Given as goal

-- the ledger is the blank's
abbrev pub ghosts-holders_told : goal.ghosts-holders_told
ghosts-holders_told g a = record { name = a.blank.name; parts = a.blank.parts }
