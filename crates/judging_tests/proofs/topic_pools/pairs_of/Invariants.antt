use Rattle.judging_tests.proofs.topic_pools.pairs_of.Given as goal

-- the ledger is the blank's
abbrev pub ghosts-held : goal.ghosts-held
ghosts-held a = record { name = a.blank.name; parts = a.blank.parts }
