use Rattle.judging_tests.proofs.topic_pools.the_documents_of_a_run_stand_by_rank.Given as goal

-- the ledger is the blank's
abbrev pub ghosts-are_held : goal.ghosts-are_held
ghosts-are_held g a = record { name = a.blank.name; parts = a.blank.parts }
