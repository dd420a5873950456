use Rattle.trec_formats_tests.proofs.rankings.a_ranking_lists_this_very_order.Given as goal

-- the ledger is the blank's
abbrev pub ghosts-by_rank : goal.ghosts-by_rank
ghosts-by_rank g a = record { name = a.blank.name; parts = a.blank.parts }
