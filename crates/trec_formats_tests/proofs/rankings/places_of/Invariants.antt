use Rattle.trec_formats_tests.proofs.rankings.places_of.Given as goal

-- the ledger is the blank's
abbrev pub ghosts-by_rank : goal.ghosts-by_rank
ghosts-by_rank a = record { name = a.blank.name; parts = a.blank.parts }
