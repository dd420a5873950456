use Rattle.judging_tests.proofs.boards.scored_board.regrade.Given as goal

-- the ledger is the blank's
abbrev pub ghosts-regrade_counted : goal.ghosts-regrade_counted
ghosts-regrade_counted a = record { name = a.blank.name; parts = a.blank.parts }
