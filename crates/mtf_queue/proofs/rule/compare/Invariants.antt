use Rattle.mtf_queue.proofs.rule.compare.Given as goal

-- the ledger is the blank's
abbrev pub ghosts-compare_counted : goal.ghosts-compare_counted
ghosts-compare_counted a = record { name = a.blank.name; parts = a.blank.parts }
