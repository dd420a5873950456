use Rattle.mtf_queue.proofs.groups.sort_by_rule.Given as goal

-- the ledger is the blank's
abbrev pub ghosts-cut_groups : goal.ghosts-cut_groups
ghosts-cut_groups a = record { name = a.blank.name; parts = a.blank.parts }
