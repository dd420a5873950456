use Rattle.campaign_core.proofs.selection.named.Given as goal

-- the ledger is the blank's
abbrev pub ghosts-first_in : goal.ghosts-first_in
ghosts-first_in a = record { name = a.blank.name; parts = a.blank.parts }
