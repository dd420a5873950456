use Rattle.campaign_cases.proofs.campaigns.told_after.Given as goal

-- the ledger is the blank's
abbrev pub ghosts-committed : goal.ghosts-committed
ghosts-committed a = record { name = a.blank.name; parts = a.blank.parts }
