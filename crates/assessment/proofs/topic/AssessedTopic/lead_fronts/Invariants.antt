use Rattle.assessment.proofs.topic.AssessedTopic.lead_fronts.Given as goal

-- the ledger is the blank's
abbrev pub ghosts-lead_on : goal.ghosts-lead_on
ghosts-lead_on a = record { name = a.blank.name; parts = a.blank.parts }
