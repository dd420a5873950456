-- The ledger of the commit is the blank's.
use Rattle.campaign_core.proofs.replays.enter_next.Given as goal

abbrev pub ghosts-commit : goal.ghosts-commit
ghosts-commit a = record { name = a.blank.name; parts = a.blank.parts }
