-- The ledger in which the list is marked is the blank's.
use Rattle.score_index.proofs.board.Board.add_run.Given as goal

abbrev pub ghosts-listed : goal.ghosts-listed
ghosts-listed a = record { name = a.blank.name; parts = a.blank.parts }
