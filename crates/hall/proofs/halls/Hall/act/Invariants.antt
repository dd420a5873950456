-- The state that is noted is the one that the value has now.
use Rattle.hall.proofs.halls.Hall.act.Given as goal

abbrev pub ghosts-note : goal.ghosts-note
ghosts-note g a = record { next = g.B.Storied.story a._value.now }
