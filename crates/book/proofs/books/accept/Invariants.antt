-- The ledger that is committed is the blank's.
use Rattle.book.proofs.books.accept.Given as goal

abbrev pub ghosts-commit : goal.ghosts-commit
ghosts-commit g a = record { name = a.blank.name; parts = a.blank.parts }
