-- The ledger in which the place is read is the blank's.
use Rattle.leave_out.proofs.precision.doc_at.Given as goal

abbrev pub ghosts-counted_doc_at : goal.ghosts-counted_doc_at
ghosts-counted_doc_at a = record { name = a.blank.name; parts = a.blank.parts }
