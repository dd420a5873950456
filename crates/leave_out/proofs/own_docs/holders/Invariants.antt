-- The ledger in which the holders are looked up is the blank's.
use Rattle.leave_out.proofs.own_docs.holders.Given as goal

abbrev pub ghosts-counted_holders : goal.ghosts-counted_holders
ghosts-counted_holders a = record { name = a.blank.name; parts = a.blank.parts }
