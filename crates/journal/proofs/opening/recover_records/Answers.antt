-- Bytes that begin otherwise give no records.
use Rattle.std.proofs.Common.{refl, sym, ◌∙◌}
use Rattle.journal.proofs.Openings.{no_mark}
use Rattle.journal.proofs.ReadMoves.{stay_as}
use Rattle.journal.proofs.opening.recover_records.Goals as goal

pub returns-then-not-has_mark-clause-refused : goal.returns-then-not-has_mark-clause-refused
returns-then-not-has_mark-clause-refused g c = record {
  header = λ is. no_mark c.args.bytes.now c.requires.disk.long (sym c.has_mark.ensures ∙ c.if-not-has_mark.true);
  untouched = λ other. refl;
  rose = λ is. absurd (cc is);
}

pub returns-then-not-has_mark-clause-any_moment : goal.returns-then-not-has_mark-clause-any_moment
returns-then-not-has_mark-clause-any_moment g c = stay_as g.D.Disk.seen c.args.disk.now c.args.bytes.now g.met.D.Disk.only_now c.requires.disk.alone
