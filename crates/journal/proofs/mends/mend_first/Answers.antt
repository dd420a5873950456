-- Nothing is due.
use Rattle.std.proofs.Common.{inl, inr, arith, refl, subst}
use Rattle.journal.specs.KeptRecords.{HoldsRecords, Keeps}
use Rattle.journal.specs.Moments.{started}
use Rattle.journal.specs.declared.dues.Due.{Due}
use Rattle.journal.proofs.DueRecords.{is_due, keeps_stands, not_gate}
use Rattle.journal.proofs.mends.mend_first.Goals as goal

pub returns-in-Nothing-clause-mends : goal.returns-in-Nothing-clause-mends
returns-in-Nothing-clause-mends g c =
    let images = (g.D.Disk.seen c.args.disk.now).images in
    record {
      mended = λ all pending keeps. (subst (λ (due : Due). Keeps images c.args.place due all pending) c.in-Nothing.is keeps).0;
      closed = λ is_gate. absurd (not_gate c.args.due.now (inl c.in-Nothing.is) is_gate);
      nothing_due = c.in-Nothing.is;
      place = refl;
      kept = λ all pending keeps. inr keeps;
      any_moment = λ all pending keeps. started g.D.Disk.seen c.args.disk.now (HoldsRecords all pending)
          (λ image left. keeps_stands images c.args.place c.args.due.now all pending keeps image (g.met.D.Disk.only_now c.args.disk.now image left));
      cause = record { later = omega arith; failed = tt };
    }

pub returns-in-Cut-clause-idle : goal.returns-in-Cut-clause-idle
returns-in-Cut-clause-idle g c nothing = absurd (is_due c.args.due.now c.in-Cut.is nothing)
