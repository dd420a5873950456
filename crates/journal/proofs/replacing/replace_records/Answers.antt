-- A mend, and then the new records.
use Rattle.std.proofs.Common.{◌≡◌, false, true, inl}
use Rattle.journal.proofs.Replacements.{puts_replaces}
use Rattle.journal.proofs.replacing.replace_records.Goals as goal

pub put_records-requires-clause-settled : goal.put_records-requires-clause-settled
put_records-requires-clause-settled g c =
    let kept = c.requires.kept in
    (kept.0, c.in-Ok.ensures.mends.mended kept.0 kept.1 kept.2)

pub returns-in-Ok : goal.returns-in-Ok
returns-in-Ok g c all is_area =
    puts_replaces g.D.Disk.seen c.args.disk.now c.mend_first.new.disk c.put_records.new.disk c.args.place c.args.due.now all c.put_records.result
    c.in-Ok.ensures.mends.mended c.mend_first.ensures.mends.any_moment c.mend_first.ensures.mends.cause.later
    (λ nothing. (c.in-Ok.ensures.idle nothing).1) (c.put_records.ensures all is_area)

pub returns-in-Err : goal.returns-in-Err
returns-in-Err g c all is_area = record {
  comes = c.in-Err.ensures.mends.cause.failed;
  moments = λ old pending keeps. inl (c.mend_first.ensures.mends.any_moment old pending keeps);
  larger = λ more. record {
    untouched = λ nothing. let failed : false ≡ true = (c.in-Err.ensures.idle nothing).0 in absurd (cc failed);
    moments = c.mend_first.ensures.mends.any_moment;
  };
  later = c.mend_first.ensures.mends.cause.later;
}
