-- What takes more room isn't written; what doesn't is moved in, or the disk failed.
use Rattle.std.proofs.Common.{◌<◌, ◌≤◌, arith, inl, refl}
use Rattle.journal.specs.Format.{place_behind}
use Rattle.journal.specs.MovedAreas.{GivesOneOf}
use Rattle.journal.specs.Moments.{started}
use Rattle.journal.proofs.MovedRecords.{area_size}
use Rattle.journal.proofs.Replacements.{settled_alone}
use Rattle.journal.proofs.Steps.{shut_reads}
use Rattle.journal.proofs.replacing.put_records.Goals as goal

pub returns-then-area-place : goal.returns-then-area-place
returns-then-area-place g c all is_area =
    let long : c.args.place < place_behind all = omega (arith, area_size c.args.area.now all is_area, c.if-area-place.true) in
    record {
      comes = (long, λ old settled. settled_alone (g.D.Disk.seen c.args.disk.now).images c.args.place old settled);
      moments = λ old settled. started g.D.Disk.seen c.args.disk.now (GivesOneOf old all)
          (λ image left. inl
          (shut_reads (g.D.Disk.seen c.args.disk.now).images c.args.place old _ settled image (g.met.D.Disk.only_now c.args.disk.now image left)));
      larger = λ more. (refl, refl);
      later = omega arith;
    }

pub returns-in-Ok : goal.returns-in-Ok
returns-in-Ok g c all is_area =
    let old = c.requires.settled in
    let short : place_behind all ≤ c.args.place = omega (arith, area_size c.args.area.now all is_area, c.if-area-place.false) in
    record {
      comes = (
        short,
        settled_alone (g.D.Disk.seen c.move_in.new.disk).images (place_behind all) all (c.in-Ok.ensures.moved old.0 all old.1 is_area),
        c.in-Ok.ensures.closed old.0 all old.1 is_area,
      );
      moments = λ was settled. c.move_in.ensures.any_moment was all settled is_area;
      larger = λ more. absurd (omega (arith, short, more));
      later = c.move_in.ensures.cause.later;
    }

pub returns-in-Err : goal.returns-in-Err
returns-in-Err g c all is_area =
    let short : place_behind all ≤ c.args.place = omega (arith, area_size c.args.area.now all is_area, c.if-area-place.false) in
    record {
      comes = c.in-Err.ensures.cause.failed;
      moments = λ was settled. c.move_in.ensures.any_moment was all settled is_area;
      larger = λ more. absurd (omega (arith, short, more));
      later = c.move_in.ensures.cause.later;
    }
