-- The records that were read are moved behind the header.
use Rattle.std.proofs.Common.{◌≡◌, ◌+◌, ◌<◌, ◌^◌, ℕ, List, ap, ◌∙◌, arith, refl, sym, subst, take}
use Rattle.std.proofs.lemmas.Result.{err_from_is_err_and}
use Rattle.disk_model.specs.Disks.{EachMoment}
use Rattle.journal.specs.Format.{decode, place_behind}
use Rattle.journal.specs.KeptRecords.{Settled, payloads}
use Rattle.journal.specs.Moments.{weaker}
use Rattle.journal.specs.MovedAreas.{GivesRecords, IsArea, IsOneImage, IsTurned}
use Rattle.journal.proofs.MovedRecords.{turned_gives}
use Rattle.journal.proofs.Openings.{disk_failed, short_of_memory}
use Rattle.journal.proofs.ReadMoves.{stay_as, told_area, told_count, told_outside, told_short, told_turned}
use Rattle.journal.proofs.opening.move_on.Given.{Over}
use Rattle.journal.proofs.opening.move_on.Goals.{After-deref, After-settle, In_ok-area, In_ok-settle}
use Rattle.journal.proofs.opening.move_on.Goals as goal

turned : (g : Over) (c : In_ok-area g) → IsTurned c.told_place_of-told.result (payloads c.in_ok-found.found.payloads.items) c.args.bytes.now
turned g c =
    let found = c.in_ok-found.ensures in
    told_turned c.args.bytes.now c.requires.disk.long c.requires.marked c.requires.moving
    c.told_place_of-told.result c.told_place_of-told.ensures c.if-told-bytes.false
    c.behind.result.now c.behind.ensures c.in_ok-found.found.place
    (payloads c.in_ok-found.found.payloads.items) found.records found.within found.all c.if-end-told.false

alike : (g : Over) (c : In_ok-area g)
    → IsOneImage (g.D.Disk.seen c.args.disk.now).images (IsTurned c.told_place_of-told.result (payloads c.in_ok-found.found.payloads.items))
alike g c = record { bytes = c.args.bytes.now; has = turned g c; each = c.requires.disk.alone }

is_area : (g : Over) (c : After-deref g) → IsArea c.deref.result.now (payloads c.in_ok-found.found.payloads.items)
is_area g c =
    let found = c.in_ok-found.ensures in
    let same : c.behind-2.result.now ≡ c.behind.result.now = c.behind-2.ensures ∙ sym c.behind.ensures in
    told_area c.args.bytes.now c.requires.disk.long c.requires.marked c.requires.moving c.told_place_of-told.result
    c.told_place_of-told.ensures c.if-told-bytes.false
    c.behind.result.now c.behind.ensures c.in_ok-found.found.place (payloads c.in_ok-found.found.payloads.items) found.records found.within found.all
    c.deref.result.now (take c.in_ok-found.found.place c.behind-2.result.now) (ap (λ (b : List ℕ). take c.in_ok-found.found.place b) same)
    (c.deref.ensures.value ∙ c.in_ok-area.ensures)

moments : (g : Over) (c : After-settle g) → IsTurned c.told_place_of-told.result (payloads c.in_ok-found.found.payloads.items) c.args.bytes.now
    → IsArea c.deref.result.now (payloads c.in_ok-found.found.payloads.items)
    → EachMoment g.D.Disk.seen c.args.disk.now c.settle.new.disk (λ image. decode image ≡ decode c.args.bytes.now)
moments g c here area =
    let all = payloads c.in_ok-found.found.payloads.items in
    let same : IsOneImage (g.D.Disk.seen c.args.disk.now).images (IsTurned c.told_place_of-told.result all) =
    record { bytes = c.args.bytes.now; has = here; each = c.requires.disk.alone } in
    weaker g.D.Disk.seen c.args.disk.now c.settle.new.disk (GivesRecords all) (λ image. decode image ≡ decode c.args.bytes.now)
    (λ image is. is ∙ sym (turned_gives c.args.bytes.now c.told_place_of-told.result all here))
    (c.settle.ensures.any_moment c.told_place_of-told.result all same area)

pub returns-then-told-bytes-clause-refused : goal.returns-then-told-bytes-clause-refused
returns-then-told-bytes-clause-refused g c = record {
  header = λ is. told_outside c.args.bytes.now c.requires.disk.long c.requires.marked c.requires.moving
      c.told_place_of-told.result c.told_place_of-told.ensures c.if-told-bytes.true;
  untouched = λ other. refl;
  rose = λ is. absurd (cc is);
}

pub returns-then-told-bytes-clause-any_moment : goal.returns-then-told-bytes-clause-any_moment
returns-then-told-bytes-clause-any_moment g c = stay_as g.D.Disk.seen c.args.disk.now c.args.bytes.now g.met.D.Disk.only_now c.requires.disk.alone

pub returns-in_err-found-clause-refused : goal.returns-in_err-found-clause-refused
returns-in_err-found-clause-refused g c =
    let p = err_from_is_err_and c.from_residual.result c.from_residual.ensures.1 in
    rw (p.1, p.2) (short_of_memory g.D.Disk.seen c.args.disk.now c.args.bytes.now)

pub returns-in_err-found-clause-any_moment : goal.returns-in_err-found-clause-any_moment
returns-in_err-found-clause-any_moment g c = stay_as g.D.Disk.seen c.args.disk.now c.args.bytes.now g.met.D.Disk.only_now c.requires.disk.alone

pub returns-then-end-told-clause-any_moment : goal.returns-then-end-told-clause-any_moment
returns-then-end-told-clause-any_moment g c = stay_as g.D.Disk.seen c.args.disk.now c.args.bytes.now g.met.D.Disk.only_now c.requires.disk.alone

pub returns-then-end-told-clause-refused : goal.returns-then-end-told-clause-refused
returns-then-end-told-clause-refused g c =
    let found = c.in_ok-found.ensures in
    record {
      header = λ is. told_short c.args.bytes.now c.requires.disk.long c.requires.marked c.requires.moving c.told_place_of-told.result
          c.told_place_of-told.ensures c.if-told-bytes.false
          c.behind.result.now c.behind.ensures c.in_ok-found.found.place
          (payloads c.in_ok-found.found.payloads.items) found.records found.within found.all c.if-end-told.true;
      untouched = λ other. refl;
      rose = λ is. absurd (cc is);
    }

pub returns-in_err-area-clause-refused : goal.returns-in_err-area-clause-refused
returns-in_err-area-clause-refused g c =
    let p = err_from_is_err_and c.from_residual-in_err-area.result c.from_residual-in_err-area.ensures.1 in
    rw (p.1, p.2) (short_of_memory g.D.Disk.seen c.args.disk.now c.args.bytes.now)

pub returns-in_err-area-clause-any_moment : goal.returns-in_err-area-clause-any_moment
returns-in_err-area-clause-any_moment g c = stay_as g.D.Disk.seen c.args.disk.now c.args.bytes.now g.met.D.Disk.only_now c.requires.disk.alone

pub settle-requires : goal.settle-requires
settle-requires g c =
    let now = goal.at.settle-requires g c in
    let few : c.told_place_of-told.result < 2 ^ 40 = omega (arith, c.if-told-bytes.false, c.requires.disk.few) in
    record { turned = (c.told_place_of-told.result, payloads c.in_ok-found.found.payloads.items, alike g now.In_ok-area, is_area g now.After-deref, few) }

pub returns-in_err-settle-clause-refused : goal.returns-in_err-settle-clause-refused
returns-in_err-settle-clause-refused g c =
    let p = err_from_is_err_and c.from_residual-in_err-settle.result c.from_residual-in_err-settle.ensures.1 in
    rw (p.1, p.2) (disk_failed g.D.Disk.seen c.args.disk.now c.settle.new.disk c.args.bytes.now c.in_err-settle.ensures.cause.failed)

pub returns-in_err-settle-clause-any_moment : goal.returns-in_err-settle-clause-any_moment
returns-in_err-settle-clause-any_moment g c =
    let now = goal.at.returns-in_err-settle-clause-any_moment g c in
    moments g now.After-settle (turned g now.In_ok-area) (is_area g now.After-deref)

pub returns-clause-recovered : goal.returns-clause-recovered
returns-clause-recovered g c =
    let now = goal.at.returns-clause-recovered g c in
    let here = turned g now.In_ok-area in
    let area = is_area g now.After-deref in
    let all = payloads c.in_ok-found.found.payloads.items in
    let found = c.in_ok-found.ensures in
    let place : place_behind all ≡ 16 + c.in_ok-found.found.place =
    ap (λ (n : ℕ). 16 + n) (told_count c.behind.result.now c.in_ok-found.found.place all found.records found.within) in
    record {
      read = turned_gives c.args.bytes.now c.told_place_of-told.result all here;
      settled = subst (λ (gate : ℕ). Settled (g.D.Disk.seen c.settle.new.disk).images gate all) place
          (c.in_ok-settle.ensures.settled c.told_place_of-told.result all (alike g now.In_ok-area) area);
      within = omega (arith, c.if-end-told.false, c.if-told-bytes.false, c.requires.disk.few);
    }

pub returns-clause-any_moment : goal.returns-clause-any_moment
returns-clause-any_moment g c =
    let now = goal.at.returns-clause-any_moment g c in
    moments g now.After-settle (turned g now.In_ok-area) (is_area g now.After-deref)
