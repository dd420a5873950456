-- From the first sync on, each moment gives the records that were read.
use Rattle.std.proofs.Common.{◌≡◌, ◌<◌, ◌≤◌, ℕ, List, [], length, arith, inr, refl, rules, subst, sym}
use Rattle.std.specs.Prelude.{Some}
use Rattle.std.proofs.lemmas.Result.{IfErr-weaker, IfOk-weaker, err_from_is_err_and}
use Rattle.decimal_rank.specs.Causes.{Rose}
use Rattle.journal.specs.declared.opening.OpenFault.TheVariants as open_fault
use Rattle.journal.specs.KeptRecords.{payloads}
use Rattle.journal.specs.Openings.{HasBytes, NotRecovered, Recovered}
use Rattle.journal.proofs.Openings.{content_gives, empty_settled, not_recovered_on, recovered_on, short_reads, turned_empty, where_empty}
use Rattle.journal.proofs.opening.recover.Goals as goal

pub returns-in_err-bytes-clause-refused : goal.returns-in_err-bytes-clause-refused
returns-in_err-bytes-clause-refused g c =
    let p = err_from_is_err_and c.from_residual.result c.from_residual.ensures.1 in
    let why = c.in_err-bytes.ensures in
    let left : NotRecovered g.D.Disk.seen c.args.disk.now c.read_all.new.disk c.in_err-bytes.field-0.0 =
    record {
      header = λ is. absurd (why.fault is);
      untouched = λ other. (c.read_all.ensures.content, c.read_all.ensures.crash);
      rose = why.disk;
      any_moment = why.any_moment_err;
      later = c.read_all.ensures.later;
    } in
    rw (p.1, p.2) left

pub returns-in_err-begin_empty-clause-refused : goal.returns-in_err-begin_empty-clause-refused
returns-in_err-begin_empty-clause-refused g c =
    let D = g.D.Disk in
    let bytes = c.in_ok-bytes.bytes.items in
    let short : length bytes ≤ 17 = search rules in
    let p = err_from_is_err_and c.from_residual-in_err-begin_empty.result c.from_residual-in_err-begin_empty.ensures.1 in
    let failed : Rose (D.seen c.read_all.new.disk).faults (D.seen c.begin_empty.new.disk).faults = c.in_err-begin_empty.ensures.cause.failed in
    let left : NotRecovered D.seen c.args.disk.now c.begin_empty.new.disk open_fault.Disk =
    record {
      header = λ is. absurd (cc is);
      untouched = λ other. absurd (other refl);
      rose = λ is. omega (arith, c.read_all.ensures.later, failed);
      any_moment = inr (turned_empty D.seen c.args.disk.now c.read_all.new.disk c.begin_empty.new.disk
          (D.seen c.args.disk.now).content bytes c.in_ok-bytes.ensures.told c.in_ok-bytes.ensures.any_moment short c.begin_empty.ensures.any_moment);
      later = omega (arith, c.read_all.ensures.later, c.begin_empty.ensures.cause.later);
    } in
    rw (p.1, p.2) left

pub returns-then-len-le17-clause-recovered : goal.returns-then-len-le17-clause-recovered
returns-then-len-le17-clause-recovered g c =
    let D = g.D.Disk in
    let bytes = c.in_ok-bytes.bytes.items in
    let content = (D.seen c.args.disk.now).content in
    let short : length bytes ≤ 17 = search rules in
    let recovered : Recovered D.seen c.args.disk.now c.begin_empty.new.disk 16 [] =
    record {
      read = content_gives content bytes (Some []) c.in_ok-bytes.ensures.told (short_reads bytes short);
      settled = empty_settled (D.seen c.begin_empty.new.disk).images c.in_ok-begin_empty.ensures.empty;
      empty = where_empty content _ c.in_ok-begin_empty.ensures.empty;
      within = omega arith;
      any_moment = turned_empty D.seen c.args.disk.now c.read_all.new.disk c.begin_empty.new.disk
          content bytes c.in_ok-bytes.ensures.told c.in_ok-bytes.ensures.any_moment short c.begin_empty.ensures.any_moment;
      later = omega (arith, c.read_all.ensures.later, c.begin_empty.ensures.cause.later);
    } in
    rw c.new.ensures.items recovered

pub recover_records-requires : goal.recover_records-requires
recover_records-requires g c =
    let bytes = c.in_ok-bytes.bytes.items in
    let same : c.deref.result.now ≡ bytes = search rules in
    let long : 17 < length bytes = search rules in
    let has : HasBytes (g.D.Disk.seen c.read_all.new.disk).images bytes =
    record { alone = c.in_ok-bytes.ensures.alone; long = long; few = c.in_ok-bytes.ensures.few } in
    record { disk = subst (λ (b : List ℕ). HasBytes (g.D.Disk.seen c.read_all.new.disk).images b) (sym same) has }

pub returns-clause-recovered : goal.returns-clause-recovered
returns-clause-recovered g c =
    let bytes = c.in_ok-bytes.bytes.items in
    let same : c.deref.result.now ≡ bytes = search rules in
    let long : 17 < length bytes = search rules in
    IfOk-weaker c.recover_records.result _ _
    (λ found recovered. recovered_on g.D.Disk.seen c.args.disk.now c.read_all.new.disk c.recover_records.new.disk bytes c.deref.result.now same
    c.in_ok-bytes.ensures.told c.in_ok-bytes.ensures.any_moment c.recover_records.ensures.any_moment
    c.read_all.ensures.later c.recover_records.ensures.later long found.place (payloads found.payloads.items) recovered)
    c.recover_records.ensures.recovered

pub returns-clause-refused : goal.returns-clause-refused
returns-clause-refused g c =
    let bytes = c.in_ok-bytes.bytes.items in
    let same : c.deref.result.now ≡ bytes = search rules in
    IfErr-weaker c.recover_records.result _ _
    (λ fault left. not_recovered_on g.D.Disk.seen c.args.disk.now c.read_all.new.disk c.recover_records.new.disk bytes c.deref.result.now same
    c.in_ok-bytes.ensures.told c.in_ok-bytes.ensures.any_moment c.recover_records.ensures.any_moment
    c.read_all.ensures.later c.recover_records.ensures.later c.read_all.ensures.content c.read_all.ensures.crash fault left)
    c.recover_records.ensures.refused
