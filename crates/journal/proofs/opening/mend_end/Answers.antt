-- What was read is kept, and what is due at its end is mended.
use Rattle.std.proofs.Common.{◌≡◌, ◌+◌, ℕ, List, [], ap, arith, length, length-drop}
use Rattle.std.proofs.lemmas.Result.{err_from_is_err_and}
use Rattle.disk_model.specs.Disks.{EachMoment}
use Rattle.journal.specs.Format.{decode}
use Rattle.journal.specs.KeptRecords.{HoldsRecords, Keeps, payloads}
use Rattle.journal.specs.Moments.{weaker}
use Rattle.journal.proofs.Openings.{disk_failed, short_of_memory, stands_as}
use Rattle.journal.proofs.ReadRecords.{ReadBehind, due_keeps, read_behind, reads_all}
use Rattle.journal.proofs.opening.mend_end.Given.{Over}
use Rattle.journal.proofs.opening.mend_end.Goals.{After-due_at-due, After-mend_due, In_ok-found}
use Rattle.journal.proofs.opening.mend_end.Goals as goal

read : (g : Over) (c : In_ok-found g) → ReadBehind c.args.bytes.now c.in_ok-found.found.place (payloads c.in_ok-found.found.payloads.items)
read g c =
    let found = c.in_ok-found.ensures in
    read_behind c.args.bytes.now c.behind.result.now c.in_ok-found.found.place (payloads c.in_ok-found.found.payloads.items) c.behind.ensures
    c.requires.marked c.requires.at_rest c.requires.disk.long found.records found.within found.all

kept : (g : Over) (c : After-due_at-due g) → ReadBehind c.args.bytes.now c.in_ok-found.found.place (payloads c.in_ok-found.found.payloads.items)
    → Keeps (g.D.Disk.seen c.args.disk.now).images (16 + c.in_ok-found.found.place) c.due_at-due.result (payloads c.in_ok-found.found.payloads.items) []
kept g c here =
    due_keeps c.args.bytes.now (16 + c.in_ok-found.found.place) (payloads c.in_ok-found.found.payloads.items) here.front here.none_left
    (g.D.Disk.seen c.args.disk.now).images c.requires.disk.alone c.due_at-due.result c.due_at-due.ensures

moments : (g : Over) (c : After-mend_due g) → ReadBehind c.args.bytes.now c.in_ok-found.found.place (payloads c.in_ok-found.found.payloads.items)
    → Keeps (g.D.Disk.seen c.args.disk.now).images (16 + c.in_ok-found.found.place) c.due_at-due.result (payloads c.in_ok-found.found.payloads.items) []
    → EachMoment g.D.Disk.seen c.args.disk.now c.mend_due.new.disk (λ image. decode image ≡ decode c.args.bytes.now)
moments g c here keeps =
    let all = payloads c.in_ok-found.found.payloads.items in
    weaker g.D.Disk.seen c.args.disk.now c.mend_due.new.disk (HoldsRecords all []) (λ image. decode image ≡ decode c.args.bytes.now)
    (stands_as c.args.bytes.now (16 + c.in_ok-found.found.place) all here.front here.none_left) (c.mend_due.ensures.any_moment all [] keeps)

pub returns-in_err-found-clause-refused : goal.returns-in_err-found-clause-refused
returns-in_err-found-clause-refused g c =
    let p = err_from_is_err_and c.from_residual.result c.from_residual.ensures.1 in
    rw (p.1, p.2) (short_of_memory g.D.Disk.seen c.args.disk.now c.args.bytes.now)

pub mend_due-requires-clause-kept : goal.mend_due-requires-clause-kept
mend_due-requires-clause-kept g c =
    let now = goal.at.mend_due-requires-clause-kept g c in
    (payloads c.in_ok-found.found.payloads.items, [], kept g now.After-due_at-due (read g now.In_ok-found))

pub returns-in_err-mend_due-clause-refused : goal.returns-in_err-mend_due-clause-refused
returns-in_err-mend_due-clause-refused g c =
    let p = err_from_is_err_and c.from_residual-in_err-mend_due.result c.from_residual-in_err-mend_due.ensures.1 in
    rw (p.1, p.2) (disk_failed g.D.Disk.seen c.args.disk.now c.mend_due.new.disk c.args.bytes.now c.in_err-mend_due.ensures.cause.failed)

pub returns-in_err-mend_due-clause-any_moment : goal.returns-in_err-mend_due-clause-any_moment
returns-in_err-mend_due-clause-any_moment g c =
    let now = goal.at.returns-in_err-mend_due-clause-any_moment g c in
    let here = read g now.In_ok-found in
    moments g now.After-mend_due here (kept g now.After-due_at-due here)

pub returns-clause-recovered : goal.returns-clause-recovered
returns-clause-recovered g c =
    let now = goal.at.returns-clause-recovered g c in
    let here = read g now.In_ok-found in
    let all = payloads c.in_ok-found.found.payloads.items in
    let has = c.requires.disk in
    record {
      read = reads_all c.args.bytes.now (16 + c.in_ok-found.found.place) all here.front here.none_left;
      settled = c.in_ok-mend_due.ensures.mended all [] (kept g now.After-due_at-due here);
      within = omega (arith, c.in_ok-found.ensures.within, ap (λ (b : List ℕ). length b) c.behind.ensures, length-drop 16 c.args.bytes.now, has.long, has.few);
    }

pub returns-clause-any_moment : goal.returns-clause-any_moment
returns-clause-any_moment g c =
    let now = goal.at.returns-clause-any_moment g c in
    let here = read g now.In_ok-found in
    moments g now.After-mend_due here (kept g now.After-due_at-due here)
