-- What is due is mended, and then the record is added.
use Rattle.std.proofs.Common.{inl, refl}
use Rattle.std.proofs.lemmas.Result.{err_from_is_err_and}
use Rattle.journal.specs.Format.{payload_behind}
use Rattle.journal.specs.Journals.{JournalState}
use Rattle.journal.specs.KeptRecords.{HoldsRecords, HoldsRecordsOfOne}
use Rattle.journal.specs.Moments.{weaker}
use Rattle.journal.proofs.AddedRecords.{append_on, failed_append}
use Rattle.journal.proofs.appends.append_frame.Goals as goal

pub returns-in_err-mend_first : goal.returns-in_err-mend_first
returns-in_err-mend_first g c =
    let D = g.D.Disk in
    let payload = payload_behind c.args.bytes.now in
    let old : JournalState g.row.D.Denot = record { disk = c.args.disk.now; place = c.args.place.now; due = c.args.due.now } in
    let new : JournalState g.row.D.Denot = record { disk = c.mend_first.new.disk; place = c.args.place.now; due = c.mend_first.new.due } in
    let mends = c.mend_first.ensures.mends in
    let p = err_from_is_err_and c.from_residual.result c.from_residual.ensures.1 in
    failed_append D.seen old new payload c.from_residual.result p.0 p.1 refl
    (λ all pending keeps. inl (mends.kept all pending keeps))
    (λ all pending keeps. weaker D.seen c.args.disk.now c.mend_first.new.disk (HoldsRecords all pending) (HoldsRecordsOfOne all pending payload)
    (λ image holds. inl holds) (mends.any_moment all pending keeps))
    mends.cause.later c.in_err-mend_first.ensures.mends.cause.failed

pub put-requires-clause-settled : goal.put-requires-clause-settled
put-requires-clause-settled g c =
    let kept = c.requires.kept in
    (kept.0, c.in_ok-mend_first.ensures.mends.mended kept.0 kept.1 kept.2)

pub returns : goal.returns
returns g c =
    let old : JournalState g.row.D.Denot = record { disk = c.args.disk.now; place = c.args.place.now; due = c.args.due.now } in
    let new : JournalState g.row.D.Denot = record { disk = c.put.new.disk; place = c.put.new.place; due = c.put.new.due } in
    append_on g.D.Disk.seen old c.mend_first.new.disk new (payload_behind c.args.bytes.now)
    c.in_ok-mend_first.ensures.mends.mended c.mend_first.ensures.mends.any_moment c.mend_first.ensures.mends.cause.later
    c.put.result c.put.ensures
