-- A disk as a compacted journal.
use Rattle.std.proofs.Common.{inl, List, Vec, ℕ, subst}
use Rattle.std.specs.declared.alloc.Global.{Global}
use Rattle.journal.specs.KeptRecords.{payloads as payloads_of}
use Rattle.book.specs.Compaction.CompactedJournals.{CompactsOpen}
use Rattle.book.proofs.Payloads.CompactedRecords.{compacts}
use Rattle.book.proofs.OpenJournals.{not_opened}
use Rattle.book.proofs.compacting.compact.Goals as goal

pub returns-in-Ok : goal.returns-in-Ok
returns-in-Ok g c =
    let D = g.D.Disk in
    let open_ = subst
    (λ (records : List (Vec ℕ Global)). CompactsOpen D.seen c.args.rules
    (payloads_of records) c.in-Ok.journal.disk c.compact_open.result.0 c.compact_open.result.1)
    c.deref.ensures.value c.compact_open.ensures in
    compacts D.seen c.args.rules c.args.disk c.in-Ok.journal.disk
    (payloads_of c.in-Ok.records.items) c.in-Ok.ensures.recovered.read c.in-Ok.ensures.recovered.any_moment c.in-Ok.ensures.recovered.later
    c.compact_open.result.0 c.compact_open.result.1 open_

pub returns-in-Err : goal.returns-in-Err
returns-in-Err g c =
    let D = g.D.Disk in
    inl (not_opened D.seen c.args.rules c.args.disk c.in-Err.disk c.in-Err.fault c.in-Err.ensures.refused c.fault_of.result c.fault_of.ensures)
