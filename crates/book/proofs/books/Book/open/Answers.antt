-- A disk as a book.
use Rattle.journal.specs.KeptRecords.{payloads as payloads_of}
use Rattle.book.proofs.OpenJournals.{not_opened, opened_result, refused_result}
use Rattle.book.proofs.books.Book.open.Goals as goal

pub returns-in-Ok-clause-opened : goal.returns-in-Ok-clause-opened
returns-in-Ok-clause-opened g c =
    let D = g.D.Disk in
    opened_result D.seen c.args.rules c.args.disk c.in-Ok.journal.disk
    (payloads_of c.in-Ok.records.items) c.faults-opening.result c.faults-opening.ensures c.in-Ok.ensures.recovered.later
    c.in-Ok.ensures.recovered.read c.in-Ok.ensures.recovered.any_moment c.open_records.result c.open_records.ensures

pub returns-in-Ok-clause-refused : goal.returns-in-Ok-clause-refused
returns-in-Ok-clause-refused g c =
    let D = g.D.Disk in
    refused_result D.seen c.args.rules c.args.disk c.in-Ok.journal.disk
    (payloads_of c.in-Ok.records.items) c.faults-opening.result c.in-Ok.ensures.recovered.later c.in-Ok.ensures.recovered.read
    c.in-Ok.ensures.recovered.any_moment c.open_records.result c.open_records.ensures

pub returns-in-Err-clause-refused : goal.returns-in-Err-clause-refused
returns-in-Err-clause-refused g c =
    let D = g.D.Disk in
    not_opened D.seen c.args.rules c.args.disk c.in-Err.disk c.in-Err.fault c.in-Err.ensures.refused c.fault_of.result c.fault_of.ensures
