-- A journal without records as a book.
use Rattle.std.proofs.Common.{[]}
use Rattle.book.specs.declared.faults.BookFault.TheVariants as fault
use Rattle.book.proofs.Founders.{founding_story}
use Rattle.book.proofs.OpenJournals.{given_up}
use Rattle.book.proofs.opening.start.Goals as goal

pub establish-requires-clause-founded : goal.establish-requires-clause-founded
establish-requires-clause-founded g c =
    founding_story c.args.rules c.in-Ok.state.history c.in-Ok.frame c.requires.rules c.in-Ok.ensures.history c.in-Ok.ensures.frame

pub returns-in-Ok : goal.returns-in-Ok
returns-in-Ok g c = c.establish.ensures c.args.rules c.in-Ok.ensures.history

pub returns-in-Err : goal.returns-in-Err
returns-in-Err g c =
    let D = g.D.Disk in
    rw c.close.ensures (given_up D.seen g.met.D.Disk.only_now c.args.rules [] c.args.opening c.args.journal.disk
    (c.stands.ensures.alone [] c.requires.settled) fault.Memory tt)
