-- The journaling of an entry, by its exits.
use Rattle.std.proofs.Common.{arith}
use Rattle.book.proofs.Requests.{accepts_fault, accepts_memory, accepts_reply}
use Rattle.book.proofs.JournalEntries.{book_holds}
use Rattle.book.proofs.books.accept.Goals as goal

pub returns-in_default : goal.returns-in_default
returns-in_default g c =
    let stands = book_holds g.D.Disk.seen c.args.journal.now c.args.state.now.history c.args.pending.now c.requires.keeps c.stands.ensures.stands in
    accepts_memory g.D.Disk.seen g.met.D.Disk.only_now c.args.journal.now c.args.state.now.history c.cancel.new.self.history c.args.pending.now c.args.prepared
    c.cancel.ensures.history c.requires.keeps stands

pub keep-requires-clause-room : goal.keep-requires-clause-room
keep-requires-clause-room g c = omega (arith, c.requires.within, c.requires.room.room)

pub returns-in-Ok-keep : goal.returns-in-Ok-keep
returns-in-Ok-keep g c =
    let H = c.args.state.now.history in
    let accepted = c.requires.room.accepted in
    accepts_reply g.D.Disk.seen c.args.journal.now c.keep.new.journal H c.commit.new.state.history
    c.args.pending.now c.keep.new.pending c.args.prepared c.commit.result
    c.commit.ensures.history c.in-Ok-keep.ensures.none c.commit.ensures.reply
    (c.in-Ok-keep.ensures.added H accepted c.requires.keeps) c.in-Ok-keep.ensures.place
    (c.keep.ensures.any_moment H accepted c.requires.keeps) c.keep.ensures.cause.later

pub returns : goal.returns
returns g c =
    let H = c.args.state.now.history in
    let accepted = c.requires.room.accepted in
    accepts_fault g.D.Disk.seen c.args.journal.now c.keep.new.journal H c.cancel-in-Err.new.self.history c.args.pending.now c.keep.new.pending c.args.prepared
    c.cancel-in-Err.ensures.history c.in-Err.ensures.pending_is
    (c.in-Err.ensures.kept H accepted c.requires.keeps) c.in-Err.ensures.place_err c.in-Err.ensures.cause.failed
    (c.keep.ensures.any_moment H accepted c.requires.keeps) c.keep.ensures.cause.later
