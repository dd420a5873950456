-- What a book keeps of its parts, said of what contracts see.
use Rattle.std.proofs.Common.{subst}
use Rattle.book.specs.Books.{BookView, IsSound}
use Rattle.book.specs.JournaledEntries.{BookParts}
use Rattle.book.proofs.Requests.{sound_of}
use Rattle.book.proofs.JournalEntries.{book_holds}
use Rattle.book.proofs.books.Book.stands.Goals as goal

pub returns : goal.returns
returns g c =
    let s = c.self.inside in
    let parts : BookParts g.row.D.Denot = record { journal = s.journal; history = s.state.history; pending = s.pending } in
    subst (λ (book : BookView g.row.D.Denot). IsSound g.D.Disk.seen book) c.self.view_is
    (sound_of g.D.Disk.seen parts s.opening c.self.invariant
    (book_holds g.D.Disk.seen s.journal s.state.history s.pending c.self.invariant.keeps c.stands.ensures.stands))
