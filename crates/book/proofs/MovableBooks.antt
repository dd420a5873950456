-- A book may move between threads where its disk may. The search for this gives up over all of a campaign's state at once, so the facts of its parts are named.
use denote.Param.Send.{IsSend, sendable}
use denote.RattleType.{RattleType}
use Rattle.std.proofs.Crossing.{crosses}
use Rattle.assessment.proofs.assessment.Assessment.TheSendSync.{the_send as assessment_send}
use Rattle.book.specs.contracts.books.Book.{the_row as book_row}
use Rattle.campaign_core.specs.contracts.state.State.{the_row as state_row}
use Rattle.decimal_rank.proofs.naming.Names.TheSendSync.{the_send as names_send}
use Rattle.disk_model.specs.declared.disks.Disk.{Ghosts}
use Rattle.journal.proofs.journals.Journal.TheSendSync.{the_send as journal_send}
use Rattle.rulebook.proofs.entry.Entry.TheSendSync.{the_send as entry_send}

state_send : IsSend state_row
state_send = search (crosses, sendable, assessment_send, entry_send, names_send) depth 60 fits 20000

pub book_send : (D : RattleType) (g : Ghosts D.Denot) → IsSend D → IsSend (book_row D g)
book_send D g disk = search (crosses, sendable, state_send, journal_send) depth 60 fits 20000
