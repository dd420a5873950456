use denote.Param.{param}
use denote.Param.Send.{IsSend, IsSync, sendable}
use Rattle.core.proofs.ledger.Share.TheSendSync.{the_send as share_send}
use Rattle.std.proofs.Crossing.{crosses}
use Rattle.std.proofs.Common.{rules, ◌≡◌, ◌<◌, length, subst, sym}
use Rattle.hall.proofs.halls.Hall.TheSendSync.{the_sync as hall_sync}
use Rattle.hall.proofs.passes.Pass.TheSendSync.{the_send as pass_send}
use Rattle.book.proofs.MovableBooks.{book_send}
use Rattle.routes.proofs.keys.Keys.TheSendSync.{the_sync as keys_sync}
use Rattle.campaign_server.specs.Crews.Workers.{HasServed, IsFreshWorker}
use Rattle.campaign_server.proofs.SharedTables.{paths_sync}
use Rattle.campaign_server.proofs.servers.acceptors.Acceptor.TheSendSync.{the_send as acceptor_send}
use Rattle.campaign_server.proofs.ends.End.TheSendSync.{the_send as end_send}
use Rattle.campaign_server.proofs.servers.workers.serve_by.Goals as goal

-- a worker moves to a thread
pub for_each_mut-requires-send-T : goal.for_each_mut-requires-send-T
for_each_mut-requires-send-T g c κs within =
    let disk : IsSend (param 0 g.row.D) = search rules parts 8 in
    let ledger : IsSend (param 2 g.row.J) = search rules parts 8 in
    let kept : IsSend (param 5 g.row.R-Record) = search rules parts 8 in
    search (crosses, sendable, pass_send, book_send, share_send, end_send) depth 60 fits 20000

-- and all threads share the hall, the acceptor's lock, the table of the paths and the keys
pub for_each_mut-requires-sync-F : goal.for_each_mut-requires-sync-F
for_each_mut-requires-sync-F g c κs within =
    let disk : IsSend (param 0 g.row.D) = search rules parts 8 in
    let door : IsSend (param 1 g.row.R) = search rules parts 8 in
    let ledger : IsSend (param 2 g.row.J) = search rules parts 8 in
    let ledger_sync : IsSync g.row.J = search rules parts 8 in
    let waits : IsSync g.row.W = search rules parts 8 in
    search (crosses, sendable, hall_sync, book_send, paths_sync, keys_sync, acceptor_send) depth 60 fits 20000

pub returns-clause-served : goal.returns-clause-served
returns-clause-served g c = λ start all k d less.
    let same : length c.for_each_mut.new.s ≡ length c.args.team.now = search rules in
    let within : k < length c.args.team.now = subst (λ n. k < n) same less in
    let x = (c.for_each_mut.ensures k d within).1 in
    let hall = c.args.crew.now.hall in
    subst (HasServed c.args.crew.now.keys.now hall start) x.left (x.call start (subst (IsFreshWorker hall start) (sym x.argument_is) (all k d within)))
