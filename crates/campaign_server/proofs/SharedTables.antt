-- Threads may share the table of the paths. The search for this gives up over all that workers share at once, so the table's is a lemma.
use denote.Param.Send.{IsSync, sendable}
use Rattle.std.proofs.Crossing.{crosses}
use Rattle.matchit.proofs.route.Route.TheSendSync.{the_sync as route_sync}
use Rattle.matchit.proofs.tree.Node.TheLaws.TheKnot.{crosses as node_crosses}
use Rattle.routes.specs.contracts.router.Paths.{the_row as paths_row}
use Rattle.slab.proofs.Slab.TheSendSync.{the_sync as slab_sync}

pub paths_sync : IsSync paths_row
paths_sync = search (node_crosses, crosses, sendable, route_sync, slab_sync) depth 60 fits 20000
