use Rattle.campaign_server.proofs.ServerEnds.JoinedWorkers.{has_served}
use Rattle.campaign_server.proofs.servers.workers.fn.serve_by.for_each_mut.Goals as goal

pub returns : goal.returns
returns g c = λ start fresh.
    has_served c.captures.crew.now.keys.now c.captures.crew.now.hall start c.args.work.now c.serve_all.new.work fresh c.serve_all.ensures
