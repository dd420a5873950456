use Rattle.std.proofs.Common.{rules, Ok}
use Rattle.routes.specs.Keys.{without_key}
use Rattle.routes.specs.PathTable.RouteTable.{Asks, parameter}
use Rattle.routes.proofs.Requests.AddressedRequests.{addressed_at}
use Rattle.routes.proofs.asks.read_ask.Goals as goal

pub returns-clause-addressed : goal.returns-clause-addressed
returns-clause-addressed c = λ moment latest.
    let opening = c.in_ok-opening.opening in
    let opened = c.in_ok-opening.ensures in
    let text = parameter c.bytes-path.result.now in
    let body = c.args.request.now.body in
    let asks : Asks opening.place.question text body (Ok c.in_ok-ask.ask) = search (rules, c.in_ok-ask.ensures.ask) in
    rw c.in_ok-without_key.ensures
    (addressed_at opening.place (without_key opening.caller.now) opening.number text body c.in_ok-ask.ask moment opened.known opened.named opened.number
    opened.role opened.fitting asks c.in_ok-ask.ensures.sound c.requires latest)
