use Rattle.routes.proofs.Requests.SingleReadings.{request_same}
use Rattle.routes.proofs.laws.one_request_reading.Goals as goal

pub returns : goal.returns
returns c = request_same c.one_rankable_reading.ensures c.one_topics_reading.ensures
