use Rattle.std.proofs.Common.{subst, sym}
use Rattle.routes.specs.AskReading.AskStates.{AskFed, IsAskAt, IsAsking}
use Rattle.routes.specs.Openings.{opening_of}
use Rattle.routes.proofs.Requests.AskFeeds.{opened_read}
use Rattle.routes.proofs.ask_reader.AskReader.finish.Goals as goal

pub returns-in-Reads-clause-reading : goal.returns-in-Reads-clause-reading
returns-in-Reads-clause-reading c = λ head keys body asking.
    let was = subst (λ (reader : AskFed). IsAsking head keys body reader) (sym c.self.view_is) asking in
    let (found, is, opened) = subst (IsAskAt (opening_of head.method head.path head.fields keys) head.path body) c.in-Reads.is was in
    opened_read head keys body found c.end_opened.result is (c.end_opened.ensures.reading found head body opened)
