use Rattle.std.proofs.Common.{refl, Ok, Err}
use Rattle.routes.proofs.Requests.AskFeeds.{addressed_there, asked_there}
use Rattle.routes.proofs.ask_reader.end_opened.Goals as goal

pub returns-in-Ok-clause-reading : goal.returns-in-Ok-clause-reading
returns-in-Ok-clause-reading c = λ opening head body opened. (
  c.in-Ok.ask,
  asked_there opening head.path body c.bytes.result.now c.args.opened (Ok c.in-Ok.ask) c.bytes.ensures opened c.in-Ok.ensures.ask,
  rw (opened.who, opened.number) refl,
)

pub returns-in-Ok-clause-addressed : goal.returns-in-Ok-clause-addressed
returns-in-Ok-clause-addressed c = λ moment latest.
    addressed_there c.args.opened c.bytes.result.now c.in-Ok.ask c.bytes.ensures c.requires.addressable
    c.requires.few c.in-Ok.ensures.ask c.in-Ok.ensures.sound moment latest

pub returns-in-Err-clause-reading : goal.returns-in-Err-clause-reading
returns-in-Err-clause-reading c = λ opening head body opened.
    asked_there opening head.path body c.bytes.result.now c.args.opened (Err c.in-Err.fault) c.bytes.ensures opened c.in-Err.ensures.ask
