-- The other records behind the first.
use Rattle.journal.specs.KeptRecords.{payloads as payloads_of}
use Rattle.book.proofs.replays.replayed_owned.Goals as goal

pub returns-in-Ok : goal.returns-in-Ok
returns-in-Ok c =
    c.ended.ensures c.args.rules c.args.first.now (payloads_of c.args.others.items) c.in-Ok.replay c.requires.rules c.in-Ok.ensures c.enter_each-entered.ensures
