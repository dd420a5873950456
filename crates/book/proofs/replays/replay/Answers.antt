-- The campaign whose entries were entered again.
use Rattle.std.proofs.Common.{◌∷◌}
use Rattle.journal.specs.KeptRecords.{payloads as payloads_of}
use Rattle.book.proofs.Founders.{finishes}
use Rattle.book.proofs.replays.replay.Goals as goal

pub returns-in-Ok : goal.returns-in-Ok
returns-in-Ok c =
    finishes c.args.rules (c.args.first.now ∷ payloads_of c.args.others.items) c.in-Ok.replay c.finished.result
    c.finished.ensures.history c.finished.ensures.memory c.in-Ok.ensures
