-- The entries that a payload spells.
use Rattle.std.proofs.Common.{List, rules}
use Rattle.record_codec.specs.Payloads.{IsPayload}
use Rattle.rulebook.specs.declared.entry.EntryCore.{EntryCore}
use Rattle.book.proofs.Payloads.PayloadEntries.{enters_long, enters_payload, enters_unread, payload_fit}
use Rattle.book.proofs.replays.record_entries.enter_payload.Goals as goal

pub returns-in-Err-NoEntry : goal.returns-in-Err-NoEntry
returns-in-Err-NoEntry c =
    let none : (cores : List EntryCore) → IsPayload c.args.payload.now cores → ⊥ = search rules in
    enters_unread c.args.replay.now c.args.payload.now none

pub returns-then-payload : goal.returns-then-payload
returns-then-payload c =
    enters_long c.requires.laws c.args.replay.now c.args.payload.now c.in-Ok.cores.items c.entries-legal.ensures.legal c.in-Ok.ensures.entries c.if-payload.true

pub enter_cores-requires-clause-fit : goal.enter_cores-requires-clause-fit
enter_cores-requires-clause-fit c = payload_fit c.requires.laws c.args.payload.now c.in-Ok.cores.items c.in-Ok.ensures.entries c.if-payload.false

pub returns : goal.returns
returns c =
    enters_payload c.args.replay.now c.args.payload.now c.in-Ok.cores.items c.in-Ok.ensures.entries
    c.enter_cores.result c.enter_cores.new.replay c.enter_cores.ensures
