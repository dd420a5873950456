-- The records of the payloads so far.
use Rattle.std.proofs.Common.{take}
use Rattle.journal.specs.KeptRecords.{AreRecords, payloads as payloads_of}
use Rattle.journal.proofs.replacing.areas.records_of.Given as goal

abbrev pub invariant-loop-payload : goal.invariant-loop-payload
invariant-loop-payload l = AreRecords l.run.items (payloads_of (take l.payload-index l.payloads))
