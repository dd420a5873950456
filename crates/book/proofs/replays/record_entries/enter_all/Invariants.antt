-- The entries went on with those of the payloads so far.
use Rattle.std.proofs.Common.{take}
use Rattle.journal.specs.KeptRecords.{payloads as payloads_of}
use Rattle.book.specs.Opening.Replays.{GoesOnWithRecords}
use Rattle.book.proofs.replays.record_entries.enter_all.Given as goal

abbrev pub invariant-loop-place : goal.invariant-loop-place
invariant-loop-place l = GoesOnWithRecords l.initial.replay (take l.place (payloads_of l.payloads)) l.replay
