-- The door was handed the records so far, in order, and its faults stay.
use Rattle.std.proofs.Common.{◌≡◌, ◌++◌, length}
use Rattle.std.specs.Vec.Iter.{into_iter_items, into_iter_len}
use Rattle.campaign_server.specs.Doors.{HandsOver}
use Rattle.campaign_server.specs.Crews.Records.{ended_of}
use Rattle.campaign_server.proofs.servers.hand_over.Given as goal

abbrev pub invariant-loop-record : goal.invariant-loop-record
invariant-loop-record g l =
    (l.yielded ++ into_iter_items l.record-iterator ≡ into_iter_items l.initial.record-iterator)
    × (into_iter_len l.record-iterator ≡ length (into_iter_items l.record-iterator))
    × HandsOver (g.R.Door.seen l.fn.door).told (ended_of g.R.Door.kept l.yielded) (g.R.Door.seen l.door).told
    × ((g.R.Door.seen l.door).faults ≡ (g.R.Door.seen l.fn.door).faults)
