-- The door was handed the records of the workers so far, and its faults stay.
use Rattle.std.proofs.Common.{◌≡◌, ◌++◌, length}
use Rattle.std.specs.Vec.Iter.{into_iter_items, into_iter_len}
use Rattle.campaign_server.specs.Doors.{HandsOver}
use Rattle.campaign_server.specs.Crews.Records.{ended_all}
use Rattle.campaign_server.proofs.servers.hand_all.Given as goal

abbrev pub invariant-loop-records : goal.invariant-loop-records
invariant-loop-records g l =
    (l.yielded ++ into_iter_items l.records-iterator ≡ into_iter_items l.initial.records-iterator)
    × (into_iter_len l.records-iterator ≡ length (into_iter_items l.records-iterator))
    × HandsOver (g.R.Door.seen l.fn.door).told (ended_all (λ v. v.items) g.R.Door.kept l.yielded) (g.R.Door.seen l.door).told
    × ((g.R.Door.seen l.door).faults ≡ (g.R.Door.seen l.fn.door).faults)
