-- The count, with what counts from the next lease on backwards, is the whole count.
use Rattle.std.proofs.Common.{◌+◌, ◌≤◌, Bool, length}
use Rattle.std.specs.Option.{option_map}
use Rattle.lease_desk.specs.Series.{IsSeriesOf, up_to}
use Rattle.lease_desk.specs.declared.leases.Lease.{Lease}
use Rattle.lease_desk.proofs.SeriesCounts.{IsCounted}
use Rattle.lease_desk.proofs.walks.count_live.Given as goal

abbrev pub invariant-loop-next : goal.invariant-loop-next
invariant-loop-next l = record {
  within : l.count + up_to l.next ≤ length l.leases;
  counted : (key : Lease → Bool) → IsSeriesOf key l.leases l.links l.fn.newest
      → IsCounted key (option_map (λ name. name.now) l.assessor) l.now l.leases l.count l.next;
}

abbrev pub decreases-loop-next : goal.decreases-loop-next
decreases-loop-next l = up_to l.next
