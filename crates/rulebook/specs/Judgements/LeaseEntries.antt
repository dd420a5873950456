-- The entries that ask for leases, and those that end them.
use Rattle.std.specs.Prelude.{◌≡◌, ℕ, Bool, ◌==◌, ◌+◌, List, Option, Some, None, filter, if◌then◌else◌, is_some, map, slice_get}
use Rattle.std.specs.List.{filter_map}
use Rattle.std.specs.Option.{option_and_then}
use Rattle.lease_desk.specs.declared.leases.LeaseEnd.{LeaseEnd}
use Rattle.lease_desk.specs.declared.leases.LeaseEnd.TheVariants.{Graded, Released}
use Rattle.rulebook.specs.declared.ask.Command.{Command}
use Rattle.rulebook.specs.declared.entry.Entry.{Entry}
use Rattle.rulebook.specs.Campaign.{History, tells}
use Rattle.rulebook.specs.Judgements.Leases.{Lease, is_ended, lease_in, leases}
use Rattle.rulebook.specs.Histories.Legal.{IsLegal}

abbrev pub asks_lease : Command → Bool
asks_lease c = is_some (tells c).lease_wish

-- the Lease entries
abbrev pub lease_entries : History → List Entry
lease_entries H = filter (λ e. asks_lease e.core.command) H

-- each Lease entry was told the lease at its place among the leases, and a lease has the number of its place, from 1
pub record AreLeaseEntries (H : History) : Type 0 where
  pub told : map (λ e. lease_in e.core.caller.name e.reply) (lease_entries H) ≡ map Some (leases H)
  pub numbered : (place : ℕ) (lease : Lease) → slice_get (leases H) place ≡ Some lease → lease.number ≡ place + 1

-- Lease number i is what the i-th Lease entry was told.
abbrev pub LeasesAreEntries : Type 0
LeasesAreEntries = (H : History) → IsLegal H → AreLeaseEntries H

-- with a grade, or without one
abbrev pub end_with : Option ℕ → LeaseEnd
end_with (Some grade) = Graded
end_with None = Released

-- the end that a command gives a lease
abbrev pub end_in : ℕ → Command → Option LeaseEnd
end_in number c = option_and_then (λ ended. if ended.number == number then Some (end_with ended.grade) else None) (tells c).lease_end

-- the end of a lease: that of the first entry that gives it one
abbrev pub end_of : History → ℕ → Option LeaseEnd
end_of H number = slice_get (filter_map (λ e. end_in number e.core.command) H) 0

-- A lease has an end where it ended.
abbrev pub EndsAreThere : Type 0
EndsAreThere = (H : History) (number : ℕ) → is_some (end_of H number) ≡ is_ended H number
