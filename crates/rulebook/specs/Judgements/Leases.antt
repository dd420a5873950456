-- The leases of a campaign whose list of accepted entries is H.
use Rattle.std.specs.Prelude.{ℕ, Bool, false, not, ◌&&◌, ◌==◌, ◌-◌, List, Option, Some, None, if◌then◌else◌, nat_lt, filter, slice_get}
use Rattle.std.specs.List.{list_any, filter_map}
use Rattle.std.specs.Option.{option_map_or}
use Rattle.std.specs.Str.{bytes_eq}
use Rattle.rulebook.specs.declared.ask.Command.{Command}
use Rattle.rulebook.specs.declared.reply.Reply.{Reply}
use Rattle.rulebook.specs.declared.reply.Reply.TheVariants as reply
use Rattle.rulebook.specs.Words.{Text}
use Rattle.rulebook.specs.Campaign.{History, tells}

-- a document that an assessor was told to grade, up to a moment
pub record Lease : Type 0 where
  pub number : ℕ
  pub assessor : Text
  pub topic : Text
  pub doc : Text
  pub until : ℕ

-- the lease that a reply tells an assessor
abbrev pub lease_in : Text → Reply → Option Lease
lease_in assessor (reply.Leased number topic doc until title) =
    Some (record { number = number; assessor = assessor; topic = topic; doc = doc; until = until })
lease_in assessor _ = None

-- the leases, in the order of their entries
abbrev pub leases : History → List Lease
leases H = filter_map (λ e. lease_in e.core.caller.name e.reply) H

-- lease number i is the i-th
abbrev pub lease_numbered : History → ℕ → Option Lease
lease_numbered H number = if nat_lt 0 number then slice_get (leases H) (number - 1) else None

-- a lease ends by its grade or its release
abbrev pub ends : ℕ → Command → Bool
ends number c = option_map_or (λ ended. ended.number == number) (tells c).lease_end false

abbrev pub is_ended : History → ℕ → Bool
is_ended H number = list_any (λ e. ends number e.core.command) H

-- a lease is live up to its moment, unless it ended
abbrev pub is_live : History → ℕ → Lease → Bool
is_live H now lease = not (is_ended H lease.number) && nat_lt now lease.until

abbrev pub live_leases : History → ℕ → List Lease
live_leases H now = filter (is_live H now) (leases H)

-- the live leases of an assessor
abbrev pub live_leases_of : History → ℕ → Text → List Lease
live_leases_of H now assessor = filter (λ lease. bytes_eq lease.assessor assessor) (live_leases H now)

-- the live leases on a document of a topic
abbrev pub live_leases_on : History → ℕ → Text → Text → List Lease
live_leases_on H now topic doc = filter (λ lease. bytes_eq lease.topic topic && bytes_eq lease.doc doc) (live_leases H now)

-- whether the assessor has a live lease on the document
abbrev pub has_lease : History → ℕ → Text → Text → Text → Bool
has_lease H now topic doc assessor = list_any (λ lease. bytes_eq lease.assessor assessor) (live_leases_on H now topic doc)
