-- Leases, in the order of their numbers.
use Rattle.std.specs.Prelude.{◌≡◌, ℕ, ◌+◌, ◌-◌, ◌==◌, ◌&&◌, nat_lt, Bool, List, [], ◌∷◌, ◌++◌, Option, Some, None, IfSome, map, count_by, length, is_none, slice_get, if◌then◌else◌}
use Rattle.std.specs.List.{list_any}
use Rattle.std.specs.Str.{bytes_eq}
use Rattle.decimal_rank.specs.declared.naming.DocId.{DocId}
use Rattle.lease_desk.specs.declared.leases.Lease.{Lease}
use Rattle.lease_desk.specs.declared.leases.LeaseEnd.{LeaseEnd}

-- a lease is live at a moment where it has no end and the moment is before `until`
abbrev pub is_lease_live : Lease → ℕ → Bool
is_lease_live lease now = is_none lease.end && nat_lt now lease.until

-- whether a lease is of an assessor
abbrev pub is_of_assessor : List ℕ → Lease → Bool
is_of_assessor assessor lease = bytes_eq lease.assessor assessor

-- whether a lease is on a topic
abbrev pub is_on_topic : ℕ → Lease → Bool
is_on_topic topic lease = lease.topic == topic

-- whether a lease is on a document of a topic
abbrev pub is_on_document : ℕ → DocId → Lease → Bool
is_on_document topic doc lease = is_on_topic topic lease && (lease.doc.0 == doc.0)

-- how many leases on a document are live
abbrev pub live_on : List Lease → ℕ → DocId → ℕ → ℕ
live_on leases topic doc now = count_by (λ lease. is_on_document topic doc lease && is_lease_live lease now) leases

-- how many leases on a topic are live
abbrev pub live_on_topic : List Lease → ℕ → ℕ → ℕ
live_on_topic leases topic now = count_by (λ lease. is_on_topic topic lease && is_lease_live lease now) leases

-- how many leases of an assessor are live
abbrev pub live_of : List Lease → List ℕ → ℕ → ℕ
live_of leases assessor now = count_by (λ lease. is_of_assessor assessor lease && is_lease_live lease now) leases

-- whether an assessor has a live lease on a document
abbrev pub has_live : List Lease → List ℕ → ℕ → DocId → ℕ → Bool
has_live leases assessor topic doc now = list_any (λ lease. is_of_assessor assessor lease && is_on_document topic doc lease && is_lease_live lease now) leases

-- the lease of a number, which is its place from 1
abbrev pub desk_lease : List Lease → ℕ → Option Lease
desk_lease leases number = if nat_lt 0 number then slice_get leases (number - 1) else None

-- each lease's number is its place from 1
abbrev pub AreNumbered : List Lease → Type 0
AreNumbered leases = (number : ℕ) → IfSome (desk_lease leases number) (λ lease. lease.number ≡ number)

-- a lease that is granted after these
abbrev pub next_lease : List Lease → List ℕ → ℕ → DocId → ℕ → Lease
next_lease leases assessor topic doc until =
    record { number = length leases + 1; assessor = assessor; topic = topic; doc = doc; until = until; end = None }

-- the leases with one more at their end, which has no end
abbrev pub with_grant : List Lease → List ℕ → ℕ → DocId → ℕ → List Lease
with_grant leases assessor topic doc until = leases ++ next_lease leases assessor topic doc until ∷ []

-- a lease that has come to an end
abbrev pub ended_lease : LeaseEnd → Lease → Lease
ended_lease how lease = record lease { end = Some how }

-- the leases after the lease of a number comes to an end
abbrev pub with_end : List Lease → ℕ → LeaseEnd → List Lease
with_end leases number how = map (λ lease. if lease.number == number then ended_lease how lease else lease) leases
