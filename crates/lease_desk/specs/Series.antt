-- The leases of one key, from the newest to the oldest, without those that have ended: of a document, of a topic, or of the names with one key.
use Rattle.std.specs.Prelude.{◌≡◌, ℕ, ◌+◌, ◌<◌, ◌≤◌, ◌⊎◌, Bool, is_none, true, false, List, [], ◌∷◌, Option, Some, None, length, slice_get, slice_index_or, ◌==◌, ◌&&◌}
use Rattle.std.specs.Option.{option_map_or}
use Rattle.lease_desk.specs.declared.series.Link.{Link}
use Rattle.lease_desk.specs.declared.leases.Lease.{Lease}
use Rattle.lease_desk.specs.Leases.{is_of_assessor}

-- the place of the last element that passes, from the last one behind the first and from whether the first passes
abbrev pub last_of : Option ℕ → Bool → Option ℕ
last_of (Some place) first = Some (place + 1)
last_of None true = Some 0
last_of None false = None

-- the place of the last element that passes a test, from 0
abbrev pub last_place : {X : Type 0} → (X → Bool) → List X → Option ℕ
last_place passes [] = None
last_place passes (x ∷ xs) = last_of (last_place passes xs) (passes x)

-- how many elements stand up to a place
abbrev pub up_to : Option ℕ → ℕ
up_to None = 0
up_to (Some place) = place + 1

-- each link leads to an earlier place
abbrev pub LeadEarlier : List Link → Type 0
LeadEarlier links = (place : ℕ) (link : Link) → place < length links → up_to (slice_index_or links place link).previous ≤ place

-- from a place back to a lease that passes a test, or to none: those between that pass it have ended
pub record LeadsBack (passes : Lease → Bool) (leases : List Lease) (place : ℕ) (previous : Option ℕ) : Type 0 where
  pub earlier : up_to previous ≤ place
  pub passes_there : (there : ℕ) (lease : Lease) → previous ≡ Some there → passes (slice_index_or leases there lease) ≡ true
  pub ended_between : (i : ℕ) (lease : Lease) → up_to previous ≤ i → i < place → passes (slice_index_or leases i lease) ≡ true
      → is_none (slice_index_or leases i lease).end ≡ false

-- the leases that pass a test, from the newest on: each one's link leads back past ended ones alone, and none of them
-- up to it has a later `until` than the link
pub record IsSeriesOf (passes : Lease → Bool) (leases : List Lease) (links : List Link) (newest : Option ℕ) : Type 0 where
  pub newest_is : newest ≡ last_place passes leases
  pub leads_back : (place : ℕ) (lease : Lease) (link : Link) → place < length leases → passes (slice_index_or leases place lease) ≡ true
      → LeadsBack passes leases place (slice_index_or links place link).previous
  pub latest_is : (place earlier : ℕ) (lease : Lease) (link : Link) → place < length leases
      → earlier ≤ place → passes (slice_index_or leases place lease) ≡ true
      → passes (slice_index_or leases earlier lease) ≡ true → (slice_index_or leases earlier lease).until ≤ (slice_index_or links place link).latest_until

-- one more link behind the others, which lead where they led: it leads back from the newest lease of its key
pub record HasLink (leases : List Lease) (old new : List Link) (newest : Option ℕ) (latest_until : ℕ) : Type 0 where
  pub as_many : length new ≡ length old + 1
  pub previous_stays : (i : ℕ) (link : Link) → i < length old → (slice_index_or new i link).previous ≡ (slice_index_or old i link).previous
  pub latest_stays : (i : ℕ) (link : Link) → i < length old → (slice_index_or new i link).latest_until ≡ (slice_index_or old i link).latest_until
  pub latest_is : (link : Link) → (slice_index_or new (length old) link).latest_until ≡ latest_until
  pub leads_back : (passes : Lease → Bool) → IsSeriesOf passes leases old newest → (link : Link)
      → LeadsBack passes leases (length old) (slice_index_or new (length old) link).previous

-- where a link led, or where that of a place leads if it led to the place
abbrev pub IsPast : ℕ → Option ℕ → Option ℕ → Option ℕ → Type 0
IsPast place behind old new = (new ≡ old) ⊎ ((old ≡ Some place) × (new ≡ behind))

-- links that lead where they led, or past a place where they led there
pub record LeadPast (place : ℕ) (old new : List Link) : Type 0 where
  pub as_many : length new ≡ length old
  pub latest_stays : (i : ℕ) (link : Link) → (slice_index_or new i link).latest_until ≡ (slice_index_or old i link).latest_until
  pub previous_is : (i : ℕ) (link : Link)
      → IsPast place (slice_index_or old place link).previous (slice_index_or old i link).previous (slice_index_or new i link).previous

-- a series for each key
pub record AreInSeries {K : Type 0} (same : K → K → Bool) (key_of : Lease → K) (leases : List Lease) (links : List Link) (newest : K → Option ℕ) : Type 0 where
  pub as_many : length links ≡ length leases
  pub each : (key : K) → IsSeriesOf (λ lease. same key (key_of lease)) leases links (newest key)

-- the greatest `until` at a place, and 0 where there is no place
abbrev pub latest_at : List Link → Option ℕ → ℕ
latest_at links None = 0
latest_at links (Some place) = option_map_or (λ link. link.latest_until) (slice_get links place) 0

-- whether a lease is of the assessor that is asked for: of any, where none is
abbrev pub is_asked : Option (List ℕ) → Lease → Bool
is_asked None lease = true
is_asked (Some assessor) lease = is_of_assessor assessor lease

-- a document's key
abbrev pub document_of : Lease → ℕ × ℕ
document_of lease = (lease.topic, lease.doc.0)

-- whether two documents are the same
abbrev pub same_document : ℕ × ℕ → ℕ × ℕ → Bool
same_document a b = (a.0 == b.0) && (a.1 == b.1)
