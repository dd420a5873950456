-- What a disk keeps for a journal: its records, and the one whose append failed last.
use Rattle.std.specs.Prelude.{◌≡◌, ◌≢◌, ◌⊎◌, ℕ, ◌+◌, ◌≤◌, List, [], ◌∷◌, ◌++◌, Some, Vec, length, take, drop, get_or, map}
use Rattle.std.specs.declared.alloc.Global.{Global}
use Rattle.journal.specs.declared.dues.Due.{Due}
use Rattle.journal.specs.declared.dues.Due.TheVariants.{Nothing, Cut, Gate}
use Rattle.journal.specs.Format.{count_of_bytes, decode, mark, place_behind, records, state_byte, told_length}

-- These bytes are records: whatever follows adds what it gives.
pub record AreRecords (bytes : List ℕ) (all : List (List ℕ)) : Type 0 where
  pub size : length bytes ≡ count_of_bytes all
  pub gives : (rest : List ℕ) → records 0 (bytes ++ rest) ≡ all ++ records 0 rest

-- These bytes hold the records up to the gate at this place, behind a header that tells of no move.
pub record AreFrontRecords (front : List ℕ) (place : ℕ) (all : List (List ℕ)) : Type 0 where
  pub size : length front ≡ place
  pub total : place ≡ place_behind all
  pub marked : take 8 front ≡ mark
  pub at_rest : state_byte front ≢ 2
  pub holds : AreRecords (drop 16 front) all

-- a whole record with an open gate begins at this place, and its payload has so many bytes
pub record IsRecord (bytes : List ℕ) (place count : ℕ) : Type 0 where
  pub open_gate : drop place bytes ≡ 1 ∷ drop (place + 1) bytes
  pub told : told_length (drop (place + 1) bytes) ≡ count
  pub whole : place + 5 + count ≤ length bytes

-- each image is the records, a closed gate, and behind it bytes of which P holds
pub record Shut (images : List ℕ → Type 0) (place : ℕ) (all : List (List ℕ)) (P : List ℕ → Type 0) : Type 0 where
  pub front : List ℕ
  pub is_front : AreFrontRecords front place all
  pub gate : ℕ
  pub shut : gate ≢ 1
  pub each : (image : List ℕ) → images image → (behind : List ℕ) × (image ≡ front ++ gate ∷ behind) × P behind

-- each image is the records, a closed gate and these bytes
abbrev pub Staged : (List ℕ → Type 0) → ℕ → List (List ℕ) → List ℕ → Type 0
Staged images place all bytes = Shut images place all (λ behind. behind ≡ bytes)

-- each image is the records and a closed gate
abbrev pub Settled : (List ℕ → Type 0) → ℕ → List (List ℕ) → Type 0
Settled images place all = Staged images place all []

-- each image is the records and a closed gate, behind which anything may stand
abbrev pub CutDue : (List ℕ → Type 0) → ℕ → List (List ℕ) → Type 0
CutDue images place all = Shut images place all (λ behind. Unit {0})

-- each image has a 0 at this place, as a writer closes a gate
abbrev pub ClosesAt : (List ℕ → Type 0) → ℕ → Type 0
ClosesAt images place = (image : List ℕ) → images image → (behind : List ℕ) × (drop place image ≡ 0 ∷ behind)

-- and ends with it
abbrev pub EndsClosed : (List ℕ → Type 0) → ℕ → Type 0
EndsClosed images place = (image : List ℕ) → images image → drop place image ≡ 0 ∷ []

-- Each image is the records, some gate, and the same bytes behind it; or there is no gate, and nothing behind.
pub record GateDue (images : List ℕ → Type 0) (place : ℕ) (all pending : List (List ℕ)) : Type 0 where
  pub front : List ℕ
  pub is_front : AreFrontRecords front place all
  pub tail : List ℕ
  pub behind : records 0 (1 ∷ tail) ≡ pending
  pub each : (image : List ℕ) → images image → ((image ≡ front) × (tail ≡ [])) ⊎ ((gate : ℕ) × (image ≡ front ++ gate ∷ tail))

-- What a mend has to do where no record begins at this place: close a gate that is open or missing, or only cut.
abbrev pub DueAt : List ℕ → ℕ → Due → Type 0
DueAt bytes place Nothing = ⊥
DueAt bytes place Cut = (get_or bytes place 0 ≢ 1) × (drop place bytes ≡ get_or bytes place 0 ∷ drop (place + 1) bytes)
DueAt bytes place Gate = (drop place bytes ≡ []) ⊎ (drop place bytes ≡ 1 ∷ drop (place + 1) bytes)

-- these records, and perhaps the pending ones, with what a mend has to do
abbrev pub Keeps : (List ℕ → Type 0) → ℕ → Due → List (List ℕ) → List (List ℕ) → Type 0
Keeps images place Nothing all pending = Settled images place all × (pending ≡ [])
Keeps images place Cut all pending = CutDue images place all × (pending ≡ [])
Keeps images place Gate all pending = GateDue images place all pending

-- some records are kept
abbrev pub KeepsAny : (List ℕ → Type 0) → ℕ → Due → Type 0
KeepsAny images place due = (all : List (List ℕ)) × (pending : List (List ℕ)) × Keeps images place due all pending

-- these records are kept, with none pending or with these
abbrev pub KeepsSome : (List ℕ → Type 0) → ℕ → Due → List (List ℕ) → List (List ℕ) → Type 0
KeepsSome images place due all pending = Keeps images place due all [] ⊎ Keeps images place due all pending

-- these records are kept, with none pending, with those that were, or with this one
abbrev pub StillKeeps : (List ℕ → Type 0) → ℕ → Due → List (List ℕ) → List (List ℕ) → List ℕ → Type 0
StillKeeps images place due all pending payload = KeepsSome images place due all pending ⊎ Keeps images place due all (payload ∷ [])

-- the image gives these records, or these and the pending ones
abbrev pub HoldsRecords : List (List ℕ) → List (List ℕ) → List ℕ → Type 0
HoldsRecords all pending image = (decode image ≡ Some all) ⊎ (decode image ≡ Some (all ++ pending))

-- the image gives these records, these and the pending ones, or these and this one
abbrev pub HoldsRecordsOfOne : List (List ℕ) → List (List ℕ) → List ℕ → List ℕ → Type 0
HoldsRecordsOfOne all pending payload image = HoldsRecords all pending image ⊎ HoldsRecords all (payload ∷ []) image

-- the payloads as lists
abbrev pub payloads : List (Vec ℕ Global) → List (List ℕ)
payloads found = map (λ payload. payload.items) found

abbrev pub HasSettled : (List ℕ → Type 0) → ℕ → Type 0
HasSettled images place = (all : List (List ℕ)) × Settled images place all

abbrev pub HasCutDue : (List ℕ → Type 0) → ℕ → Type 0
HasCutDue images place = (all : List (List ℕ)) × CutDue images place all
