-- How records are moved: the records of an area, written behind the old ones, take their place behind the header.
use Rattle.std.specs.Prelude.{◌≡◌, ◌≢◌, ◌⊎◌, ◌<◌, ◌^◌, ℕ, List, [], ◌∷◌, ◌++◌, Some, length, take, drop}
use Rattle.std.specs.Int.{to_le_bytes, w64}
use Rattle.journal.specs.Format.{decode, mark, place_behind, records, state_byte, told_place}
use Rattle.journal.specs.KeptRecords.{AreFrontRecords, AreRecords}

-- the seven bytes that tell a place
abbrev pub place_bytes : ℕ → List ℕ
place_bytes place = take 7 (to_le_bytes w64 place)

-- These records, and a closed gate behind them.
pub record IsArea (area : List ℕ) (all : List (List ℕ)) : Type 0 where
  pub run : List ℕ
  pub holds : AreRecords run all
  pub ended : area ≡ run ++ 0 ∷ []

-- each image is the same bytes, of which P holds
pub record IsOneImage (images : List ℕ → Type 0) (P : List ℕ → Type 0) : Type 0 where
  pub bytes : List ℕ
  pub has : P bytes
  pub each : (image : List ℕ) → images image → image ≡ bytes

-- the records up to a closed gate, behind a header that tells of no move
pub record AreUpToGate (place : ℕ) (all : List (List ℕ)) (image : List ℕ) : Type 0 where
  pub front : List ℕ
  pub is_front : AreFrontRecords front place all
  pub gate : ℕ
  pub shut : gate ≢ 1
  pub behind : List ℕ
  pub is : image ≡ front ++ gate ∷ behind

-- Bytes that tell a place at which these records stand, with room for them in front of it: where byte 8 is 2 they give these records.
pub record HasArea (place : ℕ) (all : List (List ℕ)) (image : List ℕ) : Type 0 where
  pub marked : take 8 image ≡ mark
  pub told : told_place image ≡ place
  pub within : place < length image
  pub holds : records place image ≡ all
  pub room : place_behind all < place

-- the old records behind the header, the new ones at the place, whatever byte 8 is
abbrev pub HasBoth : ℕ → List (List ℕ) → List (List ℕ) → List ℕ → Type 0
HasBoth place old all image = HasArea place all image × (records 16 image ≡ old)

-- the old records behind the header, the new ones at the place, of which byte 8 doesn't tell yet
abbrev pub IsPlaced : ℕ → List (List ℕ) → List (List ℕ) → List ℕ → Type 0
IsPlaced place old all image = HasBoth place old all image × (state_byte image ≢ 2)

-- the new records at the place, of which byte 8 tells
abbrev pub IsTurned : ℕ → List (List ℕ) → List ℕ → Type 0
IsTurned place all image = HasArea place all image × (state_byte image ≡ 2)

-- the records of the area stand at some place, of which byte 8 tells
abbrev pub HasTurned : (List ℕ → Type 0) → List ℕ → Type 0
HasTurned images area = (place : ℕ) × (all : List (List ℕ)) × IsOneImage images (IsTurned place all) × IsArea area all × (place < 2 ^ 40)

-- the new records at the place, of which byte 8 tells, and behind the header
pub record IsMoved (place : ℕ) (all : List (List ℕ)) (image : List ℕ) : Type 0 where
  pub turned : IsTurned place all image
  pub run : List ℕ
  pub are_records : AreRecords run all
  pub behind : List ℕ
  pub is : drop 16 image ≡ run ++ 0 ∷ behind

-- the new records behind the header, up to a gate of 0, where byte 8 tells of no move again
pub record IsBack (all : List (List ℕ)) (image : List ℕ) : Type 0 where
  pub is_shut : AreUpToGate (place_behind all) all image
  pub state : state_byte image ≡ 3
  pub behind : List ℕ
  pub closed : drop (place_behind all) image ≡ 0 ∷ behind

-- the image gives the old records or the new ones
abbrev pub GivesOneOf : List (List ℕ) → List (List ℕ) → List ℕ → Type 0
GivesOneOf old all image = (decode image ≡ Some old) ⊎ (decode image ≡ Some all)

-- the image gives these records
abbrev pub GivesRecords : List (List ℕ) → List ℕ → Type 0
GivesRecords all image = decode image ≡ Some all
