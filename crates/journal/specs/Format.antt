-- What the bytes of a journal stand for: a header, and records of a gate, a length and a payload.
use Rattle.std.specs.Prelude.{◌==◌, ◌&&◌, if◌then◌else◌, ℕ, zero, suc, ◌+◌, Bool, nat_eq, nat_le, nat_lt, List, [], ◌∷◌, ◌++◌, Option, None, Some, get_or, length, sum_by, take, drop}
use Rattle.std.specs.Int.{from_le_bytes, to_le_bytes, w32, w64}
use Rattle.std.specs.List.{starts_with}

-- the text POOLJRNL
abbrev pub mark : List ℕ
mark = 80 ∷ 79 ∷ 79 ∷ 76 ∷ 74 ∷ 82 ∷ 78 ∷ 76 ∷ []

-- the header of a new journal: the text, 1, and seven zeros
abbrev pub header : List ℕ
header = 80 ∷ 79 ∷ 79 ∷ 76 ∷ 74 ∷ 82 ∷ 78 ∷ 76 ∷ 1 ∷ 0 ∷ 0 ∷ 0 ∷ 0 ∷ 0 ∷ 0 ∷ 0 ∷ []

-- a journal without records: the header and a closed gate
abbrev pub empty_journal : List ℕ
empty_journal = header ++ 0 ∷ []

-- the length that the four bytes behind a gate tell
abbrev pub told_length : List ℕ → ℕ
told_length behind = from_le_bytes w32 (take 4 behind)

abbrev pub payload_behind : List ℕ → List ℕ
payload_behind behind = take (told_length behind) (drop 4 behind)

-- what stands behind the gate of a record: its length, its payload, and a closed gate
abbrev pub frame_of : List ℕ → List ℕ
frame_of payload = to_le_bytes w32 (length payload) ++ payload ++ 0 ∷ []

-- a record: an open gate, a length and a payload
abbrev pub record_of : List ℕ → List ℕ
record_of payload = 1 ∷ to_le_bytes w32 (length payload) ++ payload

-- the length and the payload lie whole behind the gate
abbrev pub is_whole : List ℕ → Bool
is_whole behind = nat_le (4 + told_length behind) (length behind)

-- the payloads after so many skipped bytes, up to the first record that is closed or isn't whole
abbrev pub records : ℕ → List ℕ → List (List ℕ)
records skipped [] = []
records (suc skipped) (byte ∷ rest) = records skipped rest
records zero (gate ∷ behind) =
    if gate == 1 && is_whole behind then payload_behind behind ∷ records (4 + told_length behind) behind else []

-- how many bytes the records of these payloads have: each has a gate and a length in front of it
abbrev pub count_of_bytes : List (List ℕ) → ℕ
count_of_bytes all = sum_by (λ payload. length payload + 5) all

-- the place of the gate behind these payloads, which stand behind a header
abbrev pub place_behind : List (List ℕ) → ℕ
place_behind all = 16 + count_of_bytes all

-- byte 8, which is 2 while records are moved
abbrev pub state_byte : List ℕ → ℕ
state_byte image = get_or image 8 0

-- the place that bytes 9 to 15 tell, the lowest byte first
abbrev pub told_place : List ℕ → ℕ
told_place image = from_le_bytes w64 (take 7 (drop 9 image) ++ 0 ∷ [])

-- the records at this place fit in front of it, behind a header and with a gate behind them
abbrev pub fits_before : ℕ → List ℕ → Bool
fits_before place image = nat_lt place (length image) && nat_lt (place_behind (records place image)) place

-- What these bytes give behind the text POOLJRNL: their records stand behind the header; while records are moved, at
-- the place that is told, from which they must fit behind the header.
abbrev pub records_of : List ℕ → Option (List (List ℕ))
records_of image =
    if state_byte image == 2 then (if fits_before (told_place image) image then Some (records (told_place image) image) else None)
    else Some (records 16 image)

-- The payloads of these bytes. At most a header and a gate give none, whatever they are; None: no journal.
abbrev pub decode : List ℕ → Option (List (List ℕ))
decode image = if nat_le (length image) 17 then Some [] else (if starts_with nat_eq image mark then records_of image else None)
