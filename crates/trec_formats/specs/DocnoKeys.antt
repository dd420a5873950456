-- The keys of docnos in a table: equal docnos have equal keys.
use Rattle.std.specs.Prelude.{ℕ, zero, suc, ◌+◌, ◌-◌, ◌*◌, ◌/◌, ◌%◌, ◌^◌, if◌then◌else◌, List, [], ◌∷◌, length, nat_le, nat_lt, slice_index}
use Rattle.std.specs.Int.{from_le_bytes, w32}
use Rattle.decimal_rank.specs.Tables.TextKeys.{text_key}
use Rattle.trec_formats.specs.declared.documents.document_keys.DocumentKeys.{DocumentKeys}

abbrev pub word : ℕ → ℕ → ℕ → ℕ → ℕ
word a b c d = from_le_bytes w32 (a ∷ b ∷ c ∷ d ∷ [])

-- the four bytes from a place on
unfoldable pub word_at : List ℕ → ℕ → ℕ
word_at bytes at = word (slice_index bytes at) (slice_index bytes (at + 1)) (slice_index bytes (at + 2)) (slice_index bytes (at + 3))

-- the last four bytes; of fewer the first, the middle and the last
unfoldable pub last_word : List ℕ → ℕ
last_word bytes =
    let n = length bytes in
    if nat_le 4 n then word_at bytes (n - 4)
    else (if nat_lt 0 n then word (slice_index bytes 0) (slice_index bytes (n / 2)) (slice_index bytes (n - 1)) 0 else 0)

-- the sum of the length and of so many words in front, each times its factor
unfoldable pub sum_of : DocumentKeys → List ℕ → ℕ → ℕ
sum_of keys docno zero = keys.length_factor * length docno % 2 ^ 64
sum_of keys docno (suc n) = (sum_of keys docno n + slice_index keys.factors n * word_at docno (4 * n) % 2 ^ 64) % 2 ^ 64

-- the upper half of the sum of all; a longer docno than a text may have is hashed
unfoldable pub docno_key : DocumentKeys → List ℕ → ℕ
docno_key keys docno =
    if nat_le (length docno) 64
    then (sum_of keys docno (length docno / 4) + keys.last_factor * last_word docno % 2 ^ 64) % 2 ^ 64 / 2 ^ 32
    else text_key keys.secret docno
