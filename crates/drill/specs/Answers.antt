-- What the answers to a message tell, from their bytes.
use Rattle.std.specs.Prelude.{◌+◌, ◌-◌, ◌*◌, ◌&&◌, ℕ, nat_eq, nat_le, Bool, not, List, [], ◌∷◌, Option, None, Some, codes, drop, is_some, length, slice_index, take, option_and_then, if◌then◌else◌}
use Rattle.std.specs.List.{list_all, starts_with}
use Rattle.decimal_rank.specs.Bytes.{zero_digit}
use Rattle.decimal_rank.specs.Decimals.DecimalText.{is_digit}

-- what stands behind the first place of a part in a text, where it has one
abbrev pub behind_part : List ℕ → List ℕ → Option (List ℕ)
behind_part part [] = None
behind_part part (b ∷ text) = if starts_with nat_eq (b ∷ text) part then Some (drop (length part) (b ∷ text)) else behind_part part text

-- what the digit at a place writes
abbrev pub digit_at : List ℕ → ℕ → ℕ
digit_at text place = slice_index text place - zero_digit

-- the number that the first four bytes write, where they are digits
abbrev pub four_digit_number : List ℕ → Option ℕ
four_digit_number text =
    if nat_le 4 (length text) && list_all is_digit (take 4 text)
    then Some (1000 * digit_at text 0 + 100 * digit_at text 1 + 10 * digit_at text 2 + digit_at text 3)
    else None

-- the number of the document that the answers to a lease tell: an accepted one's status is 201, and its docno is D and four digits
abbrev pub leased_doc : List ℕ → Option ℕ
leased_doc answers =
    if starts_with nat_eq answers (codes "HTTP/1.1 201 ") then option_and_then four_digit_number (behind_part (codes "{\"doc\":\"D") answers) else None

-- no answer in the text has the status of a fault of the disk or of want of memory
abbrev pub are_met : List ℕ → Bool
are_met answers = not (is_some (behind_part (codes "HTTP/1.1 503 ") answers)) && not (is_some (behind_part (codes "HTTP/1.1 507 ") answers))
