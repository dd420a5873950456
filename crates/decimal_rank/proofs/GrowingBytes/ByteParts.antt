-- Bytes that grow by one part after another.
use Rattle.std.proofs.Common.{◌≡◌, ℕ, ◌+◌, ◌<◌, ◌≤◌, List, [], ◌∷◌, ◌++◌, length, drop, get_or, map, ap, sym, ◌∙◌, append_assoc, refl, take, arith, length-append}
use denote.Ref.{Bor}
use Rattle.std.specs.List.{concat}
use Rattle.std.proofs.Math.Seq.{take-append_seam}
use Rattle.std.proofs.lemmas.List.{take-append-le}

pub part_added : (first all before part rest after : List ℕ) → first ++ all ≡ before ++ (part ++ rest) → after ≡ before ++ part → first ++ all ≡ after ++ rest
part_added first all before part rest after bytes is = bytes ∙ sym (append_assoc before part rest) ∙ ap (λ text. text ++ rest) (sym is)

pub part_fits : (first all before part rest : List ℕ) (room : ℕ) → first ++ all ≡ before ++ (part ++ rest)
    → length first + length all ≤ room → length before + length part ≤ room
part_fits first all before part rest room bytes fits =
    omega (arith, ap length bytes, length-append first all, length-append before (part ++ rest), length-append part rest)

-- what was there at first stands in front
pub first_kept : (first all before rest : List ℕ) → first ++ all ≡ before ++ rest → length first ≤ length before → take (length first) before ≡ first
first_kept first all before rest bytes grown =
    sym (take-append-le (length first) before rest grown) ∙ ap (take (length first)) (sym bytes) ∙ take-append_seam first all

-- what the first of some parts takes
pub first_of_parts : (parts : List (Bor (List ℕ))) (none : Bor (List ℕ)) → 0 < length parts
    → concat (map (λ part. part.now) parts) ≡ (get_or parts 0 none).now ++ concat (map (λ part. part.now) (drop 1 parts))
first_of_parts [] none some = absurd (omega arith)
first_of_parts (part ∷ parts) none some = refl
