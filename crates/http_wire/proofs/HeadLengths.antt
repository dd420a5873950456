-- Where a head ends doesn't change where more bytes come.
use Rattle.std.proofs.Common.{◌≡◌, ℕ, ◌+◌, ◌-◌, ◌<◌, ◌≤◌, ◌&&◌, List, [], ◌∷◌, ◌++◌, Option, Some, None, Bool, true, false, length, take, refl, sym, ap, ◌∙◌, arith, inl, inr, ◌⊎◌}
use Rattle.std.specs.Prelude.{nat_lt, ◌==◌, ◌||◌, if◌then◌else◌}
use Rattle.std.specs.Option.{option_map}
use Rattle.std.proofs.lemmas.List.{take-append-le, take_all}
use Rattle.std.proofs.Math.Seq.{take-append-add}
use Rattle.std.proofs.lemmas.Bool.{cases_lt}
use Rattle.http_wire.specs.Heads.{behind_line_ends, line_end_length, head_length}

passed_step : (is_end : Bool) (b : ℕ) (bytes more : List ℕ)
    → (0 < length (behind_line_ends bytes) → behind_line_ends (bytes ++ more) ≡ behind_line_ends bytes ++ more)
    → 0 < length (if is_end then behind_line_ends bytes else b ∷ bytes)
    → (if is_end then behind_line_ends (bytes ++ more) else b ∷ (bytes ++ more)) ≡ (if is_end then behind_line_ends bytes else b ∷ bytes) ++ more
passed_step true b bytes more behind filled = behind filled
passed_step false b bytes more behind filled = refl

pub passed-append : (bytes more : List ℕ) → 0 < length (behind_line_ends bytes) → behind_line_ends (bytes ++ more) ≡ behind_line_ends bytes ++ more
passed-append [] more filled = absurd (omega arith)
passed-append (b ∷ bytes) more filled = passed_step (b == 10 || b == 13) b bytes more (passed-append bytes more) filled

again_step : (is_end : Bool) (b : ℕ) (bytes : List ℕ) → (b == 10 || b == 13) ≡ is_end → behind_line_ends (behind_line_ends bytes) ≡ behind_line_ends bytes
    → behind_line_ends (if is_end then behind_line_ends bytes else b ∷ bytes) ≡ (if is_end then behind_line_ends bytes else b ∷ bytes)
again_step true b bytes is behind = behind
again_step false b bytes is behind = rw is refl

pub passed_again : (bytes : List ℕ) → behind_line_ends (behind_line_ends bytes) ≡ behind_line_ends bytes
passed_again [] = refl
passed_again (b ∷ bytes) = again_step (b == 10 || b == 13) b bytes refl (passed_again bytes)

-- a message goes on to be one
pub message-append : (bytes message more : List ℕ) → message ≡ behind_line_ends bytes → 0 < length message
    → behind_line_ends (message ++ more) ≡ message ++ more
message-append bytes message more is filled =
    let same : behind_line_ends message ≡ message = ap behind_line_ends is ∙ passed_again bytes ∙ sym is in
    passed-append message more (omega (arith, ap length same, filled)) ∙ ap (λ m. m ++ more) same

head_step : (ends : Bool) (line : ℕ) (found after : Option ℕ) (n : ℕ) → ((m : ℕ) → found ≡ Some m → after ≡ Some m)
    → (if ends then Some (line + 1) else option_map (λ m. m + 1) found) ≡ Some n
    → (if ends then Some (line + 1) else option_map (λ m. m + 1) after) ≡ Some n
head_step true line found after n stays is = is
head_step false line None after n stays is = cc
head_step false line (Some m) after n stays is = ap (option_map (λ k. k + 1)) (stays m refl) ∙ is

-- one byte is no head
one_byte : (first : Bool) (n : ℕ) → (if first && nat_lt 0 0 then Some 1 else None) ≡ Some n → ⊥
one_byte true n is = cc
one_byte false n is = cc

-- two bytes are a head where they are LF LF
two_bytes : (first second other : Bool) (n : ℕ) (rest : Option ℕ)
    → (if first && nat_lt 0 (if second then 1 else 0) then Some ((if second then 1 else 0) + 1) else option_map
    (λ m. m + 1) (if second && nat_lt 0 0 then Some 1 else None)) ≡ Some n
    → (if first && nat_lt 0 (if second then 1 else (if other then 2 else 0)) then Some
    ((if second then 1 else (if other then 2 else 0)) + 1) else option_map (λ m. m + 1) rest) ≡ Some n
two_bytes true true other n rest is = is
two_bytes false true other n rest is = cc
two_bytes true false other n rest is = cc
two_bytes false false other n rest is = cc

pub head_length-append : (bytes more : List ℕ) (n : ℕ) → head_length bytes ≡ Some n → head_length (bytes ++ more) ≡ Some n
head_length-append [] more n is = cc
head_length-append (b ∷ []) more n is = absurd (one_byte (b == 10) n is)
head_length-append (b ∷ c ∷ []) [] n is = is
head_length-append (b ∷ c ∷ []) (d ∷ more) n is = two_bytes (b == 10) (c == 10) (c == 13 && d == 10) n (head_length (c ∷ d ∷ more)) is
head_length-append (b ∷ c ∷ d ∷ bytes) more n is =
    head_step (b == 10 && nat_lt 0 (line_end_length (c ∷ d ∷ bytes))) (line_end_length (c ∷ d ∷ bytes)) (head_length (c ∷ d ∷ bytes))
    (head_length ((c ∷ d ∷ bytes) ++ more)) n (λ m. head_length-append (c ∷ d ∷ bytes) more m) is

-- a head that the first k bytes end is ended by the first k bytes of what they become
pub head_stays : (k : ℕ) (bytes more : List ℕ) (n : ℕ) → head_length (take k bytes) ≡ Some n → head_length (take k (bytes ++ more)) ≡ Some n
head_stays k bytes more n is =
    by_length (cases_lt k (length bytes))
  where
    by_length : (k < length bytes) ⊎ (length bytes ≤ k) → head_length (take k (bytes ++ more)) ≡ Some n
    by_length (inl few) = ap head_length (take-append-le k bytes more (omega (arith, few))) ∙ is
    by_length (inr many) =
        let count : length bytes + (k - length bytes) ≡ k = omega arith in
        let whole : head_length bytes ≡ Some n = ap head_length (sym (take_all k bytes many)) ∙ is in
        ap (λ j. head_length (take j (bytes ++ more))) (sym count) ∙ ap head_length (take-append-add bytes more (k - length bytes))
        ∙ head_length-append bytes (take (k - length bytes) more) n whole

bound_step : (ends : Bool) (line size : ℕ) (found : Option ℕ) (n : ℕ) → line ≤ size → ((m : ℕ) → found ≡ Some m → (0 < m) × (m ≤ size))
    → (if ends then Some (line + 1) else option_map (λ m. m + 1) found) ≡ Some n → (0 < n) × (n ≤ size + 1)
bound_step true line size found n short inside is = let e : line + 1 ≡ n = cc in (omega (arith, e), omega (arith, e, short))
bound_step false line size None n short inside is = cc
bound_step false line size (Some m) n short inside is = let e : m + 1 ≡ n = cc in let p = inside m refl in (omega (arith, e), omega (arith, e, p.1))

empty_line_short : (bytes : List ℕ) → line_end_length bytes ≤ length bytes
empty_line_short [] = omega arith
empty_line_short (b ∷ []) = one (b == 10)
  where
    one : (first : Bool) → (if first then 1 else 0) ≤ length (b ∷ [])
    one true = omega arith
    one false = omega arith
empty_line_short (b ∷ c ∷ bytes) = two (b == 10) (b == 13 && c == 10)
  where
    two : (first second : Bool) → (if first then 1 else (if second then 2 else 0)) ≤ length (b ∷ c ∷ bytes)
    two true second = omega arith
    two false true = omega arith
    two false false = omega arith

pub head_inside : (bytes : List ℕ) (n : ℕ) → head_length bytes ≡ Some n → (0 < n) × (n ≤ length bytes)
head_inside [] n is = cc
head_inside (b ∷ bytes) n is =
    let inside =
    bound_step (b == 10 && nat_lt 0 (line_end_length bytes)) (line_end_length bytes) (length bytes)
    (head_length bytes) n (empty_line_short bytes) (head_inside bytes) is in
    (inside.0, omega (arith, inside.1))
