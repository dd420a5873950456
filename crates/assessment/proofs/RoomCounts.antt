-- How many lists of a length there are, and for how many there is room.
use Rattle.std.proofs.Common.{◌≡◌, ◌+◌, ◌-◌, ◌<◌, ℕ, Bool, true, false, cond, List, [], ◌∷◌, drop, take, length, get_or, refl, ap, ◌∙◌, arith, eq-eqb}
use Rattle.std.specs.Prelude.{◌==◌, count_by, if◌then◌else◌}
use Rattle.std.proofs.lemmas.List.{drop_more, take_more}
use Rattle.std.proofs.lemmas.List.Sums.{sum_by-append}
use Rattle.decimal_rank.specs.declared.naming.DocId.{DocId}
use Rattle.decimal_rank.proofs.Lists.{count_by-cons}
use Rattle.assessment.specs.RunLists.{has_length}

pub own-length : (docs : List DocId) → 0 < length docs → has_length (length docs) docs ≡ true
own-length [] filled = absurd (omega (arith, filled))
own-length (d ∷ docs) filled = eq-eqb (length (d ∷ docs)) (length (d ∷ docs)) refl

-- the length of a list that has documents, and of one that has none
pub filled-length : (docs : List DocId) (len : ℕ) → 0 < length docs → has_length len docs ≡ (length docs == len)
filled-length [] len filled = absurd (omega (arith, filled))
filled-length (d ∷ docs) len filled = refl

pub empty-length : (docs : List DocId) (len : ℕ) → length docs ≡ 0 → has_length len docs ≡ false
empty-length [] len empty = refl
empty-length (d ∷ docs) len empty = absurd (omega (arith, empty))

-- a board with no room for a list of any length has no room
pub no-rooms : (rooms : List ℕ) → ((len : ℕ) → count_by (λ room. room == len) rooms ≡ 0) → rooms ≡ []
no-rooms [] none = refl
no-rooms (room ∷ rooms) none =
    let here : ◌≡◌ {A = ℕ} (cond (room == room) 1 0) 1 = ap (λ t. let n : ℕ = cond t 1 0 in n) (eq-eqb room room refl) in
    absurd (omega (arith, none room, count_by-cons (λ (other : ℕ). other == room) room rooms, here))

-- room for one list that is made and used
pub used-room : (t : Bool) (before between after : ℕ) → between ≡ before + (if t then 1 else 0)
    → after ≡ between - (if t then 1 else 0) → before ≡ 0 → after ≡ 0
used-room true before between after made used none = omega (arith, made, used, none)
used-room false before between after made used none = omega (arith, made, used, none)

module _ {X : Type 0} (p : X → Bool) where
  -- the room once an element was taken out that is counted first
  pub taken : (x : X) (xs : List X) (rooms after : ℕ) → rooms ≡ count_by p (x ∷ xs) → after ≡ rooms - (if p x then 1 else 0) → after ≡ count_by p xs
  taken x xs rooms after room is = step (p x) (room ∙ count_by-cons p x xs) is
    where
      step : (t : Bool) → rooms ≡ cond t 1 0 + count_by p xs → after ≡ rooms - (if t then 1 else 0) → after ≡ count_by p xs
      step true room is = omega (arith, room, is)
      step false room is = omega (arith, room, is)

  pub some-room : (x : X) (xs : List X) (rooms : ℕ) → rooms ≡ count_by p (x ∷ xs) → p x ≡ true → 0 < rooms
  some-room x xs rooms room has = step (p x) has (room ∙ count_by-cons p x xs)
    where
      step : (t : Bool) → t ≡ true → rooms ≡ cond t 1 0 + count_by p xs → 0 < rooms
      step true is room = omega (arith, room)
      step false is room = cc is

  pub left-rooms : (xs : List X) (i : ℕ) (d : X) (rooms after : ℕ) → i < length xs → rooms ≡ count_by p (drop i xs)
      → after ≡ rooms - (if p (get_or xs i d) then 1 else 0) → after ≡ count_by p (drop (i + 1) xs)
  left-rooms xs i d rooms after within room is = taken (get_or xs i d) (drop (i + 1) xs) rooms after (room ∙ ap (count_by p) (drop_more xs i d within)) is

  pub some-left : (xs : List X) (i : ℕ) (d : X) (rooms : ℕ) → i < length xs → rooms ≡ count_by p (drop i xs) → p (get_or xs i d) ≡ true → 0 < rooms
  some-left xs i d rooms within room has = some-room (get_or xs i d) (drop (i + 1) xs) rooms (room ∙ ap (count_by p) (drop_more xs i d within)) has

  -- the room once there is room for one more
  pub made-rooms : (xs : List X) (i : ℕ) (d : X) (rooms after : ℕ) → i < length xs → rooms ≡ count_by p (take i xs)
      → after ≡ rooms + (if p (get_or xs i d) then 1 else 0) → after ≡ count_by p (take (i + 1) xs)
  made-rooms xs i d rooms after within room is =
      let counts : count_by p (take (i + 1) xs) ≡ count_by p (take i xs) + count_by p (get_or xs i d ∷ []) =
      ap (count_by p) (take_more xs i d within) ∙ sum_by-append (λ x. cond (p x) 1 0) (take i xs) (get_or xs i d ∷ []) in
      step (p (get_or xs i d)) (count_by-cons p (get_or xs i d) []) is counts
    where
      step : (t : Bool) → count_by p (get_or xs i d ∷ []) ≡ cond t 1 0 + 0 → after ≡ rooms + (if t then 1 else 0)
          → count_by p (take (i + 1) xs) ≡ count_by p (take i xs) + count_by p (get_or xs i d ∷ []) → after ≡ count_by p (take (i + 1) xs)
      step true one is counts = omega (arith, one, is, counts, room)
      step false none is counts = omega (arith, none, is, counts, room)
