-- Rooms for lists, by the lengths of the lists.
use Rattle.std.proofs.Common.{◌≡◌, ℕ, ◌+◌, ◌-◌, ◌<◌, Bool, true, false, cond, not, eqb, List, [], ◌∷◌, Some, None, count_by, get_or, length, map, position, refl, sym, ap, ◌∙◌, arith}
use Rattle.std.specs.Prelude.{remove, sum_by}
use Rattle.std.specs.List.{position_or_len}
use Rattle.std.proofs.lemmas.Bool.{lt-ltb}
use Rattle.std.proofs.lemmas.List.Sums.{sum_by-cons, sum_by-remove}
use Rattle.qrels_view.specs.Grades.{as_number}
use Rattle.qrels_view.proofs.NewGrades.{count-cons}

module _ {X : Type 0} (size : X → ℕ) where
  counted_map : (len : ℕ) (rooms : List X) → count_by (λ room. eqb room len) (map size rooms) ≡ sum_by (λ room. cond (eqb (size room) len) 1 0) rooms
  counted_map len [] = refl
  counted_map len (room ∷ rooms) =
      sum_by-cons (λ n. cond (eqb n len) 1 0) (size room) (map size rooms) ∙ ap (λ n. cond (eqb (size room) len) 1 0 + n) (counted_map len rooms)
      ∙ sym (sum_by-cons (λ r. cond (eqb (size r) len) 1 0) room rooms)

  pub room_there : (len : ℕ) (rooms : List X) → 0 < count_by (λ room. eqb room len) (map size rooms)
      → position_or_len (λ room. eqb (size room) len) rooms < length rooms
  room_there len [] some = absurd (omega (arith, some))
  room_there len (room ∷ rooms) some = step (eqb (size room) len) refl (room_there len rooms)
    where
      step : (t : Bool) → eqb (size room) len ≡ t
          → (0 < count_by (λ r. eqb r len) (map size rooms) → position_or_len (λ r. eqb (size r) len) rooms < length rooms)
          → cond (not (eqb (size room) len)) (1 + position_or_len (λ r. eqb (size r) len) rooms) 0 < length (room ∷ rooms)
      step true at rest = let here = ap (λ t. cond (not t) (1 + position_or_len (λ r. eqb (size r) len) rooms) 0) at in omega (arith, here)
      step false at rest =
          let first = count-cons (λ r. eqb r len) (size room) (map size rooms) in
          let none = ap (λ t. as_number t) at in
          let later = rest (omega (arith, some, first, none)) in
          let here = ap (λ t. cond (not t) (1 + position_or_len (λ r. eqb (size r) len) rooms) 0) at in
          omega (arith, here, later)

  pub room_found : (len : ℕ) (rooms : List X) → 0 < count_by (λ room. eqb room len) (map size rooms)
      → position (λ room. eqb (size room) len) rooms ≡ Some (position_or_len (λ room. eqb (size room) len) rooms)
  room_found len rooms some =
      let first : ℕ = position_or_len (λ room. eqb (size room) len) rooms in
      ap (λ t. cond t (Some first) None) (lt-ltb first (length rooms) (room_there len rooms some))

  -- a room of a length that is taken out
  pub room_taken : (len other : ℕ) (rooms : List X) (i : ℕ) (d : X) → i < length rooms → size (get_or rooms i d) ≡ len
      → count_by (λ room. eqb room other) (map size (remove rooms i)) ≡ count_by (λ room. eqb room other) (map size rooms) - cond (eqb len other) 1 0
  room_taken len other rooms i d within is =
      let whole = sum_by-remove (λ r. cond (eqb (size r) other) 1 0) rooms i d within in
      let here = ap {B = ℕ} (λ n. cond (eqb n other) 1 0) is in
      omega (arith, counted_map other (remove rooms i), counted_map other rooms, whole, here)
