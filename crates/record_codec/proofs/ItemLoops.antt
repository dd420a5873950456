-- Reading so many items one after the other, as a loop does.
use Rattle.std.proofs.Common.{◌≡◌, ℕ, suc, ◌-◌, ◌+◌, ◌≤◌, ◌<◌, List, [], ◌∷◌, ◌++◌, Some, None, refl, sym, ap, ◌∙◌, append_assoc, arith}
use Rattle.std.specs.Option.{option_and_then, option_map}
use Rattle.std.proofs.lemmas.List.{append-nil}
use Rattle.rulebook.specs.Words.{Text}
use Rattle.record_codec.specs.declared.faults.CodecFault.{CodecFault}
use Rattle.record_codec.specs.declared.faults.CodecFault.TheVariants as fault
use Rattle.record_codec.specs.Outcomes.{OnNoEntry}
use Rattle.record_codec.specs.Readings.{Read, items_read}

-- what was read before, and what is still read
abbrev pub with_front : {X : Type 0} → List X → Read (List X) → Read (List X)
with_front front read = option_map (λ xs. (front ++ xs.0, xs.1)) read

pub regroup : {X : Type 0} (front : List X) (x : X) (read : Read (List X))
    → with_front front (option_and_then (λ xs. Some (x ∷ xs.0, xs.1)) read) ≡ with_front (front ++ x ∷ []) read
regroup {X} front x (Some xs) = ap (λ (ys : List X). Some (ys, xs.1)) (sym (append_assoc front (x ∷ []) xs.0))
regroup front x None = refl

module _ {X : Type 0} (at : Text → Read X) (front : List X) (count i : ℕ) (bytes : Text) (total : Read (List X)) where
  pub goes_on : (x : X) (after : Text) → i < count → at bytes ≡ Some (x, after)
      → with_front front (items_read at (count - i) bytes) ≡ total
      → with_front (front ++ x ∷ []) (items_read at (count - (i + 1)) after) ≡ total
  unfolding items_read
  goes_on x after lt is so_far =
      let more : count - i ≡ suc (count - (i + 1)) = omega arith in
      let one : with_front front (items_read at (count - i) bytes) ≡ with_front (front ++ x ∷ [])
      (items_read at (count - (i + 1)) after) =
      rw (more, is) (regroup front x (items_read at (count - (i + 1)) after)) in
      sym one ∙ so_far

  pub ends : (f : CodecFault) → i < count → OnNoEntry f (at bytes ≡ None)
      → with_front front (items_read at (count - i) bytes) ≡ total → OnNoEntry f (total ≡ None)
  unfolding items_read
  ends fault.Memory lt none so_far = tt
  ends fault.NoEntry lt none so_far =
      let more : count - i ≡ suc (count - (i + 1)) = omega arith in
      let one : with_front front (items_read at (count - i) bytes) ≡ None = rw (more, none) refl in
      sym so_far ∙ one

  pub is_done : count ≤ i → with_front front (items_read at (count - i) bytes) ≡ total → total ≡ Some (front, bytes)
  unfolding items_read
  is_done le so_far =
      let last : count - i ≡ 0 = omega arith in
      let one : with_front front (items_read at (count - i) bytes) ≡ Some (front, bytes) =
      rw last (ap (λ (xs : List X). Some (xs, bytes)) (append-nil front)) in
      sym so_far ∙ one
