-- One group of a number more, one entry of a bundle more, and moments one by one, as recursion and loops read them.
use Rattle.std.proofs.Common.{◌≡◌, ℕ, zero, suc, ◌+◌, ◌-◌, ◌*◌, ◌^◌, ◌<◌, ◌≤◌, ◌&&◌, Bool, true, false, leb, ltb, List, [], ◌∷◌, ◌++◌, drop, length, Some, None, refl, sym, ap, ◌∙◌, arith, le-leb, le-ltb, lt-ltb}
use Rattle.std.proofs.lemmas.Bool.Decides.{nat_tests}
use Rattle.std.specs.Prelude.{if◌then◌else◌, nat_le, nat_lt}
use Rattle.std.specs.Option.{option_and_then}
use Rattle.std.proofs.lemmas.List.{append-nil}
use Rattle.rulebook.specs.declared.rules.Caller.{Caller}
use Rattle.rulebook.specs.declared.entry.EntryCore.{EntryCore}
use Rattle.rulebook.specs.Words.{Text}
use Rattle.record_codec.specs.declared.faults.CodecFault.{CodecFault}
use Rattle.record_codec.specs.declared.faults.CodecFault.TheVariants as fault
use Rattle.record_codec.specs.BundleGrammar.{bundled_read, cores_read, groups_read, with_low_group}
use Rattle.record_codec.specs.Bundles.{are_rising}
use Rattle.record_codec.specs.Outcomes.{OnNoEntry}
use Rattle.record_codec.specs.Readings.{Read, byte_read}
use Rattle.record_codec.proofs.ItemLoops.{regroup, with_front}

pub on_fault : (f : CodecFault) (P Q : Type 0) → (P → Q) → OnNoEntry f P → OnNoEntry f Q
on_fault fault.NoEntry P Q leads none = leads none
on_fault fault.Memory P Q leads none = tt

-- Groups

abbrev next_groups : ℕ → Text → Read ℕ
next_groups most bytes =
    option_and_then (λ b. if nat_lt b.0 128 then Some b else option_and_then (with_low_group b.0) (groups_read (most - 1) b.1)) (byte_read bytes)

groups_step : (most : ℕ) (bytes : Text) → (most ≡ 0 → ⊥) → groups_read most bytes ≡ next_groups most bytes
unfolding groups_read
groups_step zero bytes some = absurd (some refl)
groups_step (suc most) bytes some = let less : suc most - 1 ≡ most = omega arith in rw less refl

pub no_groups : (most : ℕ) (bytes : Text) → most ≡ 0 → groups_read most bytes ≡ None
unfolding groups_read
no_groups zero bytes none = refl
no_groups (suc most) bytes none = absurd (omega (arith, none))

module _ (most : ℕ) (bytes : Text) (some : most ≡ 0 → ⊥) where
  pub no_byte : byte_read bytes ≡ None → groups_read most bytes ≡ None
  no_byte none = groups_step most bytes some ∙ rw none refl

  module _ (low : ℕ) (rest : Text) (read : byte_read bytes ≡ Some (low, rest)) where
    pub last_group : low < 128 → groups_read most bytes ≡ Some (low, rest)
    last_group few = let t : ltb low 128 ≡ true = lt-ltb low 128 few in groups_step most bytes some ∙ rw (read, t) refl

    pub no_more : 128 ≤ low → groups_read (most - 1) rest ≡ None → groups_read most bytes ≡ None
    no_more wide none = let t : ltb low 128 ≡ false = le-ltb low 128 wide in groups_step most bytes some ∙ rw (read, t, none) refl

    pub too_high : (high : ℕ) (after : Text) → 128 ≤ low → groups_read (most - 1) rest ≡ Some (high, after) → 2 ^ 57 ≤ high
        → groups_read most bytes ≡ None
    too_high high after wide above past =
        let t : ltb low 128 ≡ false = le-ltb low 128 wide in
        let h : ltb high (2 ^ 57) ≡ false = le-ltb high (2 ^ 57) past in
        groups_step most bytes some ∙ rw (read, t, above, h) refl

    pub one_more : (high : ℕ) (after : Text) → 128 ≤ low → groups_read (most - 1) rest ≡ Some (high, after) → high < 2 ^ 57
        → groups_read most bytes ≡ Some (low - 128 + 128 * high, after)
    one_more high after wide above below =
        let t : ltb low 128 ≡ false = le-ltb low 128 wide in
        let h : ltb high (2 ^ 57) ≡ true = lt-ltb high (2 ^ 57) below in
        groups_step most bytes some ∙ rw (read, t, above, h) refl

-- Entries

module _ (callers : List Caller) (texts : List Text) (front : List EntryCore) (count i earlier : ℕ) (bytes : Text)
    (total : Read (List EntryCore)) where
  pub goes_on : (core : EntryCore) (after : Text) → i < count → bundled_read callers texts earlier bytes ≡ Some (core, after)
      → with_front front (cores_read callers texts (count - i) earlier bytes) ≡ total
      → with_front (front ++ core ∷ []) (cores_read callers texts (count - (i + 1)) core.moment after) ≡ total
  unfolding cores_read
  goes_on core after lt is so_far =
      let more : count - i ≡ suc (count - (i + 1)) = omega arith in
      let one : with_front front (cores_read callers texts (count - i) earlier bytes)
      ≡ with_front (front ++ core ∷ []) (cores_read callers texts (count - (i + 1)) core.moment after) =
      rw (more, is) (regroup front core (cores_read callers texts (count - (i + 1)) core.moment after)) in
      sym one ∙ so_far

  pub ends : (f : CodecFault) → i < count → OnNoEntry f (bundled_read callers texts earlier bytes ≡ None)
      → with_front front (cores_read callers texts (count - i) earlier bytes) ≡ total → OnNoEntry f (total ≡ None)
  unfolding cores_read
  ends fault.Memory lt none so_far = tt
  ends fault.NoEntry lt none so_far =
      let more : count - i ≡ suc (count - (i + 1)) = omega arith in
      let one : with_front front (cores_read callers texts (count - i) earlier bytes) ≡ None = rw (more, none) refl in
      sym so_far ∙ one

  pub is_done : count ≤ i → with_front front (cores_read callers texts (count - i) earlier bytes) ≡ total
      → total ≡ Some (front, bytes)
  unfolding cores_read
  is_done le so_far =
      let last : count - i ≡ 0 = omega arith in
      let one : with_front front (cores_read callers texts (count - i) earlier bytes) ≡ Some (front, bytes) =
      rw last (ap (λ (cores : List EntryCore). Some (cores, bytes)) (append-nil front)) in
      sym so_far ∙ one

-- Moments

module _ (earlier : ℕ) (left rest : List EntryCore) (core : EntryCore) (total : Bool) (here : left ≡ core ∷ rest)
    (so_far : are_rising earlier left ≡ total) where
  parts : (nat_le earlier core.moment && are_rising core.moment rest) ≡ total
  parts = ap (are_rising earlier) (sym here) ∙ so_far

  pub rises : earlier ≤ core.moment → are_rising core.moment rest ≡ total
  rises later =
      let t : leb earlier core.moment ≡ true = le-leb earlier core.moment later in
      ap (λ (b : Bool). b && are_rising core.moment rest) (sym t) ∙ parts

  pub falls : core.moment < earlier → false ≡ total
  falls less =
      let t : leb earlier core.moment ≡ false = grind (arith, nat_tests, less) in
      ap (λ (b : Bool). b && are_rising core.moment rest) (sym t) ∙ parts
