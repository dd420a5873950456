-- Keys order as the values do, where they differ.
use Rattle.std.proofs.Common.{Ordering, Less, Equal, Greater, ◌≡◌, ◌≢◌, ℕ, ◌+◌, ◌*◌, ◌/◌, ◌^◌, ◌==◌, ◌<◌, ◌≤◌, Bool, true, false, refl, sym, ap, ◌∙◌, arith, subst, inl, ℤ, pos, negsuc, neg_ℤ, ◌≤ℤ◌, ◌<ℤ◌, int_lt, cond, to_z, of_z, w16}
use borrow.Author.Tests.{eqb-true}
use Rattle.std.proofs.lemmas.Bool.Decides.{nat_tests}
use Rattle.std.proofs.lemmas.Int.{ints}
use Rattle.std.specs.Cmp.{int_ranks, nat_cmp_is}
use Rattle.std.specs.Int.{int_gap}
use Rattle.std.specs.Ordering.{MatchOrdering, nat_cmp, int_cmp, ordering_then, ordering_reverse}
use Rattle.decimal_rank.specs.Decimals.Decimal.{signed_number, decimal_cmp}
use Rattle.decimal_rank.specs.Decimals.AlignedDigits.{aligned_value, IsAligned, size_key}
use Rattle.decimal_rank.proofs.Standings.Values.{decimal_cmp_total, gap-add, gap-some, cmp-with_zero, cmp-sizes, cmp-negatives, cmp-negative_first, cmp-negative_second, cmp-neg-neg, lt-pos-neg, some_digits}

-- the first digits count less than one of the exponent
pub few_digits : (n : ℕ) → n < 10 ^ 38 → n / 2 ^ 76 < 2 ^ 51
few_digits n below = omega (arith, below)

gap-next : (e f : ℤ) → negsuc 1999 ≤ℤ e → e <ℤ f → int_gap (negsuc 1999) e + 1 ≤ int_gap (negsuc 1999) f
gap-next e f low less =
    let up : e ≤ℤ f = omega (arith, ints) in
    omega (arith, gap-add (negsuc 1999) e f low up, gap-some e f less)

none-below : (n : ℕ) (f : ℤ) → 0 < size_key n f → 0 < n
none-below n f some = by (n == 0) refl
  where
    by : (t : Bool) → (n == 0) ≡ t → 0 < n
    by true e = absurd (let none : 0 < 0 = rw e at some in omega arith)
    by false e = grind (arith, nat_tests)

module _ (m y n z : ℕ) (e f : ℤ) (padded-m : m / 10 ^ y * 10 ^ y ≡ m) (padded-n : n / 10 ^ z * 10 ^ z ≡ n)
    (below-m : m < 10 ^ 38) (below-n : n < 10 ^ 38) (full-m : m ≢ 0 → 10 ^ 37 ≤ m) (full-n : n ≢ 0 → 10 ^ 37 ≤ n)
    (low-m : negsuc 1999 ≤ℤ e) (low-n : negsuc 1999 ≤ℤ f) where
  first-zero : m ≡ 0 → 0 < n → decimal_cmp (aligned_value false m y e) (aligned_value false n z f) ≡ Less
  first-zero none some = sym (cmp-with_zero m y n z e f padded-m padded-n (inl none)) ∙ sym (nat_cmp_is m n Less (omega (arith, none, some)))

  both : m ≢ 0 → n ≢ 0 → int_gap (negsuc 1999) e * 2 ^ 51 + m / 2 ^ 76 < int_gap (negsuc 1999) f * 2 ^ 51 + n / 2 ^ 76
      → decimal_cmp (aligned_value false m y e) (aligned_value false n z f) ≡ Less
  both some-m some-n less = sym (cmp-sizes m y n z e f padded-m padded-n below-m below-n (full-m some-m) (full-n some-n)) ∙ by (int_cmp e f) (int_ranks e f)
    where
      by : (r : Ordering) → MatchOrdering r (e <ℤ f) (e ≡ f) (f <ℤ e) → ordering_then r (nat_cmp m n) ≡ Less
      by Less h = refl
      by Equal h =
          let same : int_gap (negsuc 1999) e ≡ int_gap (negsuc 1999) f = ap (int_gap (negsuc 1999)) h in
          let fewer : m / 2 ^ 76 < n / 2 ^ 76 = omega (arith, same, less) in
          sym (nat_cmp_is m n Less (omega (arith, fewer)))
      by Greater h = absurd (omega (arith, gap-next f e low-n h, few_digits n below-n, less))

  keyed : (s t : Bool) → (m == 0) ≡ s → (n == 0) ≡ t → size_key m e < size_key n f → decimal_cmp (aligned_value false m y e) (aligned_value false n z f) ≡ Less
  keyed true t p q less = first-zero (grind (arith, nat_tests)) (none-below n f (rw p at less))
  keyed false true p q less = absurd (let none : size_key m e < 0 = rw q at less in omega (arith, none))
  keyed false false p q less = both (grind (arith, nat_tests)) (grind (arith, nat_tests)) (rw (p, q) at less)

  pub sizes-less : size_key m e < size_key n f → decimal_cmp (aligned_value false m y e) (aligned_value false n z f) ≡ Less
  sizes-less less = keyed (m == 0) (n == 0) refl refl less

sizes-order : (s t : Bool) (m y n z : ℕ) (e f : ℤ) → IsAligned s m y e → IsAligned t n z f → (r : Ordering)
    → r ≡ int_cmp (pos (size_key m e)) (pos (size_key n f)) → (r ≢ Equal)
    → r ≡ decimal_cmp (aligned_value false m y e) (aligned_value false n z f)
sizes-order s t m y n z e f a b r is other =
    by r (subst (λ o. MatchOrdering o (pos (size_key m e) <ℤ pos (size_key n f)) (pos (size_key m e) ≡ pos (size_key n f))
    (pos (size_key n f) <ℤ pos (size_key m e))) (sym is) (int_ranks (pos (size_key m e)) (pos (size_key n f)))) other
  where
    by : (o : Ordering)
        → MatchOrdering o (pos (size_key m e) <ℤ pos (size_key n f)) (pos (size_key m e) ≡ pos (size_key n f)) (pos (size_key n f) <ℤ pos (size_key m e))
        → (o ≢ Equal)
        → o ≡ decimal_cmp (aligned_value false m y e) (aligned_value false n z f)
    by Less h other = sym (sizes-less m y n z e f a.padded b.padded a.below b.below a.full b.full a.low b.low (omega (arith, ints, h)))
    by Equal h other = absurd (other refl)
    by Greater h other =
        sym (decimal_cmp_total.antisymm (aligned_value false m y e) (aligned_value false n z f)
        ∙ ap ordering_reverse (sizes-less n z m y f e b.padded a.padded b.below a.below b.full a.full b.low a.low (omega (arith, ints, h))))

at-most : (p : Bool) (r : Ordering) → r ≡ cond p Less (cond false Greater Equal) → (r ≢ Equal) → r ≡ Less
at-most true r is other = is
at-most false r is other = absurd (other is)

at-least : (p : Bool) (r : Ordering) → r ≡ cond false Less (cond p Greater Equal) → (r ≢ Equal) → r ≡ Greater
at-least true r is other = is
at-least false r is other = absurd (other is)

pub cmp-keys : (s t : Bool) (m y n z : ℕ) (e f : ℤ) → IsAligned s m y e → IsAligned t n z f → (r : Ordering)
    → r ≡ int_cmp (signed_number s (size_key m e)) (signed_number t (size_key n f)) → (r ≢ Equal)
    → r ≡ decimal_cmp (aligned_value s m y e) (aligned_value t n z f)
cmp-keys false false m y n z e f a b r is other = sizes-order false false m y n z e f a b r is other
cmp-keys true true m y n z e f a b r is other =
    sizes-order true true n z m y f e b a r (is ∙ cmp-neg-neg (size_key m e) (size_key n f)) other
    ∙ cmp-negatives (aligned_value true m y e) (aligned_value true n z f) refl refl
cmp-keys false true m y n z e f a b r is other =
    at-least (int_lt (neg_ℤ (pos (size_key n f))) (pos (size_key m e))) r
    (is ∙ ap (λ t. cond t Less (cond (int_lt (neg_ℤ (pos (size_key n f))) (pos (size_key m e))) Greater Equal)) (lt-pos-neg (size_key m e) (size_key n f)))
    other
    ∙ sym (cmp-negative_second (aligned_value false m y e) (aligned_value true n z f) refl refl (some_digits true n z f b refl))
cmp-keys true false m y n z e f a b r is other =
    at-most (int_lt (neg_ℤ (pos (size_key m e))) (pos (size_key n f))) r
    (is ∙ ap (λ t. cond (int_lt (neg_ℤ (pos (size_key m e))) (pos (size_key n f))) Less (cond t Greater Equal)) (lt-pos-neg (size_key n f) (size_key m e)))
    other
    ∙ sym (cmp-negative_first (aligned_value true m y e) (aligned_value false n z f) refl refl (some_digits true m y e a refl))

-- the key of digits that aren't 0
pub keyed_size : (leading : ℕ) (last : ℤ) (size raised : ℕ) → leading ≢ 0 → size ≡ raised * 2 ^ 51 + leading / 2 ^ 76
    → raised ≡ int_gap (negsuc 1999) last → size ≡ size_key leading last
keyed_size leading last size raised some is up = by (leading == 0) refl
  where
    by : (t : Bool) → (leading == 0) ≡ t → size ≡ size_key leading last
    by true e = absurd (some (eqb-true leading 0 e))
    by false e = rw e (is ∙ ap (λ r. r * 2 ^ 51 + leading / 2 ^ 76) up)

-- such a key is below 2 ^ 63
pub key_within : (leading raised : ℕ) → leading < 10 ^ 38 → raised < 4000 → raised * 2 ^ 51 + leading / 2 ^ 76 < 2 ^ 63
key_within leading raised below few = omega (arith, few_digits leading below, few)

-- an exponent of 38 digits is kept in 16 bits
pub kept_exponent : (e : ℤ) → negsuc 1999 ≤ℤ e → e ≤ℤ pos 1999 → to_z w16 (of_z w16 e) ≡ e
kept_exponent e low high = omega (arith, ints)
