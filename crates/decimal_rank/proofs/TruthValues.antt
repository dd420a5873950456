-- Facts of truth values and of tests of numbers, bytes and orders, where std's `lemmas.Bool`, `Math.Bool` and `specs.Cmp` have none.
use Rattle.std.proofs.Common.{◌≡◌, ◌<◌, ℕ, Bool, true, false, cond, ◌&&◌, ◌||◌, eqb, bytes_eq, List, Ordering, Less, Equal, Greater, refl, sym, ap, ◌∙◌, arith}
use Rattle.std.specs.Cmp.{both_ways}
use Rattle.std.specs.Cmp.Lexicographic.{slice_cmp}
use Rattle.std.specs.Ordering.{is_lt, nat_cmp, ordering_then}
use Rattle.std.proofs.lemmas.Bool.Decides.{nat_tests}
use Rattle.std.proofs.lemmas.Cmp.{nat_list_cmp_total, tied_itself}
use Rattle.std.proofs.lemmas.Slice.Eq.{bytes_eq-Decides}

pub first_of_both : (s t : Bool) → (s && t) ≡ true → s ≡ true
first_of_both true t e = refl
first_of_both false t e = e

pub second_of_both : (s t : Bool) → (s && t) ≡ true → t ≡ true
second_of_both true t e = e
second_of_both false true e = refl
second_of_both false false e = e

pub first_of_neither : (s t : Bool) → (s || t) ≡ false → s ≡ false
first_of_neither true t e = e
first_of_neither false t e = refl

pub second_of_neither : (s t : Bool) → (s || t) ≡ false → t ≡ false
second_of_neither true true e = e
second_of_neither true false e = refl
second_of_neither false t e = e

pub or_twice : (s t : Bool) → (s || t) ≡ (s || (s || t))
or_twice true t = refl
or_twice false t = refl

pub or_in_turn : (s t u : Bool) → (s || (t || u)) ≡ (t || (s || u))
or_in_turn true true u = refl
or_in_turn true false u = refl
or_in_turn false t u = refl

pub cond_same : {X : Type 0} (t : Bool) (x : X) → cond t x x ≡ x
cond_same true x = refl
cond_same false x = refl

-- ---- tests of numbers and of bytes

pub eqb_itself : (n : ℕ) → eqb n n ≡ true
eqb_itself n = grind (arith, nat_tests)

pub eqb_swap : (m n : ℕ) → eqb m n ≡ eqb n m
eqb_swap m n = grind (arith, nat_tests)

pub eqb_below : (m n : ℕ) → m < n → eqb m n ≡ false
eqb_below m n less = grind (arith, nat_tests)

pub eqb_above : (m n : ℕ) → n < m → eqb m n ≡ false
eqb_above m n more = grind (arith, nat_tests)

pub bytes_eq-same : (s t : List ℕ) → bytes_eq s t ≡ true → s ≡ t
bytes_eq-same s t = (bytes_eq-Decides s t).0

pub bytes_eq-swap : (s t : List ℕ) → bytes_eq s t ≡ bytes_eq t s
bytes_eq-swap s t =
    both_ways (bytes_eq s t) (bytes_eq t s) (λ e. (bytes_eq-Decides t s).1 (sym ((bytes_eq-Decides s t).0 e)))
    (λ e. (bytes_eq-Decides s t).1 (sym ((bytes_eq-Decides t s).0 e)))

-- ---- orders

pub less_is : (o : Ordering) → is_lt o ≡ true → o ≡ Less
less_is Less e = refl
less_is Equal e = cc e
less_is Greater e = cc e

pub second_equal : (r s : Ordering) → ordering_then r s ≡ Equal → s ≡ Equal
second_equal Less s e = cc
second_equal Equal s e = e
second_equal Greater s e = cc

pub above_is_not_less : (m n : ℕ) → m < n → is_lt (nat_cmp n m) ≡ false
above_is_not_less m n less = grind (arith, nat_tests)

pub never_below_itself : (s : List ℕ) → is_lt (slice_cmp nat_cmp s s) ≡ true → ⊥
never_below_itself s below =
    let no : false ≡ true = sym (ap is_lt (tied_itself nat_list_cmp_total s)) ∙ below in
    cc no
