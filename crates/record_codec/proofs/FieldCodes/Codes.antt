-- What is read is spelled so, and what is spelled so is read again, whatever stands behind it.
use Rattle.std.proofs.Common.{◌≡◌, ℕ, zero, suc, ◌+◌, ◌^◌, ◌<◌, ◌≤◌, Bool, true, false, cond, ltb, List, [], ◌∷◌, ◌++◌, length, get_or, take, drop, Option, Some, None, refl, sym, ap, subst, ◌∙◌, append_assoc, arith, inl, inr}
use Rattle.std.specs.Prelude.{IsTrue}
use Rattle.std.specs.List.{flat_map, AllByRecursion}
use Rattle.std.specs.Option.{option_and_then, option_map}
use Rattle.std.specs.Int.{Width, w16, w32, w64, byte_len, from_le_bytes, to_le_bytes}
use Rattle.std.proofs.lemmas.Bool.{cases_lt, ltb-false, le-ltb}
use Rattle.std.proofs.lemmas.List.{take_at, drop_at, take-append-drop, length-append, length-take, get_or-take, get_or_past, get_or-append-add}
use Rattle.std.proofs.lemmas.Option.{same_Some, cond_some}
use Rattle.std.proofs.lemmas.Nat.{le_bytes_2, le_bytes_4, le_bytes_8, from_le_bytes-to_le_bytes_2, from_le_bytes-to_le_bytes_4, from_le_bytes-to_le_bytes_8}
use Rattle.rulebook.specs.Words.{Text}
use Rattle.record_codec.specs.Readings.{Read, before, byte_read, bytes_read, counted_read, items_read, number_read, value_by, value_if}

-- Bytes

abbrev pub IsBytes : Text → Type 0
IsBytes bytes = (i : ℕ) → get_or bytes i 0 < 256

IsBytes-take : (n : ℕ) (bytes : Text) → IsBytes bytes → IsBytes (take n bytes)
IsBytes-take n bytes fits i =
    elim (cases_lt i n) [
      | inl lt ↦ rw (get_or-take n bytes i 0 lt) (fits i)
      | inr le ↦ rw (get_or_past (take n bytes) i 0 (omega (arith, length-take n bytes))) (omega arith)
    ]

-- what stands behind a text is bytes
pub IsBytes-behind : (bytes text rest : Text) → IsBytes bytes → bytes ≡ text ++ rest → IsBytes rest
IsBytes-behind bytes text rest fits is i =
    subst (λ (n : ℕ). n < 256) (ap (λ (b : Text). get_or b (length text + i) 0) is ∙ get_or-append-add text rest i 0)
    (fits (length text + i))

-- Options

pub bind_some : {A B : Type 0} (r : Option A) (f : A → Option B) (y : B) → option_and_then f r ≡ Some y
    → (x : A) × (r ≡ Some x) × (f x ≡ Some y)
bind_some (Some x) f y is = (x, refl, is)
bind_some None f y is = absurd cc

pub map_some : {A B : Type 0} (r : Option A) (f : A → B) (y : B) → option_map f r ≡ Some y
    → (x : A) × (r ≡ Some x) × (f x ≡ y)
map_some (Some x) f y is = (x, refl, cc)
map_some None f y is = absurd cc

guard_some : {A : Type 0} (b : Bool) (x y : A) → cond b None (Some x) ≡ Some y → (b ≡ false) × (x ≡ y)
guard_some true x y is = absurd cc
guard_some false x y is = (refl, cc)

-- Four texts in a row, however they are joined

pub four_texts : (a b c d : Text) → a ++ (b ++ (c ++ d)) ≡ a ++ b ++ c ++ d
four_texts a b c d = sym (append_assoc a b (c ++ d)) ∙ sym (append_assoc (a ++ b) c d)

-- A reading and the spelling of what it reads

pub record Codes {X : Type 0} (spell : X → Text) (Fits : X → Type 0) (at : Text → Read X) : Type 0 where
  pub takes : (bytes : Text) (p : X × Text) → IsBytes bytes → at bytes ≡ Some p → Fits p.0 × (bytes ≡ spell p.0 ++ p.1)
  pub again : (x : X) (rest : Text) → Fits x → at (spell x ++ rest) ≡ Some (x, rest)

-- Numbers

byte_takes : (bytes : Text) (p : ℕ × Text) → IsBytes bytes → byte_read bytes ≡ Some p
    → (p.0 < 256) × (bytes ≡ (p.0 ∷ []) ++ p.1)
byte_takes [] p fits is = absurd cc
byte_takes (b ∷ rest) p fits is =
    let read : ℕ × Text = (b, rest) in
    subst (λ (q : ℕ × Text). (q.0 < 256) × ((b ∷ rest) ≡ (q.0 ∷ []) ++ q.1)) (same_Some read p is) (fits 0, refl)

pub byte_codes : Codes (λ b. b ∷ []) (λ b. b < 256) byte_read
byte_codes = record { takes = byte_takes; again = λ b rest fits. refl }

pub record IsWide (w : Width) (limit : ℕ) : Type 0 where
  pub len : (n : ℕ) → length (to_le_bytes w n) ≡ byte_len w
  pub back : (bytes : Text) → length bytes ≡ byte_len w → IsBytes bytes → to_le_bytes w (from_le_bytes w bytes) ≡ bytes
  pub again : (n : ℕ) → n < limit → from_le_bytes w (to_le_bytes w n) ≡ n
  pub below : (bytes : Text) → IsBytes bytes → from_le_bytes w bytes < limit

pub wide16 : IsWide w16 (2 ^ 16)
wide16 = record {
  len = λ n. refl;
  back = λ bytes len fits. le_bytes_2 bytes _ len fits refl;
  again = λ n lt. from_le_bytes-to_le_bytes_2 n lt;
  below = λ bytes fits. omega (arith, fits 0, fits 1);
}

pub wide32 : IsWide w32 (2 ^ 32)
wide32 = record {
  len = λ n. refl;
  back = λ bytes len fits. le_bytes_4 bytes _ len fits refl;
  again = λ n lt. from_le_bytes-to_le_bytes_4 n lt;
  below = λ bytes fits. omega (arith, fits 0, fits 1, fits 2, fits 3);
}

pub wide64 : IsWide w64 (2 ^ 64)
wide64 = record {
  len = λ n. refl;
  back = λ bytes len fits. le_bytes_8 bytes _ len fits refl;
  again = λ n lt. from_le_bytes-to_le_bytes_8 n lt;
  below = λ bytes fits. omega (arith, fits 0, fits 1, fits 2, fits 3, fits 4, fits 5, fits 6, fits 7);
}

module _ (w : Width) (limit : ℕ) (wide : IsWide w limit) where
  number_takes : (bytes : Text) (p : ℕ × Text) → IsBytes bytes → number_read w bytes ≡ Some p
      → (p.0 < limit) × (bytes ≡ to_le_bytes w p.0 ++ p.1)
  unfolding number_read
  number_takes bytes p fits is =
      let g = guard_some (ltb (length bytes) (byte_len w))
      (from_le_bytes w (take (byte_len w) bytes), drop (byte_len w) bytes) p is in
      let long : byte_len w ≤ length bytes = ltb-false _ _ g.0 in
      let n : ℕ = from_le_bytes w (take (byte_len w) bytes) in
      let below = wide.below (take (byte_len w) bytes) (IsBytes-take (byte_len w) bytes fits) in
      let len : length (take (byte_len w) bytes) ≡ byte_len w = omega (arith, length-take (byte_len w) bytes) in
      let front : to_le_bytes w n ≡ take (byte_len w) bytes =
      wide.back (take (byte_len w) bytes) len (IsBytes-take (byte_len w) bytes fits) in
      let parts : bytes ≡ to_le_bytes w n ++ drop (byte_len w) bytes =
      sym (take-append-drop (byte_len w) bytes) ∙ ap (λ (t : Text). t ++ drop (byte_len w) bytes) (sym front) in
      subst (λ (q : ℕ × Text). (q.0 < limit) × (bytes ≡ to_le_bytes w q.0 ++ q.1)) g.1 (below, parts)

  number_again : (n : ℕ) (rest : Text) → n < limit → number_read w (to_le_bytes w n ++ rest) ≡ Some (n, rest)
  unfolding number_read
  number_again n rest lt =
      let len = wide.len n in
      let long : ltb (length (to_le_bytes w n ++ rest)) (byte_len w) ≡ false =
      le-ltb _ _ (omega (arith, length-append (to_le_bytes w n) rest)) in
      rw (
        long,
        take_at (to_le_bytes w n) rest (byte_len w) len,
        drop_at (to_le_bytes w n) rest
            (byte_len w) len,
        wide.again n lt,
      ) refl

  pub number_codes : Codes (to_le_bytes w) (λ n. n < limit) (number_read w)
  number_codes = record { takes = number_takes; again = number_again }

-- A text behind its length

module _ (count : ℕ → Text) (Fits : ℕ → Type 0) (at : Text → Read ℕ) (c : Codes count Fits at) where
  abbrev text_at : Text → Read Text
  text_at bytes = option_and_then (λ n. bytes_read n.0 n.1) (at bytes)

  text_takes : (bytes : Text) (p : Text × Text) → IsBytes bytes → text_at bytes ≡ Some p
      → Fits (length p.0) × (bytes ≡ (count (length p.0) ++ p.0) ++ p.1)
  unfolding bytes_read
  text_takes bytes p fits is =
      let a = bind_some (at bytes) (λ n. bytes_read n.0 n.1) p is in
      let n : ℕ = a.0.0 in
      let left : Text = a.0.1 in
      let g = guard_some (ltb (length left) n) (take n left, drop n left) p a.2 in
      let long : n ≤ length left = ltb-false _ _ g.0 in
      let first = c.takes bytes a.0 fits a.1 in
      let len : n ≡ length (take n left) = omega (arith, length-take n left) in
      let parts : bytes ≡ (count n ++ take n left) ++ drop n left =
      first.1 ∙ ap (λ (t : Text). count n ++ t) (sym (take-append-drop n left))
      ∙ sym (append_assoc (count n) (take n left) (drop n left)) in
      let both : Fits (length (take n left)) × (bytes ≡ (count (length (take n left)) ++ take n left) ++ drop n left) =
      subst (λ (k : ℕ). Fits k × (bytes ≡ (count k ++ take n left) ++ drop n left)) len (first.0, parts) in
      subst (λ (q : Text × Text). Fits (length q.0) × (bytes ≡ (count (length q.0) ++ q.0) ++ q.1)) g.1 both

  text_again : (text rest : Text) → Fits (length text)
      → text_at ((count (length text) ++ text) ++ rest) ≡ Some (text, rest)
  unfolding bytes_read
  text_again text rest fits =
      let long : ltb (length (text ++ rest)) (length text) ≡ false =
      le-ltb _ _ (omega (arith, length-append text rest)) in
      ap text_at (append_assoc (count (length text)) text rest)
      ∙ rw (
        c.again (length text) (text ++ rest) fits,
        long,
        take_at text rest (length text) refl,
        drop_at text rest
            (length text) refl,
      ) refl

  pub text_codes : Codes (λ text. count (length text) ++ text) (λ text. Fits (length text)) text_at
  text_codes = record { takes = text_takes; again = text_again }

-- A value that passes a test

module _ {X : Type 0} {spell : X → Text} {Fits : X → Type 0} {at : Text → Read X} (c : Codes spell Fits at)
    (test : X → Bool) where
  tested_takes : (bytes : Text) (p : X × Text) → IsBytes bytes → value_if test (at bytes) ≡ Some p
      → (Fits p.0 × IsTrue (test p.0)) × (bytes ≡ spell p.0 ++ p.1)
  tested_takes bytes p fits is =
      let a = bind_some (at bytes) (λ x. cond (test x.0) (Some x) None) p is in
      let g = cond_some (test a.0.0) a.0 p a.2 in
      let first = c.takes bytes a.0 fits a.1 in
      subst (λ (q : X × Text). (Fits q.0 × IsTrue (test q.0)) × (bytes ≡ spell q.0 ++ q.1)) g.1
      ((first.0, g.0), first.1)

  tested_again : (x : X) (rest : Text) → Fits x × IsTrue (test x) → value_if test (at (spell x ++ rest)) ≡ Some (x, rest)
  tested_again x rest fits = rw (c.again x rest fits.0, fits.1) refl

  pub tested : Codes spell (λ x. Fits x × IsTrue (test x)) (λ bytes. value_if test (at bytes))
  tested = record { takes = tested_takes; again = tested_again }

-- What is made of a value, there and back

module _ {X Y : Type 0} {spell : X → Text} {Fits : X → Type 0} {at : Text → Read X} (c : Codes spell Fits at)
    (f : X → Y) (g : Y → X)
    (there : (y : Y) → f (g y) ≡ y) (back : (x : X) → g (f x) ≡ x) where
  changed_takes : (bytes : Text) (p : Y × Text) → IsBytes bytes → value_by f (at bytes) ≡ Some p
      → Fits (g p.0) × (bytes ≡ spell (g p.0) ++ p.1)
  changed_takes bytes p fits is =
      let a = map_some (at bytes) (λ x. (f x.0, x.1)) p is in
      let first = c.takes bytes a.0 fits a.1 in
      let moved : Fits (g (f a.0.0)) × (bytes ≡ spell (g (f a.0.0)) ++ a.0.1) =
      subst (λ (x : X). Fits x × (bytes ≡ spell x ++ a.0.1)) (sym (back a.0.0)) first in
      subst (λ (q : Y × Text). Fits (g q.0) × (bytes ≡ spell (g q.0) ++ q.1)) a.2 moved

  changed_again : (y : Y) (rest : Text) → Fits (g y) → value_by f (at (spell (g y) ++ rest)) ≡ Some (y, rest)
  changed_again y rest fits = rw (c.again (g y) rest fits) (ap (λ (z : Y). Some (z, rest)) (there y))

  pub changed : Codes (λ y. spell (g y)) (λ y. Fits (g y)) (λ bytes. value_by f (at bytes))
  changed = record { takes = changed_takes; again = changed_again }

-- What is made of a value where it fits, of which some values come alone

module _ {X Y : Type 0} {spell : X → Text} {Fits : X → Type 0} {at : Text → Read X} (c : Codes spell Fits at)
    (f : X → Y) (g : Y → X) (Comes : Y → Type 0)
    (there : (y : Y) → Comes y → f (g y) ≡ y) (back : (x : X) → Fits x → g (f x) ≡ x) (comes : (x : X) → Comes (f x)) where
  folded_takes : (bytes : Text) (p : Y × Text) → IsBytes bytes → value_by f (at bytes) ≡ Some p
      → (Fits (g p.0) × Comes p.0) × (bytes ≡ spell (g p.0) ++ p.1)
  folded_takes bytes p fits is =
      let a = map_some (at bytes) (λ x. (f x.0, x.1)) p is in
      let first = c.takes bytes a.0 fits a.1 in
      let moved : Fits (g (f a.0.0)) × (bytes ≡ spell (g (f a.0.0)) ++ a.0.1) =
      subst (λ (x : X). Fits x × (bytes ≡ spell x ++ a.0.1)) (sym (back a.0.0 first.0)) first in
      subst (λ (q : Y × Text). (Fits (g q.0) × Comes q.0) × (bytes ≡ spell (g q.0) ++ q.1)) a.2 ((moved.0, comes a.0.0), moved.1)

  folded_again : (y : Y) (rest : Text) → Fits (g y) × Comes y → value_by f (at (spell (g y) ++ rest)) ≡ Some (y, rest)
  folded_again y rest fits = rw (c.again (g y) rest fits.0) (ap (λ (z : Y). Some (z, rest)) (there y fits.1))

  pub folded : Codes (λ y. spell (g y)) (λ y. Fits (g y) × Comes y) (λ bytes. value_by f (at bytes))
  folded = record { takes = folded_takes; again = folded_again }

-- Two values, one behind the other

module _ {X Y : Type 0} {s : X → Text} {F : X → Type 0} {a : Text → Read X} {t : Y → Text} {G : Y → Type 0} {b : Text
    → Read Y} (c : Codes s F a) (d : Codes t G b) where
  both_takes : (bytes : Text) (p : (X × Y) × Text) → IsBytes bytes → before a b bytes ≡ Some p
      → (F p.0.0 × G p.0.1) × (bytes ≡ (s p.0.0 ++ t p.0.1) ++ p.1)
  both_takes bytes p fits is =
      let u = bind_some (a bytes) (λ x. option_and_then (λ y. Some ((x.0, y.0), y.1)) (b x.1)) p is in
      let x : X = u.0.0 in
      let left : Text = u.0.1 in
      let v = bind_some (b left) (λ y. Some ((x, y.0), y.1)) p u.2 in
      let y : Y = v.0.0 in
      let rest : Text = v.0.1 in
      let first = c.takes bytes u.0 fits u.1 in
      let second = d.takes left v.0 (IsBytes-behind bytes (s x) left fits first.1) v.1 in
      let parts : bytes ≡ (s x ++ t y) ++ rest =
      first.1 ∙ ap (λ (z : Text). s x ++ z) second.1 ∙ sym (append_assoc (s x) (t y) rest) in
      let read : (X × Y) × Text = ((x, y), rest) in
      subst (λ (q : (X × Y) × Text). (F q.0.0 × G q.0.1) × (bytes ≡ (s q.0.0 ++ t q.0.1) ++ q.1))
      (same_Some read p v.2) ((first.0, second.0), parts)

  both_again : (p : X × Y) (rest : Text) → F p.0 × G p.1 → before a b ((s p.0 ++ t p.1) ++ rest) ≡ Some (p, rest)
  both_again p rest fits =
      ap (before a b) (append_assoc (s p.0) (t p.1) rest)
      ∙ rw (c.again p.0 (t p.1 ++ rest) fits.0, d.again p.1 rest fits.1) refl

  pub both : Codes (λ p. s p.0 ++ t p.1) (λ p. F p.0 × G p.1) (before a b)
  both = record { takes = both_takes; again = both_again }

-- Items behind their count

module _ {X : Type 0} {spell : X → Text} {Fits : X → Type 0} {at : Text → Read X} (c : Codes spell Fits at) where
  items_take : (n : ℕ) (bytes : Text) (p : List X × Text) → IsBytes bytes → items_read at n bytes ≡ Some p
      → (length p.0 ≡ n) × (AllByRecursion Fits p.0 × (bytes ≡ flat_map spell p.0 ++ p.1))
  unfolding items_read
  items_take zero bytes p fits is =
      let read : List X × Text = ([], bytes) in
      subst (λ (q : List X × Text). (length q.0 ≡ 0)
      × (AllByRecursion Fits q.0 × (bytes ≡ flat_map spell q.0 ++ q.1))) (same_Some read p is) (refl, (tt, refl))
  items_take (suc n) bytes p fits is =
      let u = bind_some (at bytes) (λ x. option_and_then (λ xs. Some (x.0 ∷ xs.0, xs.1)) (items_read at n x.1)) p is in
      let x : X = u.0.0 in
      let left : Text = u.0.1 in
      let v = bind_some (items_read at n left) (λ xs. Some (x ∷ xs.0, xs.1)) p u.2 in
      let first = c.takes bytes u.0 fits u.1 in
      let others = items_take n left v.0 (IsBytes-behind bytes (spell x) left fits first.1) v.1 in
      let parts : bytes ≡ flat_map spell (x ∷ v.0.0) ++ v.0.1 =
      first.1 ∙ ap (λ (z : Text). spell x ++ z) others.1.1
      ∙ sym (append_assoc (spell x) (flat_map spell v.0.0) v.0.1) in
      let read : List X × Text = (x ∷ v.0.0, v.0.1) in
      subst (λ (q : List X × Text). (length q.0 ≡ suc n)
      × (AllByRecursion Fits q.0 × (bytes ≡ flat_map spell q.0 ++ q.1))) (same_Some read p v.2)
      (ap suc others.0, ((first.0, others.1.0), parts))

  pub items_again : (xs : List X) (rest : Text) → AllByRecursion Fits xs
      → items_read at (length xs) (flat_map spell xs ++ rest) ≡ Some (xs, rest)
  unfolding items_read
  items_again [] rest fits = refl
  items_again (x ∷ xs) rest fits =
      ap (items_read at (suc (length xs))) (append_assoc (spell x) (flat_map spell xs) rest)
      ∙ rw (c.again x (flat_map spell xs ++ rest) fits.0, items_again xs rest fits.1) refl

  module _ (test : ℕ → Bool) where
    abbrev Counts : ℕ → Type 0
    Counts n = (n < 2 ^ 32) × IsTrue (test n)

    abbrev IsListed : List X → Type 0
    IsListed xs = Counts (length xs) × AllByRecursion Fits xs

    abbrev spelled : List X → Text
    spelled xs = to_le_bytes w32 (length xs) ++ flat_map spell xs

    count_codes : Codes (to_le_bytes w32) Counts (λ bytes. value_if test (number_read w32 bytes))
    count_codes = tested (number_codes w32 (2 ^ 32) wide32) test

    listed_takes : (bytes : Text) (p : List X × Text) → IsBytes bytes → counted_read test at bytes ≡ Some p
        → IsListed p.0 × (bytes ≡ spelled p.0 ++ p.1)
    unfolding counted_read
    listed_takes bytes p fits is =
        let u = bind_some (value_if test (number_read w32 bytes)) (λ n. items_read at n.0 n.1) p is in
        let n : ℕ = u.0.0 in
        let left : Text = u.0.1 in
        let first = count_codes.takes bytes u.0 fits u.1 in
        let others = items_take n left p (IsBytes-behind bytes (to_le_bytes w32 n) left fits first.1) u.2 in
        let parts : bytes ≡ (to_le_bytes w32 n ++ flat_map spell p.0) ++ p.1 =
        first.1 ∙ ap (λ (z : Text). to_le_bytes w32 n ++ z) others.1.1
        ∙ sym (append_assoc (to_le_bytes w32 n) (flat_map spell p.0) p.1) in
        subst (λ (k : ℕ). (Counts k × AllByRecursion Fits p.0)
        × (bytes ≡ (to_le_bytes w32 k ++ flat_map spell p.0) ++ p.1)) (sym others.0)
        ((first.0, others.1.0), parts)

    listed_again : (xs : List X) (rest : Text) → IsListed xs → counted_read test at (spelled xs ++ rest) ≡ Some (xs, rest)
    unfolding counted_read
    listed_again xs rest fits =
        ap (counted_read test at) (append_assoc (to_le_bytes w32 (length xs)) (flat_map spell xs) rest)
        ∙ rw (count_codes.again (length xs) (flat_map spell xs ++ rest) fits.0) (items_again xs rest fits.1)

    pub listed_codes : Codes spelled IsListed (counted_read test at)
    listed_codes = record { takes = listed_takes; again = listed_again }

-- Another spelling that is the same, and another condition that says the same

module _ {X : Type 0} {spell : X → Text} {Fits : X → Type 0} {at : Text → Read X} (c : Codes spell Fits at)
    (other : X → Text) (Holds : X → Type 0)
    (same : (x : X) → spell x ≡ other x) (from : (x : X) → Fits x → Holds x) (to : (x : X) → Holds x → Fits x) where
  like_takes : (bytes : Text) (p : X × Text) → IsBytes bytes → at bytes ≡ Some p
      → Holds p.0 × (bytes ≡ other p.0 ++ p.1)
  like_takes bytes p fits is =
      let first = c.takes bytes p fits is in
      (from p.0 first.0, first.1 ∙ ap (λ (t : Text). t ++ p.1) (same p.0))

  like_again : (x : X) (rest : Text) → Holds x → at (other x ++ rest) ≡ Some (x, rest)
  like_again x rest holds = ap (λ (t : Text). at (t ++ rest)) (sym (same x)) ∙ c.again x rest (to x holds)

  pub like : Codes other Holds at
  like = record { takes = like_takes; again = like_again }
