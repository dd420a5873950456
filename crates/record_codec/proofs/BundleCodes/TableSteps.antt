-- Tables of what entries use, entry by entry, and a table whose things are spelled.
use Rattle.std.proofs.Common.{◌≡◌, ◌||◌, ◌&&◌, ◌==◌, ◌≤◌, ◌<◌, ◌*◌, ◌+◌, ℕ, zero, suc, Bool, true, false, List, [], ◌∷◌, ◌++◌, cond, get_or, length, map, take, refl, sym, ap, ◌∙◌, arith, append-nil}
use Rattle.std.specs.Prelude.{Option, Some, None, bytes_eq, if◌then◌else◌, is_some, nat_lt, not}
use Rattle.std.specs.List.{flat_map, fold, list_any, position, position_or_len}
use Rattle.std.specs.Option.{option_map}
use Rattle.std.proofs.lemmas.Bool.Decides.{nat_tests}
use Rattle.std.proofs.lemmas.Grind.{flat_map-append}
use Rattle.std.proofs.lemmas.List.{length-map, length-take, map-append, take_more}
use Rattle.std.proofs.lemmas.List.Recursion.{is_position_or_len}
use Rattle.std.proofs.lemmas.List.Sums.{prefix_len-le-length, fold-append}
use Rattle.std.proofs.lemmas.Slice.Eq.{bytes_eq-Decides}
use Rattle.std.proofs.Math.Bool.{and-false, and-true}
use Rattle.rulebook.specs.declared.rules.Caller.{Caller}
use Rattle.rulebook.specs.declared.entry.EntryCore.{EntryCore}
use Rattle.rulebook.specs.Spelling.{role_byte}
use Rattle.rulebook.specs.Words.{Text}
use Rattle.record_codec.specs.Bundles.{caller_bytes, texts_in, texts_of}
use Rattle.record_codec.specs.Tables.{callers_of, index_of, same_caller, with_use}
use Rattle.record_codec.proofs.BundleCodes.BundleSizes.{table_few, used, user, uses_few}

-- An index, or the length

one_more : (b : Bool) (n : ℕ) → (if b then zero else suc n) ≡ cond b 0 (1 + n)
one_more true n = refl
one_more false n = omega arith

index_is : {X : Type 0} (same : X → X → Bool) (table : List X) (x : X) → index_of same table x ≡ position_or_len (same x) table
index_is same table x =
    is_position_or_len (λ t. index_of same t x) (same x) refl (λ y t. one_more (same x y) (index_of same t x)) table

pub index_found : {X : Type 0} (same : X → X → Bool) (table : List X) (x : X) (n : ℕ) → position (same x) table ≡ Some n
    → n ≡ index_of same table x
index_found same table x n is = by (nat_lt (position_or_len (same x) table) (length table)) is ∙ sym (index_is same table x)
  where
    by : (b : Bool) → cond b (Some (position_or_len (same x) table)) None ≡ Some n → n ≡ position_or_len (same x) table
    by true is = sym (cc is)
    by false is = cc is

pub index_missed : {X : Type 0} (same : X → X → Bool) (table : List X) (x : X) → position (same x) table ≡ None
    → length table ≡ index_of same table x
index_missed same table x is =
    by (nat_lt (position_or_len (same x) table) (length table)) refl is ∙ sym (index_is same table x)
  where
    most : position_or_len (same x) table ≤ length table
    most = prefix_len-le-length (λ y. not (same x y)) table

    by : (b : Bool) → nat_lt (position_or_len (same x) table) (length table) ≡ b
        → cond b (Some (position_or_len (same x) table)) None ≡ None → length table ≡ position_or_len (same x) table
    by true test is = cc is
    by false test is = let le = most in grind (arith, nat_tests)

-- what is there is not added again
pub found_stays : {X : Type 0} (same : X → X → Bool) (table : List X) (x : X) (n : ℕ) → position (same x) table ≡ Some n
    → table ≡ with_use same table x
found_stays same table x n is = by (list_any (same x) table) refl
  where
    within : (b : Bool) → nat_lt (position_or_len (same x) table) (length table) ≡ b
        → cond b (Some (position_or_len (same x) table)) None ≡ Some n → position_or_len (same x) table < length table
    within true test is = grind (arith, nat_tests)
    within false test is = cc is

    none : (xs : List _) → list_any (same x) xs ≡ false → length xs ≤ position_or_len (same x) xs
    none [] absent = omega arith
    none (y ∷ xs) absent = step (same x y) refl absent (none xs)
      where
        step : (t : Bool) → same x y ≡ t → (t || list_any (same x) xs) ≡ false
            → (list_any (same x) xs ≡ false → length xs ≤ position_or_len (same x) xs)
            → suc (length xs) ≤ position_or_len (same x) (y ∷ xs)
        step true is absent rest = cc absent
        step false is absent rest =
            let here : position_or_len (same x) (y ∷ xs) ≡ 1 + position_or_len (same x) xs =
            ap (λ t. cond (not t) (1 + position_or_len (same x) xs) 0) is in omega (arith, here, rest absent)

    by : (b : Bool) → list_any (same x) table ≡ b → table ≡ (if b then table else table ++ x ∷ [])
    by true there = refl
    by false absent =
        let within = within (nat_lt (position_or_len (same x) table) (length table)) refl is in
        absurd (omega (arith, within, none table absent))

pub there_stays : {X : Type 0} (same : X → X → Bool) (table : List X) (x : X) → is_some (position (same x) table) ≡ true
    → table ≡ with_use same table x
there_stays same table x there = by (position (same x) table) refl there
  where
    by : (found : Option ℕ) → position (same x) table ≡ found → is_some found ≡ true → table ≡ with_use same table x
    by (Some n) at there = found_stays same table x n at
    by None at there = absurd cc

pub some_mapped : {A B : Type 0} (f : A → B) (r : Option A) (told : Option B) → option_map f r ≡ told → is_some r ≡ true
    → is_some told ≡ true
some_mapped f (Some x) told is there = ap is_some (sym is)
some_mapped f None told is there = absurd cc

-- A table whose things are spelled, where spellings tell things apart

module _ {X : Type 0} (same : X → X → Bool) (spell : X → Text) (agrees : (a b : X) → bytes_eq (spell a) (spell b) ≡ same a b) where
  any_spelled : (table : List X) (x : X) → list_any (bytes_eq (spell x)) (map spell table) ≡ list_any (same x) table
  any_spelled [] x = refl
  any_spelled (y ∷ table) x =
      ap (λ (b : Bool). b || list_any (bytes_eq (spell x)) (map spell table)) (agrees x y)
      ∙ ap (λ (b : Bool). same x y || b) (any_spelled table x)

  pub use_spelled : (table : List X) (x : X) → with_use bytes_eq (map spell table) (spell x) ≡ map spell (with_use same table x)
  use_spelled table x =
      ap (λ (b : Bool). if b then map spell table else map spell table ++ spell x ∷ []) (any_spelled table x)
      ∙ by (list_any (same x) table)
    where
      by : (b : Bool) → (if b then map spell table else map spell table ++ spell x ∷ []) ≡ map spell (if b then table else table ++ x ∷ [])
      by true = refl
      by false = sym (map-append spell table (x ∷ []))

  pub index_spelled : (table : List X) (x : X) → index_of bytes_eq (map spell table) (spell x) ≡ index_of same table x
  index_spelled [] x = refl
  index_spelled (y ∷ table) x =
      ap (λ (b : Bool). if b then zero else suc (index_of bytes_eq (map spell table) (spell x))) (agrees x y)
      ∙ ap (λ (n : ℕ). if same x y then zero else suc n) (index_spelled table x)

-- Spelled callers

none_equal : (texts : Text) (y : ℕ) → bytes_eq [] (texts ++ y ∷ []) ≡ false
none_equal [] y = refl
none_equal (b ∷ t) y = refl

equal_none : (texts : Text) (x : ℕ) → bytes_eq (texts ++ x ∷ []) [] ≡ false
equal_none [] x = refl
equal_none (a ∷ s) x = refl

last_apart : (s t : Text) (x y : ℕ) → bytes_eq (s ++ x ∷ []) (t ++ y ∷ []) ≡ (bytes_eq s t && x == y)
last_apart [] [] x y = and-true (x == y)
last_apart [] (b ∷ t) x y = ap (λ (e : Bool). x == b && e) (none_equal t y) ∙ and-false (x == b)
last_apart (a ∷ s) [] x y = ap (λ (e : Bool). a == y && e) (equal_none s x) ∙ and-false (a == y)
last_apart (a ∷ s) (b ∷ t) x y = ap (λ (e : Bool). a == b && e) (last_apart s t x y) ∙ by (a == b)
  where
    by : (e : Bool) → (e && (bytes_eq s t && x == y)) ≡ ((e && bytes_eq s t) && x == y)
    by true = refl
    by false = refl

-- texts with the same bytes are as long
pub short_same : (a b : Text) → (length a == length b && bytes_eq a b) ≡ bytes_eq a b
short_same a b = by (bytes_eq a b) refl
  where
    by : (e : Bool) → bytes_eq a b ≡ e → (length a == length b && e) ≡ e
    by false is = and-false (length a == length b)
    by true is = grind (bytes_eq-Decides, arith, nat_tests)

pub callers_agree : (a b : Caller) → bytes_eq (caller_bytes a) (caller_bytes b) ≡ same_caller a b
callers_agree a b =
    ap (λ (e : Bool). length a.name == length b.name && e) (last_apart a.name b.name (role_byte a.role) (role_byte b.role))
    ∙ by (length a.name == length b.name) (bytes_eq a.name b.name) (short_same a.name b.name)
  where
    by : (l e : Bool) → (l && e) ≡ e → (l && (e && role_byte a.role == role_byte b.role)) ≡ (e && role_byte a.role == role_byte b.role)
    by true e is = refl
    by false e is = ap (λ (t : Bool). t && role_byte a.role == role_byte b.role) is

-- One entry more

pub texts_more : (cores : List EntryCore) (core : EntryCore)
    → fold (with_use bytes_eq) (texts_of cores) (texts_in core.command) ≡ texts_of (cores ++ core ∷ [])
texts_more cores core =
    ap (λ (uses : List Text). fold (with_use bytes_eq) (texts_of cores) uses) (sym (append-nil (texts_in core.command)))
    ∙ sym (fold-append (with_use bytes_eq) [] (flat_map used cores) (texts_in core.command ++ []))
    ∙ ap (λ (uses : List Text). fold (with_use bytes_eq) [] uses) (sym (flat_map-append used cores (core ∷ [])))

-- two texts an entry at most
pub texts_fit : (cores : List EntryCore) → length (texts_of cores) ≤ 2 * length cores
texts_fit cores = omega (arith, table_few bytes_eq [] (flat_map used cores), uses_few cores)

pub callers_more : (cores : List EntryCore) (core : EntryCore)
    → with_use same_caller (callers_of cores) core.caller ≡ callers_of (cores ++ core ∷ [])
callers_more cores core =
    sym (fold-append (with_use same_caller) [] (map user cores) (core.caller ∷ []))
    ∙ ap (λ (uses : List Caller). fold (with_use same_caller) [] uses) (sym (map-append user cores (core ∷ [])))

pub callers_next : (callers : List Text) (cores : List EntryCore) (i : ℕ) (core : EntryCore) → i < length cores
    → core ≡ get_or cores i core → callers ≡ map caller_bytes (callers_of (take i cores))
    → with_use bytes_eq callers (caller_bytes core.caller) ≡ map caller_bytes (callers_of (take (i + 1) cores))
callers_next callers cores i core within is so_far =
    ap (λ (t : List Text). with_use bytes_eq t (caller_bytes core.caller)) so_far
    ∙ use_spelled same_caller caller_bytes callers_agree (callers_of (take i cores)) core.caller
    ∙ ap (λ (t : List Caller). map caller_bytes t) (callers_more (take i cores) core)
    ∙ ap (λ (c : EntryCore). map caller_bytes (callers_of (take i cores ++ c ∷ []))) is
    ∙ ap (λ (cs : List EntryCore). map caller_bytes (callers_of cs)) (sym (take_more cores i core within))

-- a caller an entry at most
pub callers_fit : (callers : List Text) (cores : List EntryCore) (i : ℕ) → callers ≡ map caller_bytes (callers_of (take i cores))
    → length callers ≤ length cores
callers_fit callers cores i is =
    let so_far = take i cores in
    let same = ap (λ (t : List Text). length t) is in
    omega (arith, same, length-map (callers_of so_far) caller_bytes, table_few same_caller [] (map user so_far), length-map so_far user, length-take i cores)
