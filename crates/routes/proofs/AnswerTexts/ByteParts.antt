-- Bytes that grow by one part after another.
use Rattle.std.proofs.Common.{◌≡◌, ℕ, ◌+◌, ◌<◌, ◌≤◌, List, [], ◌∷◌, ◌++◌, Bool, true, false, length, drop, Some, get_or, ◌-◌, ap, sym, ◌∙◌, refl, take, map, arith, append-nil, append_assoc, ap₂, length-drop}
use Rattle.std.specs.Prelude.{slice_get, not, ◌==◌, ◌||◌, ◌&&◌, codes, if◌then◌else◌}
use Rattle.std.specs.List.{flat_map, join_with_byte, list_all}
use Rattle.std.proofs.lemmas.List.{drop-append-le, drop_at, take-append-le, take_all, take_at}
use Rattle.routes.specs.Bytes.{backslash, colon, comma, quote}
use Rattle.routes.specs.Json.Objects.{Member, escaped, escaped_byte, member_text, object}
use Rattle.routes.specs.Json.MemberValues.{is_unescaped_byte}
use Rattle.std.proofs.lemmas.Bool.{and_parts}
use Rattle.std.proofs.lemmas.Simd.{map-map}

-- what the first of some items comes to
pub first_of : {X : Type 0} (f : X → List ℕ) (items : List X) (first : X) → slice_get items 0 ≡ Some first
    → flat_map f items ≡ f first ++ flat_map f (drop 1 items)
first_of f [] first is = cc
first_of f (item ∷ items) first is = let same : item ≡ first = cc in ap (λ x. f x ++ flat_map f items) same

-- items joined by commas are the first, and then each other behind a comma
joined_first : {X : Type 0} (f : X → List ℕ) (first : X) (others : List X)
    → join_with_byte comma (map f (first ∷ others)) ≡ f first ++ flat_map (λ x. comma ∷ f x) others
joined_first f first [] = sym (append-nil (f first))
joined_first f first (next ∷ others) = ap (λ text. f first ++ (comma ∷ text)) (joined_first f next others)

-- items joined by commas between a front and an end
pub joined_split : {X : Type 0} (f : X → List ℕ) (front ending : List ℕ) (items : List X) (first : X)
    → slice_get items 0 ≡ Some first
    → ((front ++ f first) ++ flat_map (λ x. comma ∷ f x) (take (length items - 1) (drop 1 items))) ++ ending
    ≡ front ++ (join_with_byte comma (map f items) ++ ending)
joined_split f front ending [] first is = cc
joined_split f front ending (item ∷ items) first is =
    let whole : take (length (item ∷ items) - 1) items ≡ items = take_all (length (item ∷ items) - 1) items (omega arith) in
    let same : item ≡ first = cc in
    rw (whole, ← same)
    (ap (λ text. text ++ ending) (append_assoc front (f item) (flat_map (λ x. comma ∷ f x) items))
    ∙ append_assoc front (f item ++ flat_map (λ x. comma ∷ f x) items) ending
    ∙ ap (λ text. front ++ (text ++ ending)) (sym (joined_first f item items)))

-- an object of some members, the first of which is known
pub members_split : {X : Type 0} (shown : X → Member) (items : List X) (first : X) → slice_get items 0 ≡ Some first
    → ((codes "{" ++ member_text (shown first)) ++ flat_map (λ x. comma ∷ member_text (shown x)) (take (length items - 1) (drop 1 items))) ++ codes "}\n"
    ≡ object (map shown items)
members_split shown items first is =
    joined_split (λ x. member_text (shown x)) (codes "{") (codes "}\n") items first is
    ∙ ap (λ texts. codes "{" ++ (join_with_byte comma texts ++ codes "}\n")) (sym (map-map member_text shown items))

-- a member behind some bytes
pub member_behind : (front name value : List ℕ) → (front ++ (quote ∷ (name ++ quote ∷ colon ∷ []))) ++ value ≡ front ++ member_text (name, value)
member_behind front name value = simp append_assoc

plain_byte : (b : ℕ) → is_unescaped_byte b ≡ true → escaped_byte b ≡ b ∷ []
plain_byte b is = by_tests (b == quote) (b == backslash) is
  where
    by_tests : (first second : Bool) → (not first && not second) ≡ true → (if first || second then backslash ∷ b ∷ [] else b ∷ []) ≡ b ∷ []
    by_tests true second is = cc
    by_tests false true is = cc
    by_tests false false is = refl

-- a text without marks is its own escaped text
pub escaped_same : (text : List ℕ) → list_all is_unescaped_byte text ≡ true → escaped text ≡ text
escaped_same [] is = refl
escaped_same (b ∷ text) is =
    let parts = and_parts (is_unescaped_byte b) (list_all is_unescaped_byte text) is in
    ap (λ front. front ++ escaped text) (plain_byte b parts.0) ∙ ap (λ rest. b ∷ rest) (escaped_same text parts.1)

-- the byte that stands first
pub first_byte : (bytes : List ℕ) → 0 < length bytes → slice_get bytes 0 ≡ Some (get_or bytes 0 0)
first_byte [] some = absurd (omega arith)
first_byte (byte ∷ bytes) some = refl

-- what is put behind a part of some bytes and brought forward stands in front of that part
pub put_in_front : (old : List ℕ) (count : ℕ) (head : ℕ → List ℕ) (mid new : List ℕ) (before : ℕ)
    → count ≡ length old → before ≤ count → mid ≡ old ++ head (count - before)
    → new ≡ take before mid ++ (drop (before + (count - before)) mid ++ take (count - before) (drop before mid))
    → new ≡ take before old ++ (head (length (drop before old)) ++ drop before old)
put_in_front old count head mid new before counted within grown turned =
    let size = count - before in
    let text = head size in
    let inside : before ≤ length old = omega arith in
    let whole : length old ≡ before + size = omega arith in
    let part : length (drop before old) ≡ size = omega (arith, length-drop before old) in
    let first : take before mid ≡ take before old = ap (take before) grown ∙ take-append-le before old text inside in
    let last : drop (before + size) mid ≡ text = ap (drop (before + size)) grown ∙ drop_at old text (before + size) whole in
    let middle : take size (drop before mid) ≡ drop before old =
    ap (λ xs. take size (drop before xs)) grown ∙ ap (take size) (drop-append-le before old text inside) ∙ take_at (drop before old) text size part in
    turned ∙ ap (λ xs. xs ++ (drop (before + size) mid ++ take size (drop before mid))) first
    ∙ ap (λ xs. take before old ++ (xs ++ take size (drop before mid))) last
    ∙ ap (λ xs. take before old ++ (text ++ xs)) middle ∙ ap (λ n. take before old ++ (head n ++ drop before old)) (sym part)

-- what is made of the part behind the first bytes stands behind them
pub behind_first : (old : List ℕ) (count : ℕ) (part mid new : List ℕ) (make : List ℕ → List ℕ) → count ≡ length old → mid ≡ old ++ part
    → new ≡ take count mid ++ make (drop count mid) → new ≡ old ++ make part
behind_first old count part mid new make counted grown is =
    is ∙ ap₂ (λ first last. first ++ make last) (ap (take count) grown ∙ take_at old part count (sym counted))
    (ap (drop count) grown ∙ drop_at old part count (sym counted))
