-- The entries of a bundle, written one after another.
use Rattle.std.proofs.Common.{◌≡◌, ℕ, ◌<◌, ◌≤◌, ◌+◌, true, List, [], ◌∷◌, ◌++◌, drop, get_or, length, map, take, refl, sym, ap, ◌∙◌, append_assoc, append-nil, arith, leb-true}
use Rattle.std.specs.Prelude.{Some, nat_le, slice_get}
use Rattle.std.specs.List.{All, AllByRecursion, flat_map}
use Rattle.std.proofs.lemmas.Bool.{and_parts}
use Rattle.std.proofs.lemmas.Grind.{flat_map-append}
use Rattle.std.proofs.lemmas.List.{drop_more, length-map, take_more}
use Rattle.std.proofs.lemmas.List.Concat.{flat_map-cons}
use Rattle.std.proofs.lemmas.List.Elements.{All-cons, All-nil}
use Rattle.std.proofs.lemmas.Option.{get_or_from_slice_get}
use Rattle.rulebook.specs.declared.rules.Caller.{Caller}
use Rattle.rulebook.specs.declared.entry.EntryCore.{EntryCore}
use Rattle.rulebook.specs.Spelling.{short}
use Rattle.rulebook.specs.Words.{Text}
use Rattle.record_codec.specs.Bundles.{are_rising, bundle_bytes, caller_bytes, counted_items, item_bytes, item_of, items_of, texts_of}
use Rattle.record_codec.specs.Tables.{callers_of}
use Rattle.record_codec.specs.Varints.{varint}
use Rattle.record_codec.proofs.BundleCodes.BundleSizes.{IsBrief, items_few}

-- the entries that are left, and the one in front
pub left_is : (cores : List EntryCore) (i : ℕ) (core : EntryCore) → i < length cores → core ≡ get_or cores i core
    → drop i cores ≡ core ∷ drop (i + 1) cores
left_is cores i core within is =
    drop_more cores i core within ∙ ap (λ (c : EntryCore). c ∷ drop (i + 1) cores) (sym is)

pub rising_next : (earlier : ℕ) (core : EntryCore) (left rest : List EntryCore) → left ≡ core ∷ rest
    → are_rising earlier left ≡ true → (earlier ≤ core.moment) × (are_rising core.moment rest ≡ true)
rising_next earlier core left rest is rising =
    let parts = and_parts (nat_le earlier core.moment) (are_rising core.moment rest)
    (ap (λ (l : List EntryCore). are_rising earlier l) (sym is) ∙ rising) in
    (leb-true earlier core.moment parts.0, parts.1)

pub item_next : (table : List Caller) (texts : List Text) (out total : Text) (earlier : ℕ) (core : EntryCore)
    (left rest : List EntryCore) → left ≡ core ∷ rest
    → out ++ flat_map item_bytes (items_of table texts earlier left) ≡ total
    → (out ++ item_bytes (item_of table texts earlier core)) ++ flat_map item_bytes (items_of table texts core.moment rest) ≡ total
item_next table texts out total earlier core left rest is so_far =
    append_assoc out (item_bytes (item_of table texts earlier core)) (flat_map item_bytes (items_of table texts core.moment rest))
    ∙ ap (λ (t : Text). out ++ t) (sym (flat_map-cons item_bytes (item_of table texts earlier core) (items_of table texts core.moment rest)))
    ∙ ap (λ (l : List EntryCore). out ++ flat_map item_bytes (items_of table texts earlier l)) (sym is) ∙ so_far

-- what is written once none is left
pub items_end : (table : List Caller) (texts : List Text) (start out : Text) (earlier : ℕ) (cores left : List EntryCore) → left ≡ []
    → out ++ flat_map item_bytes (items_of table texts earlier left)
    ≡ start ++ (varint (length cores) ++ flat_map item_bytes (items_of table texts 0 cores))
    → out ≡ start ++ counted_items item_bytes (items_of table texts 0 cores)
items_end table texts start out earlier cores left none so_far =
    sym (append-nil out)
    ∙ ap (λ (l : List EntryCore). out ++ flat_map item_bytes (items_of table texts earlier l)) (sym none)
    ∙ so_far
    ∙ ap (λ (n : ℕ). start ++ (varint n ++ flat_map item_bytes (items_of table texts 0 cores))) (sym (items_few table texts 0 cores))

-- A table, written thing by thing

-- one thing more
pub table_next : (spell : Text → Text) (start out : Text) (table : List Text) (place : ℕ) (one : Text) → place < length table
    → slice_get table place ≡ Some one → out ≡ start ++ flat_map spell (take place table)
    → out ++ spell one ≡ start ++ flat_map spell (take (place + 1) table)
table_next spell start out table place one within is so_far =
    let here : get_or table place one ≡ one = get_or_from_slice_get table place one one is in
    ap (λ (t : Text). t ++ spell one) so_far ∙ append_assoc start (flat_map spell (take place table)) (spell one)
    ∙ ap (λ (t : Text). start ++ (flat_map spell (take place table) ++ t)) (sym (append-nil (spell one)))
    ∙ ap (λ (t : Text). start ++ t) (sym (flat_map-append spell (take place table) (one ∷ [])))
    ∙ ap (λ (t : Text). start ++ flat_map spell (take place table ++ t ∷ [])) (sym here)
    ∙ ap (λ (ts : List Text). start ++ flat_map spell ts) (sym (take_more table place one within))

joined_is : {X : Type 0} (spell : X → Text) (things : List X) → flat_map (λ t. t) (map spell things) ≡ flat_map spell things
joined_is spell [] = refl
joined_is spell (x ∷ things) = ap (λ (t : Text). spell x ++ t) (joined_is spell things)

-- a table of spelled things
counted_is : {X : Type 0} (spell : X → Text) (things : List X) → counted_items (λ t. t) (map spell things) ≡ counted_items spell things
counted_is spell things =
    ap (λ (n : ℕ). varint n ++ flat_map (λ t. t) (map spell things)) (length-map things spell)
    ∙ ap (λ (t : Text). varint (length things) ++ t) (joined_is spell things)

-- A bundle

-- its texts have a byte for their length
pub texts_counted : (texts : List Text) → AllByRecursion IsBrief texts → All (λ text. length text < 256) texts
texts_counted [] all = All-nil (λ (text : Text). length text < 256)
texts_counted (text ∷ texts) all =
    let few = all.0 in All-cons (λ (t : Text). length t < 256) text texts (omega (arith, few)) (texts_counted texts all.1)

module _ (cores : List EntryCore) where
  abbrev spelled_items : List Text → Text
  spelled_items texts = counted_items item_bytes (items_of (callers_of cores) texts 0 cores)

  -- the first byte, the tables and the entries, one behind the other
  pub bundle_is : (callers texts : List Text) (start first second third whole : Text)
      → callers ≡ map caller_bytes (callers_of cores) → texts ≡ texts_of cores → first ≡ start ++ 0 ∷ []
      → second ≡ first ++ counted_items (λ t. t) callers → third ≡ second ++ counted_items short texts
      → whole ≡ third ++ spelled_items texts → whole ≡ start ++ bundle_bytes cores
  bundle_is callers texts start first second third whole callers_are texts_are a b c d =
      let table = counted_items caller_bytes (callers_of cores) in
      let others = counted_items short (texts_of cores) in
      let items = spelled_items (texts_of cores) in
      let one = b ∙ ap (λ (t : Text). t ++ counted_items (λ t. t) callers) a
      ∙ ap (λ (ts : List Text). (start ++ 0 ∷ []) ++ counted_items (λ t. t) ts) callers_are
      ∙ ap (λ (t : Text). (start ++ 0 ∷ []) ++ t) (counted_is caller_bytes (callers_of cores)) in
      let two = c ∙ ap (λ (t : Text). t ++ counted_items short texts) one
      ∙ ap (λ (ts : List Text). ((start ++ 0 ∷ []) ++ table) ++ counted_items short ts) texts_are in
      d ∙ ap (λ (t : Text). t ++ spelled_items texts) two
      ∙ ap (λ (ts : List Text). (((start ++ 0 ∷ []) ++ table) ++ others) ++ spelled_items ts) texts_are
      ∙ append_assoc ((start ++ 0 ∷ []) ++ table) others items
      ∙ append_assoc (start ++ 0 ∷ []) table (others ++ items)
      ∙ append_assoc start (0 ∷ []) (table ++ (others ++ items))
