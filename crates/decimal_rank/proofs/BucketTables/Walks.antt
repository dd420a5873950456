-- A walk through a bucket, from the newest item to the first, finds the first item that passes a test.
use Rattle.std.proofs.Common.{◌≡◌, ◌≢◌, ◌<◌, ◌≤◌, ◌+◌, ◌%◌, ℕ, zero, suc, Bool, true, false, cond, List, [], ◌∷◌, length, drop, get_or, find, refl, sym, ◌∙◌, ap, arith, Option, Some, None}
use Rattle.std.specs.List.{slice_get}
use Rattle.std.specs.Option.{option_map_or}
use Rattle.std.proofs.lemmas.Bool.{false_from_ne_true}
use Rattle.std.proofs.lemmas.List.{drop_all, drop_more}
use Rattle.decimal_rank.specs.Tables.Buckets.{Buckets, IsNewest}
use Rattle.decimal_rank.specs.Tables.Searches.{AreUnder}

module _ {X : Type 0} (is : X → Bool) where
  -- no item between two places passes the test
  abbrev AreOthers : List X → ℕ → ℕ → Type 0
  AreOthers items from to = (i : ℕ) (item : X) → from ≤ i → i < to → slice_get items i ≡ Some item → is item ≡ false

  pub skip : (items : List X) (from to : ℕ) → from ≤ to → AreOthers items from to → find is (drop from items) ≡ find is (drop to items)
  skip [] from to le others = ap (find is) (drop_all from [] (omega arith) ∙ sym (drop_all to [] (omega arith)))
  skip (item ∷ items) zero zero le others = refl
  skip (item ∷ items) zero (suc to) le others =
      let first : is item ≡ false = others 0 item (omega arith) (omega arith) refl in
      let rest : find is (drop 0 items) ≡ find is (drop to items) =
      skip items zero to (omega arith) (λ i l below above got. others (suc i) l (omega arith) (omega arith) got) in
      rw first rest
  skip (item ∷ items) (suc from) zero le others = absurd (omega (arith, le))
  skip (item ∷ items) (suc from) (suc to) le others =
      skip items from to (omega (arith, le)) (λ i l below above got. others (suc i) l (omega (arith, below)) (omega (arith, above)) got)

  -- the items from a bound on were looked at, and the bucket's newest before it comes next
  pub record IsWalked (table : Buckets) (items : List X) (key : ℕ) (next : Option ℕ) (found : Option X) : Type 0 where
    pub bound : ℕ
    pub within : bound ≤ length items
    pub newest : IsNewest table.items bound (key % table.room) next
    pub seen : found ≡ find is (drop bound items)

  apart : (table : Buckets) (items : List X) (key from to : ℕ) → AreUnder is table items key
      → ((i : ℕ) → from ≤ i → i < to → slice_get table.items i ≢ Some (key % table.room)) → AreOthers items from to
  apart table items key from to under gap i item below above got =
      false_from_ne_true _ (λ yes. gap i below above (under.each i item got yes))

  told : (item : X) (rest : List X) (found : Option X) (t : Bool) → is item ≡ t → found ≡ find is rest → cond t (Some item) found ≡ find is (item ∷ rest)
  told item rest found true here seen = rw here refl
  told item rest found false here seen = rw here seen

  pub walk_goes_on : (table : Buckets) (items : List X) (key place : ℕ) (next : Option ℕ) (found : Option X) (item : X) → AreUnder is table items key
      → IsWalked table items key (Some place) found → item ≡ get_or items place item → IsNewest table.items place (key % table.room) next
      → IsWalked table items key next (cond (is item) (Some item) found)
  walk_goes_on table items key place next found item under w at newest =
      let below : place < w.bound = w.newest.0 in
      let within : place < length items = omega (arith, below, w.within) in
      let others : AreOthers items (place + 1) w.bound =
      apart table items key (place + 1) w.bound under (λ i from to. w.newest.2 i (omega (arith, from)) to) in
      let same : find is (drop (place + 1) items) ≡ find is (drop w.bound items) = skip items (place + 1) w.bound (omega (arith, below)) others in
      let cut : drop place items ≡ item ∷ drop (place + 1) items = drop_more items place item within ∙ ap (λ first. first ∷ drop (place + 1) items) (sym at) in
      record {
        bound = place;
        within = omega (arith, within);
        newest = newest;
        seen = rw cut (told item (drop (place + 1) items) found (is item) refl (w.seen ∙ sym same));
      }

  pub walk_ends : (table : Buckets) (items : List X) (key : ℕ) (found : Option X) → AreUnder is table items key
      → IsWalked table items key None found → found ≡ find is items
  walk_ends table items key found under w =
      let others : AreOthers items 0 w.bound = apart table items key 0 w.bound under (λ i from to. w.newest i to) in
      w.seen ∙ sym (skip items 0 w.bound (omega arith) others)

pub walk_shrinks : (items : List ℕ) (place bucket : ℕ) (next : Option ℕ) → IsNewest items place bucket next → option_map_or suc next 0 < suc place
walk_shrinks items place bucket None newest = omega arith
walk_shrinks items place bucket (Some at) newest = omega (arith, newest.0)
