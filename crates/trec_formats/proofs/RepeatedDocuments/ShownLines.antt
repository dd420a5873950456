-- Lines that views show repeat what the views repeat.
use Rattle.std.proofs.Common.{◌≡◌, ℕ, Bool, true, false, List, [], ◌∷◌, map, find, refl, ap, ◌∙◌}
use Rattle.std.specs.Option.{option_map}
use Rattle.std.proofs.lemmas.List.{map-append}
use Rattle.decimal_rank.proofs.Lists.{pairs_map}
use Rattle.trec_formats.specs.declared.faults.FormatFault.{FormatFault}
use Rattle.trec_formats.specs.Faults.{IsDistinct, IsTwice}
use Rattle.trec_formats.proofs.RepeatedDocuments.DifferentDocuments.{apart_from_distinct, distinct_from_apart}

find_step : {X Y : Type 0} (shown : X → Y) (p : Y → Bool) (x : X) (xs : List X) (t : Bool) → p (shown x) ≡ t
    → find p (map shown xs) ≡ option_map shown (find (λ x. p (shown x)) xs) → find p (map shown (x ∷ xs)) ≡ option_map shown (find (λ x. p (shown x)) (x ∷ xs))
find_step shown p x xs true is rest = rw is refl
find_step shown p x xs false is rest = rw is rest

pub find_shown : {X Y : Type 0} (shown : X → Y) (p : Y → Bool) (xs : List X) → find p (map shown xs) ≡ option_map shown (find (λ x. p (shown x)) xs)
find_shown shown p [] = refl
find_shown shown p (x ∷ xs) = find_step shown p x xs (p (shown x)) refl (find_shown shown p xs)

module _ {X Y : Type 0} (shown : X → Y) (same : Y → Y → Bool) (number : Y → ℕ) where
  pub viewed_distinct : (xs : List X) → IsDistinct (λ a b. same (shown a) (shown b)) xs → IsDistinct same (map shown xs)
  viewed_distinct xs distinct =
      distinct_from_apart same (map shown xs) (pairs_map shown (λ a b. same b a ≡ false) xs (apart_from_distinct (λ a b. same (shown a) (shown b)) xs distinct))

  pub viewed_twice : (xs : List X) (fault : FormatFault) → IsTwice (λ a b. same (shown a) (shown b)) (λ a. number (shown a)) xs fault
      → IsTwice same number (map shown xs) fault
  viewed_twice xs fault w = record {
    before = map shown w.before;
    again = shown w.again;
    after = map shown w.after;
    first = shown w.first;
    cut = ap (map shown) w.cut ∙ map-append shown w.before (w.again ∷ w.after);
    earlier = find_shown shown (same (shown w.again)) w.before ∙ ap (option_map shown) w.earlier;
    distinct = viewed_distinct w.before w.distinct;
    line = w.line;
    kind = w.kind;
  }
