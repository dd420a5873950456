-- The values of names that stand one list behind another.
use Rattle.std.proofs.Common.{◌≡◌, ◌∙◌, List, [], ◌∷◌, ◌++◌, Option, Some, None, refl, sym, ap, option_map, ◌<◌, ◌≤◌, ◌+◌, ℕ, append_assoc, get_or, length, map, take}
use Rattle.std.specs.Prelude.{option_and_then}
use Rattle.clap.specs.Words.{Row}
use Rattle.command_words.specs.CommandLines.{values_at}
use Rattle.command_words.specs.Words.{Text, each_by}
use Rattle.std.proofs.lemmas.List.{map-append, take_all, take_more}

-- what is read of the second names goes behind what was read of the first
abbrev both : Option (List Text) → Option (List Text) → Option (List Text)
both first second = option_and_then (λ done. option_map (λ more. done ++ more) second) first

each_append : (value : Text → Option Text) (names others : List Text) → each_by value (names ++ others) ≡ both (each_by value names) (each_by value others)
each_append value [] others = by (each_by value others)
  where
    by : (o : Option (List Text)) → o ≡ option_map (λ more. [] ++ more) o
    by None = refl
    by (Some more) = refl
each_append value (name ∷ names) others = ap (λ o. option_and_then (λ first. option_map (λ rest. first ∷ rest) o) (value name)) (each_append value names others)
    ∙ by (value name) (each_by value names) (each_by value others)
  where
    by : (v : Option Text) (o p : Option (List Text))
        → option_and_then (λ first. option_map (λ rest. first ∷ rest) (both o p)) v ≡ both (option_and_then (λ first. option_map (λ rest. first ∷ rest) o) v) p
    by None o p = refl
    by (Some first) None p = refl
    by (Some first) (Some done) None = refl
    by (Some first) (Some done) (Some more) = refl

from_nothing : (o : Option (List Text)) (begun : List Text) → begun ≡ [] → option_map (λ more. begun ++ more) o ≡ o
from_nothing None begun none = refl
from_nothing (Some more) begun none = ap (λ xs. Some (xs ++ more)) none

pub joined : (rows : List Row) (names others begun done : List Text) → begun ≡ [] → Some done ≡ option_map (λ more. begun ++ more) (values_at rows names)
    → option_map (λ more. done ++ more) (values_at rows others) ≡ values_at rows (names ++ others)
joined rows names others begun done none is =
    ap (λ o. both o (values_at rows others)) (is ∙ from_nothing (values_at rows names) begun none) ∙ sym (each_append _ names others)

pub lacking : (rows : List Row) (names others begun : List Text) → begun ≡ [] → None ≡ option_map (λ more. begun ++ more) (values_at rows names)
    → None ≡ values_at rows (names ++ others)
lacking rows names others begun none is =
    ap (λ o. both o (values_at rows others)) (is ∙ from_nothing (values_at rows names) begun none) ∙ sym (each_append _ names others)

-- a list in which each push shows what the next element of another list gives

pub pushed : {X Y Z : Type 0} (f : X → Y) (g : Z → Y) (first : List Y) (old new : List X) (x : X) (zs : List Z) (i : ℕ) (d : Z) → i < length zs
    → map f old ≡ first ++ map g (take i zs) → new ≡ old ++ x ∷ [] → f x ≡ g (get_or zs i d) → map f new ≡ first ++ map g (take (i + 1) zs)
pushed f g first old new x zs i d within so-far is next =
    let more : map g (take (i + 1) zs) ≡ map g (take i zs) ++ g (get_or zs i d) ∷ [] = ap (map g) (take_more zs i d within) ∙ map-append g (take i zs) (get_or zs i d ∷ []) in
    ap (map f) is ∙ map-append f old (x ∷ []) ∙ ap (λ ys. ys ++ f x ∷ []) so-far ∙ ap (λ y. first ++ map g (take i zs) ++ y ∷ []) next
    ∙ append_assoc first (map g (take i zs)) (g (get_or zs i d) ∷ []) ∙ ap (λ ys. first ++ ys) (sym more)

pub all_pushed : {X Y Z : Type 0} (f : X → Y) (g : Z → Y) (first : List Y) (new : List X) (zs : List Z) (i : ℕ) → length zs ≤ i
    → map f new ≡ first ++ map g (take i zs) → map f new ≡ first ++ map g zs
all_pushed f g first new zs i end so-far = so-far ∙ ap (λ ys. first ++ map g ys) (take_all i zs end)
