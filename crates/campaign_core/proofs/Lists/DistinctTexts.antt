-- Texts of which none stands twice.
use Rattle.std.proofs.Common.{◌≡◌, ◌||◌, Bool, true, false, not, List, ◌++◌, ◌∷◌, [], refl, ap, ◌∙◌}
use Rattle.std.specs.Prelude.{if◌then◌else◌}
use Rattle.std.specs.List.{fold, list_any, AllByRecursion, IsDistinct}
use Rattle.std.specs.Str.{bytes_eq}
use Rattle.std.proofs.lemmas.List.Folds.{list_any-append}
use Rattle.std.proofs.lemmas.Bool.{not-true, or_parts, and_from, and_parts}
use Rattle.std.proofs.Math.Bool.{or-false}
use Rattle.decimal_rank.specs.Names.{with_name}
use Rattle.decimal_rank.proofs.TruthValues.{bytes_eq-swap}
use Rattle.rulebook.specs.Words.{Text, contains_text}
use Rattle.rulebook.specs.Spelling.{differ}

pub differ-push : (names : List Text) (name : Text) → differ names ≡ true → contains_text names name ≡ false → differ (names ++ name ∷ []) ≡ true
differ-push [] name differs absent = refl
differ-push (x ∷ names) name differs absent =
    let parts = and_parts (not (contains_text names x)) (differ names) differs in
    let both = or_parts (bytes_eq name x) (contains_text names name) absent in
    and_from _ _
    (ap not (list_any-append (bytes_eq x) names (name ∷ []) ∙ ap (λ t. list_any (bytes_eq x) names || (t || false)) (bytes_eq-swap x name ∙ both.0)
    ∙ or-false (contains_text names x)) ∙ parts.0)
    (differ-push names name parts.1 both.1)

differ-with : (names : List Text) (name : Text) (t : Bool) → contains_text names name ≡ t → differ names ≡ true
    → differ (if t then names else names ++ name ∷ []) ≡ true
differ-with names name true is differs = differs
differ-with names name false is differs = differ-push names name differs is

pub differ-all : (names docs : List Text) → differ names ≡ true → differ (fold with_name names docs) ≡ true
differ-all names [] differs = differs
differ-all names (doc ∷ docs) differs = differ-all (with_name names doc) docs (differ-with names doc (contains_text names doc) refl differs)

-- the same by the kit's word

pub apart-from : (x : Text) (texts : List Text) → contains_text texts x ≡ false → AllByRecursion (λ y. bytes_eq x y ≡ false) texts
apart-from x [] absent = tt
apart-from x (y ∷ texts) absent =
    let parts = step (bytes_eq x y) refl absent in
    (parts.0, apart-from x texts parts.1)
  where
    step : (t : Bool) → bytes_eq x y ≡ t → (t || contains_text texts x) ≡ false → (bytes_eq x y ≡ false) × (contains_text texts x ≡ false)
    step true is absent = cc absent
    step false is absent = (is, absent)

pub distinct : (texts : List Text) → differ texts ≡ true → IsDistinct bytes_eq texts
unfolding IsDistinct
distinct [] differs = tt
distinct (x ∷ texts) differs =
    let parts = and_parts (not (contains_text texts x)) (differ texts) differs in
    (apart-from x texts (not-true (contains_text texts x) parts.0), distinct texts parts.1)
