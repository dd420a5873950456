-- Names that differ.
use Rattle.std.proofs.Common.{◌≡◌, ◌-◌, ◌&&◌, List, [], ◌∷◌, ◌++◌, Option, Some, None, Bool, true, false, length, take, drop, refl, sym, ap, ◌∙◌, arith}
use Rattle.std.specs.Prelude.{bytes_eq, not, ◌||◌, slice_get}
use Rattle.std.specs.List.{list_all, list_any}
use Rattle.std.proofs.lemmas.List.{take_all}
use Rattle.std.proofs.lemmas.List.Folds.{list_all-append, list_any-append}
use Rattle.std.proofs.lemmas.Bool.{and_parts, cond_both, and_from}
use Rattle.std.proofs.lemmas.Slice.Eq.{bytes_eq-Decides}
use Rattle.std.proofs.Math.Bool.{or-false}
use Rattle.decimal_rank.proofs.TruthValues.{first_of_neither, second_of_neither}
use Rattle.rulebook.specs.Spelling.{differ}
use Rattle.rulebook.specs.Words.{Text, contains_text}
use Rattle.rulebook.specs.declared.systems.System.{System}
use Rattle.release_archive.specs.declared.kept.Kept.{Kept}
use Rattle.release_archive.specs.Keepers.{Finds, Lists}
use Rattle.rulebook.specs.Reports.Systems.{runs_of}
use Rattle.release_archive.specs.Releases.{are_kept, is_sound, release_named, release_names}

among : (rows : List System) (text : Text) → list_any (bytes_eq text) (runs_of rows) ≡ list_any (λ row. bytes_eq text row.run) rows
among [] text = refl
among (row ∷ rows) text = ap (λ t. bytes_eq text row.run || t) (among rows text)

split_first : (left : List System) (first : System) (text : Text) (found : Bool) → slice_get left 0 ≡ Some first → text ≡ first.run
    → found ≡ list_any (λ row. bytes_eq text row.run) (take (length left - 1) (drop 1 left))
    → differ (runs_of left) ≡ (not found && differ (runs_of (take (length left - 1) (drop 1 left))))
split_first [] first text found here is any = cc
split_first (row ∷ rows) first text found here is any =
    let whole : take (length (row ∷ rows) - 1) rows ≡ rows = take_all (length (row ∷ rows) - 1) rows (omega arith) in
    let same : row ≡ first = cc in
    let own : text ≡ row.run = is ∙ ap (λ (s : System). s.run) (sym same) in
    let test : list_any (bytes_eq row.run) (runs_of rows) ≡ found =
    ap (λ t. list_any (bytes_eq t) (runs_of rows)) (sym own) ∙ among rows text ∙ ap (list_any (λ (row : System). bytes_eq text row.run)) (sym whole)
    ∙ sym any in
    ap (λ t. not t && differ (runs_of rows)) test ∙ ap (λ rest. not found && differ (runs_of rest)) (sym whole)

pub repeats_first : (left : List System) (first : System) (text : Text) (found : Bool) → slice_get left 0 ≡ Some first → text ≡ first.run
    → found ≡ list_any (λ row. bytes_eq text row.run) (take (length left - 1) (drop 1 left)) → found ≡ true → false ≡ differ (runs_of left)
repeats_first left first text found here is any there =
    sym (split_first left first text found here is any ∙ ap (λ t. not t && differ (runs_of (take (length left - 1) (drop 1 left)))) there)

pub differs_first : (left : List System) (first : System) (text : Text) (found : Bool) → slice_get left 0 ≡ Some first → text ≡ first.run
    → found ≡ list_any (λ row. bytes_eq text row.run) (take (length left - 1) (drop 1 left)) → found ≡ false
    → differ (runs_of left) ≡ differ (runs_of (take (length left - 1) (drop 1 left)))
differs_first left first text found here is any absent =
    split_first left first text found here is any ∙ ap (λ t. not t && differ (runs_of (take (length left - 1) (drop 1 left)))) absent

-- One more name behind names that differ.

flipped : (a b : Text) → bytes_eq b a ≡ false → bytes_eq a b ≡ false
flipped a b not_same = step (bytes_eq a b) refl
  where
    step : (t : Bool) → bytes_eq a b ≡ t → bytes_eq a b ≡ false
    step true is = cc ((bytes_eq-Decides b a).1 (sym ((bytes_eq-Decides a b).0 is)), not_same)
    step false is = is

pub differ_more : (names : List Text) (name : Text) → differ names ≡ true → contains_text names name ≡ false → differ (names ++ name ∷ []) ≡ true
differ_more [] name differs absent = refl
differ_more (first ∷ names) name differs absent =
    let parts = and_parts (not (contains_text names first)) (differ names) differs in
    let other : bytes_eq first name ≡ false = flipped first name (first_of_neither (bytes_eq name first) (contains_text names name) absent) in
    let rest : differ (names ++ name ∷ []) ≡ true =
    differ_more names name parts.1 (second_of_neither (bytes_eq name first) (contains_text names name) absent) in
    let apart : contains_text (names ++ name ∷ []) first ≡ contains_text names first =
    list_any-append (bytes_eq first) names (name ∷ []) ∙ ap (λ t. contains_text names first || (t || false)) other ∙ or-false (contains_text names first) in
    ap (λ t. not t && differ (names ++ name ∷ [])) apart ∙ ap (λ t. not (contains_text names first) && t) rest ∙ ap (λ t. t && true) parts.0

-- no release of the name is there
pub absent_name : (releases : List Kept) (name : Text) → release_named releases name ≡ None → contains_text (release_names releases) name ≡ false
absent_name [] name none = refl
absent_name (kept ∷ releases) name none =
    cond_both (bytes_eq name kept.name) (Some kept) (release_named releases name)
    (λ found. found ≡ None → (bytes_eq name kept.name || contains_text (release_names releases) name) ≡ false)
    (λ here is. cc is) (λ other is. ap (λ t. t || contains_text (release_names releases) name) other ∙ absent_name releases name is) none

names-more : (releases : List Kept) (kept : Kept) → release_names (releases ++ kept ∷ []) ≡ release_names releases ++ kept.name ∷ []
names-more [] kept = refl
names-more (first ∷ releases) kept = ap (λ names. first.name ∷ names) (names-more releases kept)

-- a release behind those of an archive, none of which has its name
pub kept_more : (releases : List Kept) (kept : Kept) → are_kept releases ≡ true → is_sound kept ≡ true → release_named releases kept.name ≡ None
    → are_kept (releases ++ kept ∷ []) ≡ true
kept_more releases kept are sound none =
    let parts = and_parts (list_all is_sound releases) (differ (release_names releases)) are in
    and_from (list_all is_sound (releases ++ kept ∷ [])) (differ (release_names (releases ++ kept ∷ [])))
    (list_all-append is_sound releases (kept ∷ []) ∙ and_from (list_all is_sound releases) (is_sound kept && true) parts.0 (ap (λ t. t && true) sound))
    (ap differ (names-more releases kept) ∙ differ_more (release_names releases) kept.name parts.1 (absent_name releases kept.name none))

-- a release that is found is one of them
pub named_sound : (releases : List Kept) (name : Text) (kept : Kept) → list_all is_sound releases ≡ true → release_named releases name ≡ Some kept
    → (is_sound kept ≡ true) × (kept.name ≡ name)
named_sound [] name kept all is = cc is
named_sound (first ∷ releases) name kept all is =
    let parts = and_parts (is_sound first) (list_all is_sound releases) all in
    cond_both (bytes_eq name first.name) (Some first) (release_named releases name) (λ found. found ≡ Some kept → (is_sound kept ≡ true) × (kept.name ≡ name))
    (λ here same. let equal : first ≡ kept = cc same in
    (ap is_sound (sym equal) ∙ parts.0, ap (λ (k : Kept). k.name) (sym equal) ∙ sym ((bytes_eq-Decides name first.name).0 here)))
    (λ other later. named_sound releases name kept parts.1 later) is

-- what a copy of one release, or of all, is
pub finds_named : (releases : List Kept) (name : Text) (found : Option Kept) → are_kept releases ≡ true → found ≡ release_named releases name
    → Finds (Some releases) name found
finds_named releases name None are is = record { told = is; sound = tt; named = tt }
finds_named releases name (Some kept) are is =
    let parts = named_sound releases name kept (and_parts (list_all is_sound releases) (differ (release_names releases)) are).0 (sym is) in
    record { told = is; sound = parts.0; named = parts.1 }

pub lists_all : (releases copies : List Kept) → are_kept releases ≡ true → copies ≡ releases → Lists (Some releases) copies
lists_all releases copies are is = record {
  told = is;
  sound = ap (list_all is_sound) is ∙ (and_parts (list_all is_sound releases) (differ (release_names releases)) are).0;
}
