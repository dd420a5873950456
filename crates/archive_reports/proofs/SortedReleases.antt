-- Releases that are put in one after another.
use Rattle.std.proofs.Common.{◌≡◌, ◌<◌, ◌++◌, ℕ, zero, suc, Bool, true, List, [], ◌∷◌, take, drop, get_or, length, refl, sym, ap, ◌∙◌, arith}
use Rattle.std.specs.Prelude.{fold, insert}
use Rattle.std.specs.List.{position_or_len}
use Rattle.std.specs.List.{list_all}
use Rattle.std.proofs.lemmas.Bool.{and_parts}
use Rattle.std.proofs.lemmas.List.{drop-map, map-append, take-map}
use denote.Ref.{Bor}
use Rattle.decimal_rank.proofs.Lists.{all_inserted}
use Rattle.release_archive.specs.declared.kept.Kept.{Kept}
use Rattle.release_archive.specs.Releases.{is_sound}
use Rattle.archive_reports.specs.Orders.{by_name, is_before, releases_behind, with_kept}

sorted-all : (more sorted : List Kept) → list_all is_sound more ≡ true → list_all is_sound sorted ≡ true → list_all is_sound (fold with_kept sorted more) ≡ true
sorted-all [] sorted all here = here
sorted-all (kept ∷ more) sorted all here =
    let parts = and_parts (is_sound kept) (list_all is_sound more) all in
    sorted-all more (with_kept sorted kept) parts.1
    (all_inserted is_sound sorted (position_or_len (λ other. is_before kept.name other.name) sorted) kept here parts.0)

-- sound releases are sound by name
pub sound-by_name : (all : List Kept) → list_all is_sound all ≡ true → list_all is_sound (by_name all) ≡ true
sound-by_name all sound = sorted-all all [] sound refl

pub sound-at : (releases : List (Bor Kept)) (i : ℕ) (d : Bor Kept) → list_all is_sound (releases_behind releases) ≡ true → i < length releases
    → is_sound (get_or releases i d).now ≡ true
sound-at [] i d all within = absurd (omega (arith, within))
sound-at (kept ∷ releases) zero d all within = (and_parts (is_sound kept.now) (list_all is_sound (releases_behind releases)) all).0
sound-at (kept ∷ releases) (suc i) d all within =
    sound-at releases i d (and_parts (is_sound kept.now) (list_all is_sound (releases_behind releases)) all).1 (omega (arith, within))

-- the releases that references lead to, with one more put in
pub shown-insert : (releases : List (Bor Kept)) (i : ℕ) (kept : Bor Kept)
    → releases_behind (insert releases i kept) ≡ insert (releases_behind releases) i kept.now
shown-insert releases i kept =
    map-append (λ (kept : Bor Kept). kept.now) (take i releases) (kept ∷ drop i releases)
    ∙ ap (λ first. first ++ kept.now ∷ releases_behind (drop i releases)) (sym (take-map (λ (kept : Bor Kept). kept.now) i releases))
    ∙ ap (λ rest. take i (releases_behind releases) ++ kept.now ∷ rest) (sym (drop-map (λ (kept : Bor Kept). kept.now) i releases))

-- a reference to no release
pub no-release : Bor Kept
no-release = record { ref_ptr = (0, 0); now = record { name = []; qrels = []; systems = [] } }

-- a release that passes among those that references lead to
pub position-shown : (p : Kept → Bool) (releases : List (Bor Kept))
    → position_or_len (λ (kept : Bor Kept). p kept.now) releases ≡ position_or_len p (releases_behind releases)
position-shown p [] = refl
position-shown p (kept ∷ releases) = rw (position-shown p releases) refl
