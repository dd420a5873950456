-- The releases of an archive by name.
use Rattle.std.specs.Prelude.{Bool, List, [], map, fold, insert}
use Rattle.std.specs.List.{position_or_len}
use Rattle.std.specs.Ordering.{is_lt}
use Rattle.std.specs.Ordering.{nat_cmp}
use Rattle.std.specs.Cmp.Lexicographic.{slice_cmp}
use denote.Ref.{Bor}
use Rattle.rulebook.specs.Words.{Text}
use Rattle.release_archive.specs.declared.kept.Kept.{Kept}

-- whether a text comes before another in byte order
abbrev pub is_before : Text → Text → Bool
is_before a b = is_lt (slice_cmp nat_cmp a b)

-- with one more release, before the first whose name comes behind its own
abbrev pub with_kept : List Kept → Kept → List Kept
with_kept sorted kept = insert sorted (position_or_len (λ other. is_before kept.name other.name) sorted) kept

-- by name, equal names in the order of the archive
abbrev pub by_name : List Kept → List Kept
by_name all = fold with_kept [] all

-- the releases that references lead to
abbrev pub releases_behind : List (Bor Kept) → List Kept
releases_behind releases = map (λ kept. kept.now) releases
