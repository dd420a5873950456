-- What comes of a release that is to be archived, once and many times.
use Rattle.std.specs.Prelude.{◌≡◌, ◌≢◌, ◌≤◌, ◌⊎◌, List, [], ◌∷◌, ◌++◌, Option, None, Some, Result, Ok, Err, IsTrue, IfSome, Contains, map}
use Rattle.decimal_rank.specs.Causes.{Rose}
use Rattle.release_archive.specs.declared.kept.Kept.{Kept}
use Rattle.release_archive.specs.declared.ends.KeepEnd.{KeepEnd}
use Rattle.release_archive.specs.declared.ends.KeepEnd.TheVariants as keep_end
use Rattle.release_archive.specs.declared.ends.Archived.{Archived}
use Rattle.release_archive.specs.declared.ends.Archived.TheVariants.{New, Same}
use Rattle.release_archive.specs.declared.ends.ArchiveEnd.{ArchiveEnd}
use Rattle.release_archive.specs.declared.ends.ArchiveEnd.TheVariants.{Differs, Failed, Memory}
use Rattle.release_archive.specs.Keepers.{IsArchive, KeeperState, Lacks, with_release}
use Rattle.release_archive.specs.Releases.{are_kept, release_named}

-- a keeper's end is that of the call
abbrev pub archive_end_of : KeepEnd → ArchiveEnd
archive_end_of keep_end.Failed = Failed
archive_end_of keep_end.Memory = Memory

-- what was held of the name, by the answer
abbrev pub Found : List Kept → Kept → Result Archived ArchiveEnd → Type 0
Found releases kept (Ok New) = release_named releases kept.name ≡ None
Found releases kept (Ok Same) = release_named releases kept.name ≡ Some kept
Found releases kept (Err Differs) = (other : Kept) × (release_named releases kept.name ≡ Some other) × (other ≢ kept)
Found releases kept (Err Failed) = Unit {0}
Found releases kept (Err Memory) = Unit {0}

-- the release was added behind the others, and none of its name was there
abbrev pub IsReleaseAdded : Option (List Kept) → Kept → Option (List Kept) → Type 0
IsReleaseAdded old kept new = Lacks old kept.name × (new ≡ with_release kept old)

-- what is held then, by the answer
abbrev pub Holds : Option (List Kept) → Kept → Result Archived ArchiveEnd → Option (List Kept) → Type 0
Holds old kept (Ok New) new = IsReleaseAdded old kept new
Holds old kept (Ok Same) new = new ≡ old
Holds old kept (Err Differs) new = new ≡ old
Holds old kept (Err Failed) new = (new ≡ old) ⊎ IsReleaseAdded old kept new
Holds old kept (Err Memory) new = new ≡ old

-- A release was to be archived, with this answer.
pub record Archives (old : KeeperState) (kept : Kept) (answer : Result Archived ArchiveEnd) (new : KeeperState) : Type 0 where
  pub found : IfSome old.held (λ releases. Found releases kept answer)
  pub held : Holds old.held kept answer new.held
  pub archive : IsArchive new.held
  pub later : old.faults ≤ new.faults
  pub failed : answer ≡ Err Failed → Rose old.faults new.faults

-- what was to be archived, and what was answered
abbrev pub Call : Type 0
Call = Kept × Result Archived ArchiveEnd

-- Releases were to be archived one after another, whatever was answered.
abbrev pub ArchivesAll : KeeperState → List Call → KeeperState → Type 0
ArchivesAll old [] new = new ≡ old
ArchivesAll old (call ∷ calls) new = (between : KeeperState) × Archives old call.0 call.1 between × ArchivesAll between calls new

-- What is held then: what was held, unchanged and in its place, and behind it releases that were to be archived; no two have one name.
pub record Lasts (before : List Kept) (calls : List Call) (held : Option (List Kept)) : Type 0 where
  pub added : List Kept
  pub held_is : held ≡ Some (before ++ added)
  pub arguments : (kept : Kept) → Contains added kept → Contains (map (λ call. call.0) calls) kept
  pub archive : IsTrue (are_kept (before ++ added))

abbrev pub ArchivesLast : Type 0
ArchivesLast =
    (before : List Kept) (old new : KeeperState) (calls : List Call) → old.held ≡ Some before → IsTrue (are_kept before) → ArchivesAll old calls new
    → Lasts before calls new.held
