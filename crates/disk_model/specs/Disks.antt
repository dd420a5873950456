-- What the calls of a disk do to its bytes, and what a crash may leave of them. An image is what a crash leaves.
use Rattle.std.specs.Prelude.{◌≡◌, ◌⊎◌, ℕ, ◌+◌, ◌≤◌, max, min, List, ◌++◌, Option, Some, length, take, drop}

-- a content with these bytes at this place
abbrev pub written : ℕ → List ℕ → List ℕ → List ℕ
written place piece content = take place content ++ piece ++ drop (place + length piece) content

-- a write of so many bytes that was cut short: any bytes in the range, the same elsewhere, a length between the old and the whole write's
pub record Torn (place count : ℕ) (old new : List ℕ) : Type 0 where
  pub before : take place new ≡ take place old
  pub after : drop (place + count) new ≡ drop (place + count) old
  pub no_shorter : length old ≤ length new
  pub no_longer : length new ≤ max (length old) (place + count)

-- a cut that was cut short: a length between, and any bytes past the new length
pub record CutShort (to : ℕ) (old new : List ℕ) : Type 0 where
  pub before : take to new ≡ take to old
  pub no_shorter : min (length old) to ≤ length new
  pub no_longer : length new ≤ length old

-- each new image is an old one after a step
abbrev pub Follows : (List ℕ → List ℕ → Type 0) → (List ℕ → Type 0) → (List ℕ → Type 0) → Type 0
Follows step old new = (image : List ℕ) → new image → (earlier : List ℕ) × old earlier × step earlier image

-- each new image is an old one
abbrev pub NoFurther : (List ℕ → Type 0) → (List ℕ → Type 0) → Type 0
NoFurther old new = (image : List ℕ) → new image → old image

-- What a disk tells.
pub record DiskState : Type 1 where
  -- what a read gives, where the disk tells it
  pub content : Option (List ℕ)
  -- what a crash now may leave; nothing where the disk doesn't tell
  pub images : List ℕ → Type 0
  -- the moment, as a number that doesn't fall
  pub clock : ℕ
  -- what a crash at some moment from that one on might have left
  pub images_since : ℕ → List ℕ → Type 0
  -- how many calls failed
  pub faults : ℕ

-- each image is the content
abbrev pub Alone : DiskState → Type 0
Alone disk = (image : List ℕ) → disk.images image → disk.content ≡ Some image

-- since this moment there is no other
abbrev pub OnlyNow : DiskState → Type 0
OnlyNow disk = (image : List ℕ) → disk.images_since disk.clock image → disk.images image

-- Time goes on: a crash since a moment might have left what it might have left before, or what it may leave now.
pub record Elapses (old new : DiskState) : Type 0 where
  pub later : old.clock ≤ new.clock
  pub nothing_else : (moment : ℕ) (image : List ℕ) → moment ≤ old.clock → new.images_since moment image
      → old.images_since moment image ⊎ new.images image
  pub keeps : (moment : ℕ) (image : List ℕ) → moment ≤ old.clock → old.images_since moment image → new.images_since moment image

-- A crash at any moment from an old state of a disk to a new one leaves an image that has P.
pub record EachMoment {D : Type 0} (seen : D → DiskState) (old new : D) (P : List ℕ → Type 0) : Type 0 where
  pub later : (seen old).clock ≤ (seen new).clock
  pub each : (image : List ℕ) → (seen new).images_since (seen old).clock image → P image
  -- for a run that began earlier
  pub before : (moment : ℕ) (image : List ℕ) → moment ≤ (seen old).clock → (seen new).images_since moment image
      → (seen old).images_since moment image ⊎ P image
