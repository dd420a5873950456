-- What the last sync leaves of a disk in memory: the bytes that it kept, and what was written or cut off since then.
use Rattle.std.specs.Prelude.{◌≡◌, ◌⊎◌, ℕ, ◌+◌, ◌≤◌, ◌<◌, List, [], ◌∷◌, length, max, min, take}
use Rattle.std.specs.List.{slice_get}
use Rattle.disk_model.specs.declared.disk_calls.DiskCall.{DiskCall}
use Rattle.disk_model.specs.declared.disk_calls.DiskCall.TheVariants.{Len, Read, Write, Cut, Sync}
use Rattle.disk_model.specs.Calls.{content_by}
use Rattle.disk_model.specs.Disks.{written}
use Rattle.disk_model.specs.MemoryDisks.{HeldContent}

-- the bytes at the last sync, the places that were written or cut off since then, and the least and the greatest length since then
pub record SinceSync : Type 1 where
  pub synced : List ℕ
  pub touched : ℕ → Type 0
  pub least : ℕ
  pub greatest : ℕ

-- at a sync that keeps these bytes
abbrev pub at_sync : List ℕ → SinceSync
at_sync content = record { synced = content; touched = λ place. ⊥; least = length content; greatest = length content }

-- so many bytes from the first place on; behind the end a write goes on at the end
abbrev pub IsWritten : ℕ → ℕ → List ℕ → ℕ → Type 0
IsWritten first count content place = (min first (length content) ≤ place) × (place < min first (length content) + count)

-- the content was changed to another one, and these places with it
abbrev pub changed : SinceSync → List ℕ → (ℕ → Type 0) → SinceSync
changed since content places = record {
  synced = since.synced;
  touched = λ place. since.touched place ⊎ places place;
  least = min since.least (length content);
  greatest = max since.greatest (length content);
}

-- after a call that found this content
abbrev pub since_by : DiskCall → List ℕ → SinceSync → SinceSync
since_by Len content since = since
since_by (Read place count) content since = since
since_by (Write first piece) content since = changed since (written first piece content) (IsWritten first (length piece) content)
since_by (Cut to) content since = changed since (take to content) (λ place. to ≤ place)
since_by Sync content since = at_sync content

abbrev pub since_after : List DiskCall → List ℕ → SinceSync → SinceSync
since_after [] content since = since
since_after (call ∷ calls) content since = since_after calls (content_by call content) (since_by call content since)

-- at the start all is synced
abbrev pub since_sync : HeldContent → SinceSync
since_sync held = since_after held.calls held.start (at_sync held.start)

-- These bytes are those of the last sync wherever nothing was written or cut off since then, and their number is between the least and the greatest.
pub record Agrees (since : SinceSync) (image : List ℕ) : Type 0 where
  pub same : (place : ℕ) → ¬ since.touched place → slice_get image place ≡ slice_get since.synced place
  pub no_shorter : since.least ≤ length image
  pub no_longer : length image ≤ since.greatest
