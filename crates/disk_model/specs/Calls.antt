-- What the calls of a disk make of its content, and which images the rules allow.
use Rattle.std.specs.Prelude.{◌≡◌, ◌≤◌, ◌⊎◌, ◌↔◌, ℕ, List, [], ◌∷◌, Some, length, min, take}
use Rattle.std.proofs.Common.{inl, inr, subst, sym, le_refl}
use Rattle.std.proofs.lemmas.List.{take_all}
use Rattle.disk_model.specs.declared.disk_calls.DiskCall.{DiskCall}
use Rattle.disk_model.specs.declared.disk_calls.DiskCall.TheVariants.{Len, Read, Write, Cut, Sync}
use Rattle.disk_model.specs.Disks.{CutShort, DiskState, Torn, written}

-- the content after a call
abbrev pub content_by : DiskCall → List ℕ → List ℕ
content_by Len content = content
content_by (Read place count) content = content
content_by (Write place piece) content = written place piece content
content_by (Cut to) content = take to content
content_by Sync content = content

-- the call leaves the content
abbrev pub LeavesContent : DiskCall → Type 0
LeavesContent Len = Unit {0}
LeavesContent (Read place count) = Unit {0}
LeavesContent (Write place piece) = ⊥
LeavesContent (Cut to) = ⊥
LeavesContent Sync = Unit {0}

-- the images after a call that found this content and these images
abbrev pub images_by : DiskCall → List ℕ → (List ℕ → Type 0) → List ℕ → Type 0
images_by Len content images image = images image
images_by (Read place count) content images image = images image
images_by (Write place piece) content images image =
    (earlier : List ℕ) × images earlier × Torn (min place (length content)) (length piece) earlier image
images_by (Cut to) content images image = (earlier : List ℕ) × images earlier × CutShort to earlier image
images_by Sync content images image = image ≡ content

abbrev pub content_after : List DiskCall → List ℕ → List ℕ
content_after [] content = content
content_after (call ∷ calls) content = content_after calls (content_by call content)

abbrev pub images_after : List DiskCall → List ℕ → (List ℕ → Type 0) → List ℕ → Type 0
images_after [] content images = images
images_after (call ∷ calls) content images = images_after calls (content_by call content) (images_by call content images)

-- at the start the content is the one image
abbrev pub images_of : List DiskCall → List ℕ → List ℕ → Type 0
images_of calls start = images_after calls start (λ image. image ≡ start)

-- The calls made the content of some start, and the images are exactly those that the rules allow of them.
pub record AreImagesOf (calls : List DiskCall) (disk : DiskState) : Type 0 where
  pub start : List ℕ
  pub content_is : disk.content ≡ Some (content_after calls start)
  pub exactly : (image : List ℕ) → disk.images image ↔ images_of calls start image

-- the images now: the content is one
abbrev pub Images : List DiskCall → List ℕ → List ℕ → Type 0
Images calls start image = (image ≡ content_after calls start) ⊎ images_of calls start image

-- an image after some number of the calls, from that number on
abbrev pub ImageSince : List DiskCall → List ℕ → ℕ → List ℕ → Type 0
ImageSince calls start moment image = (image ≡ content_after calls start)
    ⊎ ((count : ℕ) × (moment ≤ count) × (count ≤ length calls) × images_of (take count calls) start image)

-- what a disk tells that made these calls, and of whose calls so many failed
abbrev pub seen_after : List DiskCall → List ℕ → ℕ → DiskState
seen_after calls start faults = record {
  content = Some (content_after calls start);
  images = Images calls start;
  clock = length calls;
  images_since = ImageSince calls start;
  faults = faults;
}

-- What holds of these images at each moment.
module _ (calls : List DiskCall) (start : List ℕ) where
  pub now_among : (moment : ℕ) (image : List ℕ) → moment ≤ length calls → Images calls start image → ImageSince calls start moment image
  now_among moment image within (inl is) = inl is
  now_among moment image within (inr here) =
      inr (
        length calls,
        within,
        le_refl (length calls),
        subst (λ (cs : List DiskCall). images_of cs start image)
            (sym (take_all (length calls) calls (le_refl (length calls)))) here,
      )

  pub only_now_left : (image : List ℕ) → ImageSince calls start (length calls) image → Images calls start image
  only_now_left image (inl is) = inl is
  only_now_left image (inr since) = inr (subst (λ (cs : List DiskCall). images_of cs start image) (take_all since.0 calls since.1) since.3)
