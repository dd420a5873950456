-- What a call of a disk in memory does to what it tells.
use Rattle.std.proofs.Common.{◌≡◌, ℕ, ◌≤◌, List, [], ◌∷◌, ◌++◌, length, take, min, refl, subst, sym, ap, arith}
use Rattle.std.specs.Prelude.{Err, Ok, OnOk, Result, Some}
use Rattle.std.specs.Option.{option_map}
use Rattle.decimal_rank.specs.Causes.{HasCause, Rose}
use Rattle.decimal_rank.specs.Outputs.FailurePlans.{count_more}
use Rattle.decimal_rank.specs.declared.failures.Failed.{Failed}
use Rattle.disk_model.specs.declared.disk_calls.DiskCall.{DiskCall}
use Rattle.disk_model.specs.declared.disk_calls.DiskCall.TheVariants.{Write, Cut, Sync}
use Rattle.disk_model.specs.Calls.{Images, LeavesContent}
use Rattle.disk_model.specs.Disks.{Alone, CutShort, Elapses, Follows, NoFurther, Torn, written}
use Rattle.disk_model.specs.MemoryDisks.{HeldContent, LeavesAll, MemoryDiskState, after_disk_call, content_of, told_by}
use Rattle.disk_model.proofs.HeldCalls.{quiet_content}
use Rattle.disk_model.proofs.Images.{alone, among, content_push, cut_follows, cut_same, left_by, no_time, one_more, quiet, torn_same, written_follows}

more_rose : (n : ℕ) → Rose n (count_more n)
more_rose n = grind arith

more_later : (n : ℕ) → n ≤ count_more n
more_later n = grind arith

module _ {T : Type 0} (disk : MemoryDiskState) (call : DiskCall) where
  pub time_of : (result : Result T Failed) → Elapses (told_by disk) (told_by (after_disk_call disk call result))
  time_of (Ok value) = one_more disk.held.calls disk.held.start call disk.faults disk.faults
  time_of (Err failed) = no_time disk.held.calls disk.held.start disk.faults (count_more disk.faults)

  pub cause_of : (result : Result T Failed) → HasCause (told_by disk).faults (told_by (after_disk_call disk call result)).faults result
  cause_of (Ok value) = record { later = omega arith; failed = tt }
  cause_of (Err failed) = record { later = more_later disk.faults; failed = more_rose disk.faults }

  -- a call that leaves the content
  module _ (is_quiet : LeavesContent call) where
    pub content_stays : (result : Result T Failed) → (told_by (after_disk_call disk call result)).content ≡ (told_by disk).content
    content_stays (Ok value) = ap (λ (bytes : List ℕ). Some bytes) (quiet_content disk.held call is_quiet)
    content_stays (Err failed) = refl

    pub no_further : (result : Result T Failed) → NoFurther (told_by disk).images (told_by (after_disk_call disk call result)).images
    no_further (Ok value) = quiet disk.held.calls disk.held.start call is_quiet
    no_further (Err failed) = λ image here. here

module _ {T : Type 0} (disk : MemoryDiskState) where
  pub alone_then : (result : Result T Failed) → OnOk result (Alone (told_by (after_disk_call disk Sync result)))
  alone_then (Ok value) = alone disk.held.calls disk.held.start disk.faults
  alone_then (Err failed) = tt

  pub written_content : (place : ℕ) (piece : List ℕ) (result : Result T Failed)
      → OnOk result ((told_by (after_disk_call disk (Write place piece) result)).content ≡ option_map (written place piece) (told_by disk).content)
  written_content place piece (Ok value) = ap (λ (bytes : List ℕ). Some bytes) (content_push disk.held.calls (Write place piece) disk.held.start)
  written_content place piece (Err failed) = tt

  pub written_crash : (place : ℕ) (piece : List ℕ) (result : Result T Failed) → place ≤ length (content_of disk.held)
      → Follows (Torn place (length piece)) (told_by disk).images (told_by (after_disk_call disk (Write place piece) result)).images
  written_crash place piece (Ok value) within = written_follows disk.held.calls disk.held.start place piece within
  written_crash place piece (Err failed) within = λ image here. (image, here, torn_same place (length piece) image)

  pub cut_content : (to : ℕ) (result : Result T Failed)
      → OnOk result ((told_by (after_disk_call disk (Cut to) result)).content ≡ option_map (take to) (told_by disk).content)
  cut_content to (Ok value) = ap (λ (bytes : List ℕ). Some bytes) (content_push disk.held.calls (Cut to) disk.held.start)
  cut_content to (Err failed) = tt

  pub cut_crash : (to : ℕ) (result : Result T Failed) → Follows (CutShort to) (told_by disk).images (told_by (after_disk_call disk (Cut to) result)).images
  cut_crash to (Ok value) = cut_follows disk.held.calls disk.held.start to
  cut_crash to (Err failed) = λ image here. (image, here, cut_same to image)

-- What a crash may leave of a write and of a cut: all that is torn of an image from before.
module _ (held : HeldContent) where
  pub torn_left : (place : ℕ) (piece : List ℕ) → place ≤ length (content_of held)
      → LeavesAll (Torn place (length piece)) (Images held.calls held.start) (Images (held.calls ++ Write place piece ∷ []) held.start)
  torn_left place piece within earlier image was torn =
      let here : min place (length (content_of held)) ≡ place = omega arith in
      left_by held.calls held.start (Write place piece) image
      (earlier, among held.calls held.start earlier was, subst (λ (first : ℕ). Torn first (length piece) earlier image) (sym here) torn)

  pub short_left : (to : ℕ) → LeavesAll (CutShort to) (Images held.calls held.start) (Images (held.calls ++ Cut to ∷ []) held.start)
  short_left to earlier image was short = left_by held.calls held.start (Cut to) image (earlier, among held.calls held.start earlier was, short)
