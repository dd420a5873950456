-- An append that failed, one behind a mend, and what is kept afterwards.
use Rattle.std.proofs.Common.{◌≡◌, inl, inr, ⊎_elim, ℕ, ◌+◌, ◌<◌, ◌≤◌, ◌^◌, ◌∙◌, List, [], ◌∷◌, ◌++◌, length, drop, refl, sym, subst, ap, arith, length-drop, length-take-le}
use Rattle.std.specs.Prelude.{Err, Ok, Result, Some}
use Rattle.std.proofs.lemmas.List.{append-nil}
use Rattle.std.proofs.lemmas.Result.{on_err_weaker, on_ok_weaker}
use Rattle.decimal_rank.specs.Causes.{Rose}
use Rattle.disk_model.specs.Disks.{DiskState, EachMoment}
use Rattle.journal.specs.declared.dues.Due.{Due}
use Rattle.journal.specs.declared.dues.Due.TheVariants.{Nothing}
use Rattle.journal.specs.Appends.{Appends}
use Rattle.journal.specs.Format.{payload_behind, told_length}
use Rattle.journal.specs.Frames.{IsFrame}
use Rattle.journal.specs.Journals.{JournalState, KeepsRecords}
use Rattle.journal.specs.KeptRecords.{HoldsRecords, HoldsRecordsOfOne, Keeps, KeepsAny, KeepsSome, Settled, StillKeeps}
use Rattle.journal.specs.Moments.{joined, weaker}
use Rattle.journal.proofs.DueRecords.{kept_of_some}

-- a frame is five bytes longer than its payload
pub frame_size : (bytes : List ℕ) → IsFrame bytes → length bytes ≡ length (payload_behind bytes) + 5
frame_size bytes frame =
    let whole : told_length bytes ≤ length (drop 4 bytes) = omega (arith, frame.told, length-drop 4 bytes) in
    omega (arith, frame.told, length-take-le (told_length bytes) (drop 4 bytes) whole)

-- none is pending: whatever was is no more
kept_of_none : (images : List ℕ → Type 0) (place : ℕ) (due : Due) (all pending : List (List ℕ)) (payload : List ℕ)
    → StillKeeps images place due all [] payload → StillKeeps images place due all pending payload
kept_of_none images place due all pending payload (inl (inl none)) = inl (inl none)
kept_of_none images place due all pending payload (inl (inr none)) = inl (inl none)
kept_of_none images place due all pending payload (inr one) = inr one

holds_of_none : (all pending : List (List ℕ)) (payload : List ℕ) (image : List ℕ)
    → HoldsRecordsOfOne all [] payload image → HoldsRecordsOfOne all pending payload image
holds_of_none all pending payload image (inl (inl is)) = inl (inl is)
holds_of_none all pending payload image (inl (inr is)) = inl (inl (is ∙ ap (λ (found : List (List ℕ)). Some found) (append-nil all)))
holds_of_none all pending payload image (inr one) = inr one

module _ {D : Type 0} (seen : D → DiskState) (old new : JournalState D) (payload : List ℕ) where
  pub failed_append : {T E : Type 0} (result : Result T E) (error : E) → result ≡ Err error → new.place ≡ old.place
      → ((all pending : List (List ℕ)) → KeepsRecords seen old all pending → StillKeeps (seen new.disk).images new.place new.due all pending payload)
      → ((all pending : List (List ℕ)) → KeepsRecords seen old all pending → EachMoment seen old.disk new.disk (HoldsRecordsOfOne all pending payload))
      → (seen old.disk).faults ≤ (seen new.disk).faults → Rose (seen old.disk).faults (seen new.disk).faults
      → Appends seen old new payload result
  failed_append (Ok value) error is place kept moments later rose = absurd (cc is)
  failed_append (Err other) error is place kept moments later rose = record {
    added = tt;
    closed = tt;
    nothing_due = tt;
    place = tt;
    place_err = place;
    kept = kept;
    any_moment = moments;
    cause = record { later = later; failed = rose };
  }

  pub kept_after : {T E : Type 0} (result : Result T E) → Appends seen old new payload result
      → old.place + 6 + length payload ≤ 2 ^ 40 → old.place < 2 ^ 40 → KeepsAny (seen old.disk).images old.place old.due
      → (new.place < 2 ^ 40) × KeepsAny (seen new.disk).images new.place new.due
  kept_after (Ok value) appends room within kept =
      let all : List (List ℕ) = kept.0 ++ payload ∷ [] in
      let settled : Settled (seen new.disk).images new.place all = appends.added kept.0 kept.1 kept.2 in
      let nothing : new.due ≡ Nothing = appends.nothing_due in
      let keeps : Keeps (seen new.disk).images new.place new.due all [] =
      subst (λ (d : Due). Keeps (seen new.disk).images new.place d all []) (sym nothing) (settled, refl) in
      let moved : new.place ≡ old.place + 5 + length payload = appends.place in
      let below : new.place < 2 ^ 40 = omega (arith, room, moved) in
      (below, (all, [], keeps))
  kept_after (Err error) appends room within kept =
      let images = (seen new.disk).images in
      let stays : new.place ≡ old.place = appends.place_err in
      let below : new.place < 2 ^ 40 = omega (arith, within, stays) in
      let still : StillKeeps images new.place new.due kept.0 kept.1 payload = appends.kept kept.0 kept.1 kept.2 in (
        below,
        ⊎_elim (λ (some : KeepsSome images new.place new.due kept.0 kept.1). kept_of_some images new.place new.due kept.0 kept.1 some)
            (λ (one : Keeps images new.place new.due kept.0 (payload ∷ [])). (kept.0, payload ∷ [], one)) still,
      )

-- what is due is mended first
module _ {D : Type 0} (seen : D → DiskState) (old : JournalState D) (mid : D) (new : JournalState D) (payload : List ℕ)
    (mended : (all pending : List (List ℕ)) → KeepsRecords seen old all pending → Settled (seen mid).images old.place all)
    (moments : (all pending : List (List ℕ)) → KeepsRecords seen old all pending → EachMoment seen old.disk mid (HoldsRecords all pending))
    (later : (seen old.disk).faults ≤ (seen mid).faults) where
  alone : (all pending : List (List ℕ)) → KeepsRecords seen old all pending
      → KeepsRecords seen (record { disk = mid; place = old.place; due = Nothing }) all []
  alone all pending keeps = (mended all pending keeps, refl)

  rose_on : Rose (seen mid).faults (seen new.disk).faults → Rose (seen old.disk).faults (seen new.disk).faults
  rose_on rose = omega (arith, later, rose)

  pub append_on : {T E : Type 0} (result : Result T E)
      → Appends seen (record { disk = mid; place = old.place; due = Nothing }) new payload result → Appends seen old new payload result
  append_on result appends = record {
    added = on_ok_weaker result (λ adds all pending keeps. adds all [] (alone all pending keeps)) appends.added;
    closed = appends.closed;
    nothing_due = appends.nothing_due;
    place = appends.place;
    place_err = appends.place_err;
    kept = on_err_weaker result (λ still all pending keeps.
        kept_of_none (seen new.disk).images new.place new.due all pending payload (still all [] (alone all pending keeps))) appends.kept;
    any_moment = λ all pending keeps.
        joined seen old.disk mid new.disk (HoldsRecordsOfOne all pending payload)
        (weaker seen old.disk mid (HoldsRecords all pending) (HoldsRecordsOfOne all pending payload) (λ image holds. inl holds) (moments all pending keeps))
        (weaker seen mid new.disk (HoldsRecordsOfOne all [] payload) (HoldsRecordsOfOne all pending payload)
        (holds_of_none all pending payload) (appends.any_moment all [] (alone all pending keeps)));
    cause = record { later = omega (arith, later, appends.cause.later); failed = on_err_weaker result rose_on appends.cause.failed };
  }
