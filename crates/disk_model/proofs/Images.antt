-- The images of a disk in memory: its content is one, and one more call adds its own.
use Rattle.std.proofs.Common.{◌≡◌, ◌⊎◌, inl, inr, ⊎_elim, ℕ, ◌+◌, ◌-◌, ◌≤◌, min, List, [], ◌∷◌, ◌++◌, length, take, drop, refl, sym, ap, ◌∙◌, subst, arith, length-append, length-drop, le_refl}
use Rattle.std.specs.Prelude.{Some}
use Rattle.std.proofs.lemmas.List.{drop-append-le, drop_all, length-take-le, take-append-le, take_all}
use mathlib.Core.Logic.{dite}
use native.Mathlib.Decide.{dec_le}
use Rattle.disk_model.specs.declared.disk_calls.DiskCall.{DiskCall}
use Rattle.disk_model.specs.declared.disk_calls.DiskCall.TheVariants.{Len, Read, Write, Cut, Sync}
use Rattle.disk_model.specs.Calls.{AreImagesOf, ImageSince, Images, LeavesContent, content_after, content_by, images_after, images_by, images_of, seen_after}
use Rattle.disk_model.specs.Disks.{Alone, CutShort, Elapses, Follows, NoFurther, Torn, written}

-- One call more

abbrev images_push : (calls : List DiskCall) (call : DiskCall) (content : List ℕ) (images : List ℕ → Type 0) (image : List ℕ)
    → images_after (calls ++ call ∷ []) content images image → images_by call (content_after calls content) (images_after calls content images) image
images_push [] call content images image here = here
images_push (c ∷ calls) call content images image here = images_push calls call (content_by c content) (images_by c content images) image here

abbrev images_pushed : (calls : List DiskCall) (call : DiskCall) (content : List ℕ) (images : List ℕ → Type 0) (image : List ℕ)
    → images_by call (content_after calls content) (images_after calls content images) image → images_after (calls ++ call ∷ []) content images image
images_pushed [] call content images image here = here
images_pushed (c ∷ calls) call content images image here = images_pushed calls call (content_by c content) (images_by c content images) image here

pub content_push : (calls : List DiskCall) (call : DiskCall) (content : List ℕ)
    → content_after (calls ++ call ∷ []) content ≡ content_by call (content_after calls content)
content_push [] call content = refl
content_push (c ∷ calls) call content = content_push calls call (content_by c content)

-- What is written over a content, and what a cut leaves of it

pub torn_same : (place count : ℕ) (content : List ℕ) → Torn place count content content
torn_same place count content = record { before = refl; after = refl; no_shorter = omega arith; no_longer = omega arith }

pub cut_same : (to : ℕ) (content : List ℕ) → CutShort to content content
cut_same to content = record { before = refl; no_shorter = omega arith; no_longer = omega arith }

length_written : (place : ℕ) (piece content : List ℕ) → place ≤ length content
    → length (written place piece content) ≡ place + length piece + (length content - (place + length piece))
length_written place piece content within =
    length-append (take place content ++ piece) (drop (place + length piece) content)
    ∙ ap (λ (n : ℕ). n + length (drop (place + length piece) content))
    (length-append (take place content) piece ∙ ap (λ (n : ℕ). n + length piece) (length-take-le place content within))
    ∙ ap (λ (n : ℕ). place + length piece + n) (length-drop (place + length piece) content)

pub torn_written : (place : ℕ) (piece content : List ℕ) → place ≤ length content → Torn place (length piece) content (written place piece content)
torn_written place piece content within =
    let front : List ℕ = take place content in
    let front_length : length front ≡ place = length-take-le place content within in
    let both_length : length (front ++ piece) ≡ place + length piece = length-append front piece ∙ ap (λ (n : ℕ). n + length piece) front_length in
    let rest : List ℕ = drop (place + length piece) content in
    let all_length = length_written place piece content within in
    let place_in : place ≤ length (front ++ piece) = omega arith in
    let place_front : place ≤ length front = omega arith in
    let end_in : place + length piece ≤ length (front ++ piece) = omega arith in
    record {
      before = take-append-le place (front ++ piece) rest place_in ∙ take-append-le place front piece place_front ∙ take_all place front (omega arith);
      after = drop-append-le (place + length piece) (front ++ piece) rest end_in
          ∙ ap (λ (xs : List ℕ). xs ++ rest) (drop_all (place + length piece) (front ++ piece) (omega arith));
      no_shorter = omega arith;
      no_longer = omega arith;
    }

pub cut_taken : (to : ℕ) (content : List ℕ) → to ≤ length content → CutShort to content (take to content)
cut_taken to content within =
    let size : length (take to content) ≡ to = length-take-le to content within in
    record { before = take_all to (take to content) (omega arith); no_shorter = omega arith; no_longer = omega arith }

-- a write behind the end goes on at the end
written_within : (place : ℕ) (piece content : List ℕ) → written (min place (length content)) piece content ≡ written place piece content
written_within place piece content = dite (dec_le place (length content))
    (λ (within : place ≤ length content). let same : min place (length content) ≡ place = omega arith in ap (λ (n : ℕ). written n piece content) same)
    (λ (beyond : ¬ (place ≤ length content)).
    let same : min place (length content) ≡ length content = omega arith in
    ap (λ (n : ℕ). written n piece content) same
    ∙ ap (λ (xs : List ℕ). xs ++ piece ++ drop (length content + length piece) content)
    (take_all (length content) content (le_refl (length content)) ∙ sym (take_all place content (omega arith)))
    ∙ ap (λ (xs : List ℕ). take place content ++ piece ++ xs)
    (drop_all (length content + length piece) content (omega arith) ∙ sym (drop_all (place + length piece) content (omega arith))))

pub length_written_within : (place : ℕ) (piece content : List ℕ) → min place (length content) + length piece ≤ length (written place piece content)
length_written_within place piece content =
    subst (λ (bytes : List ℕ). min place (length content) + length piece ≤ length bytes) (written_within place piece content)
    (let size = length_written (min place (length content)) piece content (omega arith) in omega arith)

content_among : (call : DiskCall) (content : List ℕ) (images : List ℕ → Type 0) → images content → images_by call content images (content_by call content)
content_among Len content images here = here
content_among (Read place count) content images here = here
content_among (Write place piece) content images here = (
  content,
  here,
  subst (λ (xs : List ℕ). Torn (min place (length content)) (length piece) content xs) (written_within place piece content)
      (torn_written (min place (length content)) piece content (omega arith)),
)
content_among (Cut to) content images here = (content, here, cut_any)
  where
    cut_any : CutShort to content (take to content)
    cut_any = dite (dec_le to (length content)) (λ (within : to ≤ length content). cut_taken to content within)
        (λ (beyond : ¬ (to ≤ length content)). subst (λ (xs : List ℕ). CutShort to content xs) (sym (take_all to content (omega arith))) (cut_same to content))
content_among Sync content images here = refl

quiet_among : (call : DiskCall) → LeavesContent call → (content : List ℕ) (images : List ℕ → Type 0) (image : List ℕ)
    → images content → images_by call content images image → images image
quiet_among Len is content images image now here = here
quiet_among (Read place count) is content images image now here = here
quiet_among (Write place piece) is content images image now here = absurd is
quiet_among (Cut to) is content images image now here = absurd is
quiet_among Sync is content images image now here = subst images (sym here) now

pub content_left : (call : DiskCall) → LeavesContent call → (content : List ℕ) → content ≡ content_by call content
content_left Len is content = refl
content_left (Read place count) is content = refl
content_left (Write place piece) is content = absurd is
content_left (Cut to) is content = absurd is
content_left Sync is content = refl

images_hold : (calls : List DiskCall) (content : List ℕ) (images : List ℕ → Type 0) → images content
    → images_after calls content images (content_after calls content)
images_hold [] content images here = here
images_hold (call ∷ calls) content images here =
    images_hold calls (content_by call content) (images_by call content images) (content_among call content images here)

-- the content is among the images of the calls
pub among : (calls : List DiskCall) (start image : List ℕ) → Images calls start image → images_of calls start image
among calls start image (inl is) = subst (images_of calls start) (sym is) (images_hold calls start (λ other. other ≡ start) refl)
among calls start image (inr here) = here

module _ (calls : List DiskCall) (start : List ℕ) where
  content_now : images_of calls start (content_after calls start)
  content_now = among calls start (content_after calls start) (inl refl)

  pub images_are : (faults : ℕ) → AreImagesOf calls (seen_after calls start faults)
  images_are faults = record { start = start; content_is = refl; exactly = λ image. (among calls start image, λ here. inr here) }

  -- where no call was made time stands still
  pub no_time : (before now : ℕ) → Elapses (seen_after calls start before) (seen_after calls start now)
  no_time before now = record { later = le_refl (length calls); nothing_else = λ moment image le since. inl since; keeps = λ moment image le past. past }

  -- Time goes on by one call.
  pub one_more : (call : DiskCall) (before now : ℕ) → Elapses (seen_after calls start before) (seen_after (calls ++ call ∷ []) start now)
  one_more call before now = record {
    later = (let l = longer in omega arith);
    nothing_else = λ moment image le since. ⊎_elim (λ (is : image ≡ content_after (calls ++ call ∷ []) start). inr (inl is))
        (λ since. split moment image since.0 since.1 since.2 since.3) since;
    keeps = λ moment image le past. ⊎_elim
        (λ (is : image ≡ content_after calls start). inr (
          length calls,
          le,
          (let l = longer in omega arith),
          subst (λ (cs : List DiskCall). images_of cs start image)
              (sym front) (subst (λ (i : List ℕ). images_of calls start i) (sym is) content_now),
        ))
        (λ past. inr (
          past.0,
          past.1,
          (let l = longer in let low : past.0 ≤ length calls = past.2 in omega arith),
          subst (λ (cs : List DiskCall). images_of cs start image) (sym (take-append-le past.0 calls (call ∷ []) past.2)) past.3,
        ))
        past;
  }
    where
      front : take (length calls) (calls ++ call ∷ []) ≡ calls
      front = take-append-le (length calls) calls (call ∷ []) (le_refl (length calls)) ∙ take_all (length calls) calls (le_refl (length calls))

      longer : length (calls ++ call ∷ []) ≡ length calls + 1
      longer = length-append calls (call ∷ [])

      split : (moment : ℕ) (image : List ℕ) (count : ℕ) → moment ≤ count → count ≤ length (calls ++ call ∷ [])
          → images_of (take count (calls ++ call ∷ [])) start image
          → ImageSince calls start moment image ⊎ Images (calls ++ call ∷ []) start image
      split moment image count low high here = dite (dec_le count (length calls))
          (λ (within : count ≤ length calls). inl
          (inr (count, low, within, subst (λ (cs : List DiskCall). images_of cs start image) (take-append-le count calls (call ∷ []) within) here)))
          (λ (beyond : ¬ (count ≤ length calls)). let l = longer in
          inr (inr (subst (λ (cs : List DiskCall). images_of cs start image) (take_all count (calls ++ call ∷ []) (omega arith)) here)))

  -- an image behind a call is one by it, and the other way round
  behind : (call : DiskCall) (image : List ℕ) → Images (calls ++ call ∷ []) start image
      → images_by call (content_after calls start) (images_of calls start) image
  behind call image here = images_push calls call start (λ other. other ≡ start) image (among (calls ++ call ∷ []) start image here)

  pub left_by : (call : DiskCall) (image : List ℕ) → images_by call (content_after calls start) (images_of calls start) image
      → Images (calls ++ call ∷ []) start image
  left_by call image here = inr (images_pushed calls call start (λ other. other ≡ start) image here)

  -- What a crash leaves behind a call.
  pub quiet : (call : DiskCall) → LeavesContent call → NoFurther (Images calls start) (Images (calls ++ call ∷ []) start)
  quiet call is_quiet image here =
      inr (quiet_among call is_quiet (content_after calls start) (images_of calls start) image content_now (behind call image here))

  pub alone : (faults : ℕ) → Alone (seen_after (calls ++ Sync ∷ []) start faults)
  alone faults image here = ap (λ (i : List ℕ). Some i) (content_push calls Sync start ∙ sym (behind Sync image here))

  pub written_follows : (place : ℕ) (piece : List ℕ) → place ≤ length (content_after calls start)
      → Follows (Torn place (length piece)) (Images calls start) (Images (calls ++ Write place piece ∷ []) start)
  written_follows place piece within image here =
      let pushed : images_by (Write place piece) (content_after calls start) (images_of calls start) image = behind (Write place piece) image here in
      let at : min place (length (content_after calls start)) ≡ place = omega arith in
      (pushed.0, inr pushed.1, subst (λ (n : ℕ). Torn n (length piece) pushed.0 image) at pushed.2)

  pub cut_follows : (to : ℕ) → Follows (CutShort to) (Images calls start) (Images (calls ++ Cut to ∷ []) start)
  cut_follows to image here =
      let pushed : images_by (Cut to) (content_after calls start) (images_of calls start) image = behind (Cut to) image here in
      (pushed.0, inr pushed.1, pushed.2)
