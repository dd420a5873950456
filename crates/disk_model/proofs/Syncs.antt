-- Each image of a disk in memory agrees with the last sync.
use Rattle.std.proofs.Common.{◌≡◌, ◌∙◌, inl, inr, ℕ, zero, suc, ◌+◌, ◌-◌, ◌≤◌, ◌<◌, max, min, List, [], ◌∷◌, length, take, drop, refl, sym, ap, subst, arith, le_refl}
use Rattle.std.specs.List.{slice_get}
use Rattle.std.proofs.lemmas.List.{length-take}
use mathlib.Core.Logic.{dite}
use native.Mathlib.Decide.{dec_le}
use Rattle.disk_model.specs.declared.disk_calls.DiskCall.{DiskCall}
use Rattle.disk_model.specs.declared.disk_calls.DiskCall.TheVariants.{Len, Read, Write, Cut, Sync}
use Rattle.disk_model.specs.Calls.{content_by, images_after, images_by}
use Rattle.disk_model.specs.Disks.{CutShort, Torn, written}
use Rattle.disk_model.specs.MemoryDisks.{MemoryDiskState, told_by}
use Rattle.disk_model.specs.Syncs.{Agrees, SinceSync, at_sync, since_after, since_by, since_sync}
use Rattle.disk_model.proofs.Images.{among, length_written_within}

slice_get-take : (n : ℕ) (xs : List ℕ) (i : ℕ) → i < n → slice_get (take n xs) i ≡ slice_get xs i
slice_get-take zero xs i below = absurd (omega arith)
slice_get-take (suc n) [] i below = refl
slice_get-take (suc n) (x ∷ xs) zero below = refl
slice_get-take (suc n) (x ∷ xs) (suc i) below = slice_get-take n xs i (omega arith)

slice_get-drop : (n : ℕ) (xs : List ℕ) (i place : ℕ) → place ≡ n + i → slice_get (drop n xs) i ≡ slice_get xs place
slice_get-drop zero xs i place is = let here : i ≡ place = omega arith in ap (λ (k : ℕ). slice_get xs k) here
slice_get-drop (suc n) [] i place is = refl
slice_get-drop (suc n) (x ∷ xs) i zero is = absurd (omega arith)
slice_get-drop (suc n) (x ∷ xs) i (suc place) is = slice_get-drop n xs i place (omega arith)

-- in front of a place up to which two lists are the same
same_front : (n : ℕ) (old new : List ℕ) → take n new ≡ take n old → (place : ℕ) → place < n → slice_get new place ≡ slice_get old place
same_front n old new same place below =
    sym (slice_get-take n new place below) ∙ ap (λ (bytes : List ℕ). slice_get bytes place) same ∙ slice_get-take n old place below

-- and behind one from which on they are
same_rest : (n : ℕ) (old new : List ℕ) → drop n new ≡ drop n old → (place : ℕ) → n ≤ place → slice_get new place ≡ slice_get old place
same_rest n old new same place above =
    let here : place ≡ n + (place - n) = omega arith in
    sym (slice_get-drop n new (place - n) place here)
    ∙ ap (λ (bytes : List ℕ). slice_get bytes (place - n)) same
    ∙ slice_get-drop n old (place - n) place here

same_outside : (first count : ℕ) (old new : List ℕ) → Torn first count old new → (place : ℕ)
    → ¬ ((first ≤ place) × (place < first + count)) → slice_get new place ≡ slice_get old place
same_outside first count old new torn place outside = dite (dec_le first place)
    (λ (low : first ≤ place). dite (dec_le (first + count) place)
    (λ (past : first + count ≤ place). same_rest (first + count) old new torn.after place past)
    (λ (inside : ¬ (first + count ≤ place)). absurd (outside (low, omega arith))))
    (λ (front : ¬ (first ≤ place)). same_front first old new torn.before place (omega arith))

same_before : (to : ℕ) (old new : List ℕ) → CutShort to old new → (place : ℕ) → ¬ (to ≤ place) → slice_get new place ≡ slice_get old place
same_before to old new short place front = same_front to old new short.before place (omega arith)

at_its_sync : (content image : List ℕ) → image ≡ content → Agrees (at_sync content) image
at_its_sync content image is = subst (λ (bytes : List ℕ). Agrees (at_sync content) bytes) (sym is)
    (record { same = λ place untouched. refl; no_shorter = le_refl (length content); no_longer = le_refl (length content) })

-- The bounds of the length, behind a write and behind a cut.
written_lower : (least earlier image now : ℕ) → least ≤ earlier → earlier ≤ image → min least now ≤ image
written_lower least earlier image now low longer = omega arith

written_upper : (greatest earlier image end now : ℕ) → earlier ≤ greatest → image ≤ max earlier end → end ≤ now → image ≤ max greatest now
written_upper greatest earlier image end now high within reaches = omega arith

cut_lower : (least earlier image to size now : ℕ) → least ≤ earlier → min earlier to ≤ image → now ≡ min to size → min least now ≤ image
cut_lower least earlier image to size now low longer is = omega arith

cut_upper : (greatest earlier image now : ℕ) → earlier ≤ greatest → image ≤ earlier → image ≤ max greatest now
cut_upper greatest earlier image now high shorter = omega arith

agrees_by : (call : DiskCall) (content : List ℕ) (images : List ℕ → Type 0) (since : SinceSync) → ((image : List ℕ) → images image → Agrees since image)
    → (image : List ℕ) → images_by call content images image → Agrees (since_by call content since) image
agrees_by Len content images since agree image here = agree image here
agrees_by (Read place count) content images since agree image here = agree image here
agrees_by (Write first piece) content images since agree image here =
    let was = agree here.0 here.1 in
    let torn : Torn (min first (length content)) (length piece) here.0 image = here.2 in
    let now = length (written first piece content) in
    record {
      same = λ place untouched. same_outside (min first (length content)) (length piece) here.0 image torn place (λ inside. untouched (inr inside))
          ∙ was.same place (λ touched. untouched (inl touched));
      no_shorter = written_lower since.least (length here.0) (length image) now was.no_shorter torn.no_shorter;
      no_longer = written_upper since.greatest (length here.0) (length image) (min first (length content) + length piece) now was.no_longer torn.no_longer
          (length_written_within first piece content);
    }
agrees_by (Cut to) content images since agree image here =
    let was = agree here.0 here.1 in
    let short : CutShort to here.0 image = here.2 in
    let now = length (take to content) in
    record {
      same = λ place untouched. same_before to here.0 image short place (λ behind. untouched (inr behind))
          ∙ was.same place (λ touched. untouched (inl touched));
      no_shorter = cut_lower since.least (length here.0) (length image) to (length content) now was.no_shorter short.no_shorter (length-take to content);
      no_longer = cut_upper since.greatest (length here.0) (length image) now was.no_longer short.no_longer;
    }
agrees_by Sync content images since agree image here = at_its_sync content image here

agrees_after : (calls : List DiskCall) (content : List ℕ) (images : List ℕ → Type 0) (since : SinceSync)
    → ((image : List ℕ) → images image → Agrees since image)
    → (image : List ℕ) → images_after calls content images image → Agrees (since_after calls content since) image
agrees_after [] content images since agree image here = agree image here
agrees_after (call ∷ calls) content images since agree image here =
    agrees_after calls (content_by call content) (images_by call content images) (since_by call content since)
    (agrees_by call content images since agree) image here

pub agrees : (disk : MemoryDiskState) (image : List ℕ) → (told_by disk).images image → Agrees (since_sync disk.held) image
agrees disk image here =
    let start = disk.held.start in
    agrees_after disk.held.calls start (λ other. other ≡ start) (at_sync start)
    (λ other is. at_its_sync start other is) image (among disk.held.calls start image here)
