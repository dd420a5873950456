-- What each step leaves of the images.
use Rattle.std.proofs.Common.{◌≡◌, ◌≢◌, ◌⊎◌, inl, inr, ⊎_elim, ℕ, ◌+◌, ◌≤◌, List, [], ◌∷◌, ◌++◌, length, get_or, take, drop, refl, sym, ap, ◌∙◌, arith, append_assoc, length-append}
use Rattle.std.specs.Prelude.{Some}
use Rattle.std.proofs.lemmas.List.{append-nil, drop-take, drop_all, drop_at, drop_more, take-append-drop, take_all, take_at}
use Rattle.std.proofs.lemmas.Bool.{cases_eq}
use mathlib.Core.Logic.{dite}
use native.Mathlib.Decide.{dec_le}
use Rattle.disk_model.specs.Disks.{CutShort, DiskState, EachMoment, Follows, Torn, written}
use Rattle.journal.specs.Format.{decode, payload_behind, records}
use Rattle.journal.specs.Frames.{IsFrame}
use Rattle.journal.specs.KeptRecords.{AreFrontRecords, ClosesAt, CutDue, EndsClosed, GateDue, HoldsRecords, Settled, Shut, Staged}
use Rattle.journal.specs.DiskSteps.{ReachesTo, WithStep}
use Rattle.journal.specs.Moments.{weaker}
use Rattle.journal.proofs.RecordBytes.{body, frame_gives, front_grows, front_reads, shut_ends}

-- Bytes with a gate at this place.
module _ (front : List ℕ) (place : ℕ) (size : length front ≡ place) where
  pub up_to_gate : (gate : ℕ) (rest : List ℕ) → take (place + 1) (front ++ gate ∷ rest) ≡ front ++ gate ∷ []
  up_to_gate gate rest =
      let with_gate : length (front ++ gate ∷ []) ≡ place + 1 = omega (arith, size, length-append front (gate ∷ [])) in
      ap (λ (bytes : List ℕ). take (place + 1) bytes) (sym (append_assoc front (gate ∷ []) rest)) ∙ take_at (front ++ gate ∷ []) rest (place + 1) with_gate

  pub behind_gate : (gate : ℕ) (rest : List ℕ) → drop (place + 1) (front ++ gate ∷ rest) ≡ rest
  behind_gate gate rest =
      let with_gate : length (front ++ gate ∷ []) ≡ place + 1 = omega (arith, size, length-append front (gate ∷ [])) in
      ap (λ (bytes : List ℕ). drop (place + 1) bytes) (sym (append_assoc front (gate ∷ []) rest)) ∙ drop_at (front ++ gate ∷ []) rest (place + 1) with_gate

  pub before_gate : (rest : List ℕ) → take place (front ++ rest) ≡ front
  before_gate rest = take_at front rest place size

  -- the same front and the same gate
  pub gate_stays : (gate : ℕ) (rest image : List ℕ) → take (place + 1) image ≡ take (place + 1) (front ++ gate ∷ rest)
      → image ≡ front ++ gate ∷ drop (place + 1) image
  gate_stays gate rest image same =
      sym (take-append-drop (place + 1) image)
      ∙ ap (λ (bytes : List ℕ). bytes ++ drop (place + 1) image) (same ∙ up_to_gate gate rest)
      ∙ append_assoc front (gate ∷ []) (drop (place + 1) image)

  -- the same front and the same bytes behind the gate
  pub gate_changes : (tail image : List ℕ) → take place image ≡ front → drop (place + 1) image ≡ tail
      → place + 1 ≤ length image → image ≡ front ++ get_or image place 0 ∷ tail
  gate_changes tail image first last long =
      sym (take-append-drop place image)
      ∙ ap (λ (bytes : List ℕ). bytes ++ drop place image) first
      ∙ ap (λ (bytes : List ℕ). front ++ bytes) (drop_more image place 0 (omega (arith, long)) ∙ ap (λ (bytes : List ℕ). get_or image place 0 ∷ bytes) last)

  pub written_at_gate : (byte : ℕ) (rest : List ℕ) → written place (byte ∷ []) (front ++ rest) ≡ front ++ byte ∷ drop (place + 1) (front ++ rest)
  written_at_gate byte rest = ap (λ (bytes : List ℕ). bytes ++ (byte ∷ []) ++ drop (place + 1) (front ++ rest)) (before_gate rest)
      ∙ append_assoc front (byte ∷ []) (drop (place + 1) (front ++ rest))

  pub written_behind : (gate : ℕ) (bytes : List ℕ) → written (place + 1) bytes (front ++ gate ∷ []) ≡ front ++ gate ∷ bytes
  written_behind gate bytes =
      let short : length (front ++ gate ∷ []) ≤ place + 1 + length bytes = omega (arith, size, length-append front (gate ∷ [])) in
      ap (λ (first : List ℕ). first ++ bytes ++ drop (place + 1 + length bytes) (front ++ gate ∷ [])) (up_to_gate gate [])
      ∙ ap (λ (last : List ℕ). (front ++ gate ∷ []) ++ bytes ++ last) (drop_all (place + 1 + length bytes) (front ++ gate ∷ []) short)
      ∙ append-nil ((front ++ gate ∷ []) ++ bytes)
      ∙ append_assoc front (gate ∷ []) bytes

  pub reaches_gate : (gate : ℕ) (rest image : List ℕ) → image ≡ front ++ gate ∷ rest → place + 1 ≤ length image
  reaches_gate gate rest image is = omega (arith, size, ap (λ (bytes : List ℕ). length bytes) is, length-append front (gate ∷ rest))

-- What is kept stands for these records.
module _ (images : List ℕ → Type 0) (place : ℕ) (all : List (List ℕ)) where
  shut_gives : (front : List ℕ) → AreFrontRecords front place all → (gate : ℕ) → gate ≢ 1 → (rest image : List ℕ)
      → image ≡ front ++ gate ∷ rest → decode image ≡ Some all
  shut_gives front is_front gate shut rest image is =
      ap (λ (bytes : List ℕ). decode bytes) is ∙ front_reads front place all is_front (gate ∷ rest)
      ∙ ap (λ (more : List (List ℕ)). Some (all ++ more)) (shut_ends gate rest shut) ∙ ap (λ (found : List (List ℕ)). Some found) (append-nil all)

  pub shut_reads : (P : List ℕ → Type 0) → Shut images place all P → (image : List ℕ) → images image → decode image ≡ Some all
  shut_reads P kept image here = let found = kept.each image here in shut_gives kept.front kept.is_front kept.gate kept.shut found.0 image found.1

  -- a gate that may be open gives the records, with the pending ones or without
  gate_gives : (front : List ℕ) → AreFrontRecords front place all → (tail : List ℕ) (pending : List (List ℕ)) → records 0 (1 ∷ tail) ≡ pending
      → (gate : ℕ) (image : List ℕ) → image ≡ front ++ gate ∷ tail → HoldsRecords all pending image
  gate_gives front is_front tail pending behind gate image is =
      ⊎_elim (λ (open_gate : gate ≡ 1). inr
      (reads ∙ ap (λ (more : List (List ℕ)). Some (all ++ more)) (ap (λ (g : ℕ). records 0 (g ∷ tail)) open_gate ∙ behind)))
      (λ (shut : gate ≢ 1). inl (shut_gives front is_front gate shut tail image is))
      (cases_eq gate 1)
    where
      reads : decode image ≡ Some (all ++ records 0 (gate ∷ tail))
      reads = ap (λ (bytes : List ℕ). decode bytes) is ∙ front_reads front place all is_front (gate ∷ tail)

  pub gate_reads : (pending : List (List ℕ)) → GateDue images place all pending → (image : List ℕ) → images image → HoldsRecords all pending image
  gate_reads pending kept image here = ⊎_elim
      (λ (end : (image ≡ kept.front) × (kept.tail ≡ [])). inl (
      ap (λ (bytes : List ℕ). decode bytes) (end.0 ∙ sym (append-nil kept.front)) ∙ front_reads kept.front place all kept.is_front []
      ∙ ap (λ (found : List (List ℕ)). Some found) (append-nil all)))
      (λ (found : (gate : ℕ) × (image ≡ kept.front ++ gate ∷ kept.tail)). gate_gives kept.front
      kept.is_front kept.tail pending kept.behind found.0 image found.1)
      (kept.each image here)

  -- whatever stands behind the gate
  pub shut_is_cut : (P : List ℕ → Type 0) → Shut images place all P → CutDue images place all
  shut_is_cut P kept = record {
    front = kept.front;
    is_front = kept.is_front;
    gate = kept.gate;
    shut = kept.shut;
    each = λ image here. let found =
        kept.each image here in (found.0, found.1, tt);
  }

  pub shut_reaches : (P : List ℕ → Type 0) → Shut images place all P → ReachesTo (place + 1) images
  shut_reaches P kept image here = let found = kept.each image here in reaches_gate kept.front place kept.is_front.size kept.gate found.0 image found.1

  pub gate_reaches : (pending : List (List ℕ)) → GateDue images place all pending → ReachesTo place images
  gate_reaches pending kept image here = ⊎_elim
      (λ (end : (image ≡ kept.front) × (kept.tail ≡ [])). omega (arith, kept.is_front.size, ap (λ (bytes : List ℕ). length bytes) end.0))
      (λ (found : (gate : ℕ) × (image ≡ kept.front ++ gate ∷ kept.tail)). let long =
      reaches_gate kept.front place kept.is_front.size found.0 kept.tail image found.1 in omega (arith, long))
      (kept.each image here)

-- From images to those after a step.
module _ (images after : List ℕ → Type 0) (place : ℕ) (all : List (List ℕ)) where
  -- what leaves the records and the gate: a step on what stands behind it
  shut_on : (P Q : List ℕ → Type 0) (step : List ℕ → List ℕ → Type 0) (kept : Shut images place all P)
      → ((behind earlier image : List ℕ) → P behind → earlier ≡ kept.front ++ kept.gate ∷ behind → step earlier image
      → (now : List ℕ) × (image ≡ kept.front ++ kept.gate ∷ now) × Q now)
      → Follows step images after → Shut after place all Q
  shut_on P Q step kept makes follows = record {
    front = kept.front;
    is_front = kept.is_front;
    gate = kept.gate;
    shut = kept.shut;
    each = λ image here.
        let from = follows image here in
        let was = kept.each from.0 from.1 in
        makes was.0 from.0 image was.2 was.1 from.2;
  }

  -- what leaves the bytes up to the gate
  gate_left : (kept : CutDue images place all) (behind earlier image : List ℕ) → earlier ≡ kept.front ++ kept.gate ∷ behind
      → take (place + 1) image ≡ take (place + 1) earlier
      → (now : List ℕ) × (image ≡ kept.front ++ kept.gate ∷ now) × Unit {0}
  gate_left kept behind earlier image was same = (
    drop (place + 1) image,
    gate_stays kept.front place kept.is_front.size kept.gate behind image
        (same ∙ ap (λ (bytes : List ℕ). take (place + 1) bytes) was),
    tt,
  )

  pub torn_behind : (count : ℕ) → CutDue images place all → Follows (Torn (place + 1) count) images after → CutDue after place all
  torn_behind count kept = shut_on _ _ (Torn (place + 1) count) kept (λ behind earlier image any was torn. gate_left kept behind earlier image was torn.before)

  pub cut_behind : CutDue images place all → Follows (CutShort (place + 1)) images after → CutDue after place all
  cut_behind kept = shut_on _ _ (CutShort (place + 1)) kept (λ behind earlier image any was short. gate_left kept behind earlier image was short.before)

  pub trimmed : CutDue images place all → Follows (λ earlier image. image ≡ take (place + 1) earlier) images after → Settled after place all
  trimmed kept = shut_on _ _ (λ earlier image. image ≡ take (place + 1) earlier) kept
      (λ behind earlier image any was
      is. ([], is ∙ ap (λ (bytes : List ℕ). take (place + 1) bytes) was ∙ up_to_gate kept.front place kept.is_front.size kept.gate behind, refl))

  pub staged : (bytes : List ℕ) → Settled images place all → Follows (λ earlier image. image ≡ written (place + 1) bytes earlier) images after
      → Staged after place all bytes
  staged bytes kept = shut_on _ _ (λ earlier image. image ≡ written (place + 1) bytes earlier) kept
      (λ behind earlier image none was is. (
        bytes,
        is ∙ ap (λ (e : List ℕ). written (place + 1) bytes e) (was ∙ ap (λ (b : List ℕ). kept.front ++ kept.gate ∷ b) none)
            ∙ written_behind kept.front place kept.is_front.size kept.gate bytes,
        refl,
      ))

  -- a torn write of the gate leaves the same bytes behind it
  torn_gate : (front : List ℕ) → length front ≡ place → (gate : ℕ) (tail earlier image : List ℕ) → earlier ≡ front ++ gate ∷ tail
      → Torn place 1 earlier image → image ≡ front ++ get_or image place 0 ∷ tail
  torn_gate front size gate tail earlier image was torn = gate_changes front place size tail image
      (torn.before ∙ ap (λ (bytes : List ℕ). take place bytes) was ∙ before_gate front place size (gate ∷ tail))
      (torn.after ∙ ap (λ (bytes : List ℕ). drop (place + 1) bytes) was ∙ behind_gate front place size gate tail)
      (let long = reaches_gate front place size gate tail earlier was in let more = torn.no_shorter in omega (arith, long, more))

  staged_is : (bytes : List ℕ) (kept : Staged images place all bytes) (image : List ℕ) → images image → image ≡ kept.front ++ kept.gate ∷ bytes
  staged_is bytes kept image here = let found = kept.each image here in found.1 ∙ ap (λ (behind : List ℕ). kept.front ++ kept.gate ∷ behind) found.2

  pub staged_torn : (bytes : List ℕ) → IsFrame bytes → Staged images place all bytes → Follows (Torn place 1) images after
      → GateDue after place all (payload_behind bytes ∷ [])
  staged_torn bytes frame kept follows = record {
    front = kept.front;
    is_front = kept.is_front;
    tail = bytes;
    behind = frame_gives bytes frame;
    each = λ image here.
        let from = follows image here in
        inr (get_or image place 0, torn_gate kept.front kept.is_front.size kept.gate bytes from.0 image (staged_is bytes kept from.0 from.1) from.2);
  }

  opened_is : (bytes : List ℕ) (frame : IsFrame bytes) (kept : Staged images place all bytes)
      → Follows (λ earlier image. image ≡ written place (1 ∷ []) earlier) images after
      → (image : List ℕ) → after image → image ≡ (kept.front ++ 1 ∷ body bytes frame) ++ 0 ∷ []
  opened_is bytes frame kept follows image here =
      let from = follows image here in
      from.2 ∙ ap (λ (earlier : List ℕ). written place (1 ∷ []) earlier) (staged_is bytes kept from.0 from.1)
      ∙ written_at_gate kept.front place kept.is_front.size 1 (kept.gate ∷ bytes)
      ∙ ap (λ (rest : List ℕ). kept.front ++ 1 ∷ rest) (behind_gate kept.front place kept.is_front.size kept.gate bytes ∙ frame.ended)
      ∙ sym (append_assoc kept.front (1 ∷ body bytes frame) (0 ∷ []))

  pub opened : (bytes : List ℕ) → IsFrame bytes → Staged images place all bytes → Follows (λ earlier image. image ≡ written place (1 ∷ []) earlier) images after
      → Settled after (place + length bytes) (all ++ payload_behind bytes ∷ [])
  opened bytes frame kept follows = record {
    front = kept.front ++ 1 ∷ body bytes frame;
    is_front = front_grows bytes frame kept.front place all kept.is_front;
    gate = 0;
    shut = λ is. omega (arith, is);
    each = λ image here. ([], opened_is bytes frame kept follows image here, refl);
  }

  pub ends_closed : (bytes : List ℕ) → IsFrame bytes → Staged images place all bytes
      → Follows (λ earlier image. image ≡ written place (1 ∷ []) earlier) images after → EndsClosed after (place + length bytes)
  ends_closed bytes frame kept follows image here =
      ap (λ (now : List ℕ). drop (place + length bytes) now) (opened_is bytes frame kept follows image here)
      ∙ drop_at (kept.front ++ 1 ∷ body bytes frame) (0 ∷ []) (place + length bytes) (front_grows bytes frame kept.front place all kept.is_front).size

  pub gate_torn : (pending : List (List ℕ)) → GateDue images place all pending → Follows (Torn place 1) images after → GateDue after place all pending
  gate_torn pending kept follows = record {
    front = kept.front;
    is_front = kept.is_front;
    tail = kept.tail;
    behind = kept.behind;
    each = λ image here. let from = follows image here in
        ⊎_elim (at_end image from.0 from.2)
        (λ (found : (gate : ℕ) × (from.0 ≡ kept.front ++ gate ∷ kept.tail)). inr
        (get_or image place 0, torn_gate kept.front kept.is_front.size found.0 kept.tail from.0 image found.1 from.2)) (kept.each from.0 from.1);
  }
    where
      at_end : (image earlier : List ℕ) → Torn place 1 earlier image → (earlier ≡ kept.front) × (kept.tail ≡ [])
          → ((image ≡ kept.front) × (kept.tail ≡ [])) ⊎ ((gate : ℕ) × (image ≡ kept.front ++ gate ∷ kept.tail))
      at_end image earlier torn end =
          let size = kept.is_front.size in
          let same : length earlier ≡ place = ap (λ (bytes : List ℕ). length bytes) end.0 ∙ size in
          let first : take place image ≡ kept.front =
          torn.before ∙ ap (λ (bytes : List ℕ). take place bytes) end.0 ∙ take_all place kept.front (omega (arith, size)) in
          let last : drop (place + 1) image ≡ kept.tail = torn.after ∙ drop_all (place + 1) earlier (omega (arith, same)) ∙ sym end.1 in
          dite (dec_le (place + 1) (length image))
          (λ (long : place + 1 ≤ length image). inr (get_or image place 0, gate_changes kept.front place size kept.tail image first last long))
          (λ (short : ¬ (place + 1 ≤ length image)). inl (sym (take_all place image (omega (arith, short))) ∙ first, end.1))

  -- a 0 is written over a gate that may be open or missing
  closed_is : (pending : List (List ℕ)) (kept : GateDue images place all pending)
      → Follows (λ earlier image. image ≡ written place (0 ∷ []) earlier) images after
      → (image : List ℕ) → after image → (behind : List ℕ) × (image ≡ kept.front ++ 0 ∷ behind)
  closed_is pending kept follows image here = let from = follows image here in ⊎_elim
      (λ (end : (from.0 ≡ kept.front) × (kept.tail ≡ [])). with_front from.0 [] from.2 (end.0 ∙ sym (append-nil kept.front)))
      (λ (found : (gate : ℕ) × (from.0 ≡ kept.front ++ gate ∷ kept.tail)). with_front from.0 (found.0 ∷ kept.tail) from.2 found.1)
      (kept.each from.0 from.1)
    where
      with_front : (earlier rest : List ℕ) → image ≡ written place (0 ∷ []) earlier → earlier ≡ kept.front ++ rest
          → (behind : List ℕ) × (image ≡ kept.front ++ 0 ∷ behind)
      with_front earlier rest is was = (
        drop (place + 1) (kept.front ++ rest),
        is ∙ ap (λ (bytes : List ℕ). written place (0 ∷ []) bytes) was ∙ written_at_gate kept.front place kept.is_front.size 0 rest,
      )

  pub gate_closed : (pending : List (List ℕ)) → GateDue images place all pending
      → Follows (λ earlier image. image ≡ written place (0 ∷ []) earlier) images after → CutDue after place all
  gate_closed pending kept follows = record {
    front = kept.front;
    is_front = kept.is_front;
    gate = 0;
    shut = λ is. omega (arith, is);
    each = λ image here. let found = closed_is pending kept follows image here in (found.0, found.1, tt);
  }

  pub closes_at : (pending : List (List ℕ)) → GateDue images place all pending
      → Follows (λ earlier image. image ≡ written place (0 ∷ []) earlier) images after → ClosesAt after place
  closes_at pending kept follows image here =
      let found = closed_is pending kept follows image here in
      (found.0, ap (λ (bytes : List ℕ). drop place bytes) found.1 ∙ drop_at kept.front (0 ∷ found.0) place kept.is_front.size)

-- what stands behind a 0 is cut off
pub cut_at_closed : (images after : List ℕ → Type 0) (place : ℕ) → Follows (λ earlier image. image ≡ take (place + 1) earlier) images after
    → ClosesAt images place → EndsClosed after place
cut_at_closed images after place follows closes image here =
    let from = follows image here in
    let was = closes from.0 from.1 in
    ap (λ (bytes : List ℕ). drop place bytes) from.2 ∙ drop-take place 1 from.0 ∙ ap (λ (bytes : List ℕ). take 1 bytes) was.1

-- What holds of the images, and of those after a step, holds of each moment of the step.
pub moments_of : {D : Type 0} (seen : D → DiskState) (old new : D) (step : List ℕ → List ℕ → Type 0) (images P : List ℕ → Type 0)
    → ((image : List ℕ) → images image → P image) → ((after : List ℕ → Type 0) → Follows step images after → (image : List ℕ) → after image → P image)
    → EachMoment seen old new (WithStep step images) → EachMoment seen old new P
moments_of seen old new step images P now later = weaker seen old new (WithStep step images) P
    (λ image here. ⊎_elim (λ was. now image was)
    (λ made. later (λ new. (earlier : List ℕ) × images earlier × step earlier new) (λ new from. from) image made) here)
