-- The images while records are moved, phase by phase.
use Rattle.std.proofs.Common.{◌≡◌, inl, inr, ℕ, ◌+◌, ◌-◌, ◌*◌, ◌<◌, ◌≤◌, ◌^◌, List, [], ◌∷◌, ◌++◌, length, drop, refl, sym, ap, ◌∙◌, subst, arith, length-append}
use Rattle.std.specs.Prelude.{Some}
use Rattle.std.proofs.lemmas.List.{append-nil}
use Rattle.disk_model.specs.Disks.{DiskState, EachMoment, Follows, Torn, written}
use Rattle.journal.specs.DiskSteps.{ReachesTo, WithStep}
use Rattle.journal.specs.Format.{place_behind}
use Rattle.journal.specs.KeptRecords.{ClosesAt, CutDue, HoldsRecords, Settled}
use Rattle.journal.specs.Moments.{weaker}
use Rattle.journal.specs.MovedAreas.{AreUpToGate, GivesOneOf, GivesRecords, IsArea, IsBack, IsMoved, IsOneImage, IsPlaced, IsTurned, place_bytes}
use Rattle.journal.proofs.MovedRecords.{area_moved, area_placed, area_size, both_gives, both_turned, moved, moved_back, moved_both, shut_followed, shut_image_gives, shut_told, told_shut, told_size, told_tells, turned, turned_gives}
use Rattle.journal.proofs.Steps.{moments_of}

module _ (images after : List ℕ → Type 0) where
  -- a step that is done
  pub alike_done : (P Q : List ℕ → Type 0) (made : List ℕ → List ℕ) → ((bytes : List ℕ) → P bytes → Q (made bytes))
      → IsOneImage images P → Follows (λ earlier image. image ≡ made earlier) images after → IsOneImage after Q
  alike_done P Q made has alike follows = record {
    bytes = made alike.bytes;
    has = has alike.bytes alike.has;
    each = λ image here. let from = follows image here in from.2 ∙ ap made (alike.each from.0 from.1);
  }

module _ (images : List ℕ → Type 0) where
  pub alike_reaches : (P : List ℕ → Type 0) (n : ℕ) → ((bytes : List ℕ) → P bytes → n ≤ length bytes) → IsOneImage images P → ReachesTo n images
  alike_reaches P n long alike image here = subst (λ (bytes : List ℕ). n ≤ length bytes) (sym (alike.each image here)) (long alike.bytes alike.has)

  pub settled_shut : (place : ℕ) (all : List (List ℕ)) → Settled images place all → (image : List ℕ) → images image → AreUpToGate place all image
  settled_shut place all settled image here =
      let found = settled.each image here in
      record { front = settled.front; is_front = settled.is_front; gate = settled.gate; shut = settled.shut; behind = found.0; is = found.1 }

  -- what the bytes give at each moment of a step on them
  module _ {D : Type 0} (seen : D → DiskState) (old new : D) (P R : List ℕ → Type 0) (step : List ℕ → List ℕ → Type 0) where
    pub alike_moments : ((bytes : List ℕ) → P bytes → R bytes) → ((bytes image : List ℕ) → P bytes → step bytes image → R image) → IsOneImage images P
        → EachMoment seen old new (WithStep step images) → EachMoment seen old new R
    alike_moments now later alike =
        moments_of seen old new step images R
        (λ image here. subst R (sym (alike.each image here)) (now alike.bytes alike.has))
        (λ after follows image here. let from = follows image here in
        later alike.bytes image alike.has (subst (λ (earlier : List ℕ). step earlier image) (alike.each from.0 from.1) from.2))

-- From a phase to the next

module _ (images after : List ℕ → Type 0) (place : ℕ) (all : List (List ℕ)) where
  -- the one content of a settled journal
  pub placed_after : (old : List (List ℕ)) (area : List ℕ) → IsArea area all → 16 + length area ≤ place + 1
      → 2 * (place + 1) ≤ 2 ^ 40 → Settled images place old
      → Follows (λ earlier image. image ≡ written (place + 1) area (written 9 (place_bytes (place + 1)) earlier)) images after
      → IsOneImage after (IsPlaced (place + 1) old all)
  placed_after old area is_area fits room settled follows =
      let bytes : List ℕ = settled.front ++ settled.gate ∷ [] in
      let shut : AreUpToGate place old bytes =
      record { front = settled.front; is_front = settled.is_front; gate = settled.gate; shut = settled.shut; behind = []; is = refl } in
      let size : length bytes ≡ place + 1 = omega (arith, settled.is_front.size, length-append settled.front (settled.gate ∷ [])) in
      let near : place + 1 < 2 ^ 56 = omega (arith, room) in
      record {
        bytes = written (place + 1) area (written 9 (place_bytes (place + 1)) bytes);
        has = area_placed (written 9 (place_bytes (place + 1)) bytes) area place old all
            (told_shut bytes place old shut size near) (told_size bytes place old shut size near)
            (told_tells bytes place old shut size near) is_area fits;
        each = λ image here.
            let from = follows image here in
            let was = settled.each from.0 from.1 in
            from.2 ∙ ap (λ (earlier : List ℕ). written (place + 1) area (written 9 (place_bytes (place + 1)) earlier))
            (was.1 ∙ ap (λ (behind : List ℕ). settled.front ++ settled.gate ∷ behind) was.2);
      }

  pub turned_after : (old : List (List ℕ)) → IsOneImage images (IsPlaced place old all)
      → Follows (λ earlier image. image ≡ written 8 (2 ∷ []) earlier) images after → IsOneImage after (IsTurned place all)
  turned_after old = alike_done images after (IsPlaced place old all) (IsTurned place all) (written 8 (2 ∷ [])) (λ bytes has. turned bytes place all has.0.0)

  pub moved_after : (area : List ℕ) → IsArea area all → IsOneImage images (IsTurned place all)
      → Follows (λ earlier image. image ≡ written 16 area earlier) images after → IsOneImage after (IsMoved place all)
  moved_after area is_area =
      alike_done images after (IsTurned place all) (IsMoved place all) (written 16 area) (λ bytes has. moved area bytes place all is_area has)

  pub back_after : IsOneImage images (IsMoved place all) → Follows (λ earlier image. image ≡ written 8 (3 ∷ []) earlier) images after
      → IsOneImage after (IsBack all)
  back_after = alike_done images after (IsMoved place all) (IsBack all) (written 8 (3 ∷ [])) (λ bytes has. moved_back bytes place all has)

-- what stands behind the gate is to be cut off
pub back_due : (images : List ℕ → Type 0) (all : List (List ℕ)) → IsOneImage images (IsBack all) → CutDue images (place_behind all) all
back_due images all alike =
    let shut = alike.has.is_shut in
    record {
      front = shut.front;
      is_front = shut.is_front;
      gate = shut.gate;
      shut = shut.shut;
      each = λ image here. (shut.behind, alike.each image here ∙ shut.is, tt);
    }

-- and that gate is a 0
pub back_closes : (images : List ℕ → Type 0) (all : List (List ℕ)) → IsOneImage images (IsBack all) → ClosesAt images (place_behind all)
back_closes images all alike image here =
    (alike.has.behind, ap (λ (bytes : List ℕ). drop (place_behind all) bytes) (alike.each image here) ∙ alike.has.closed)

-- The moments of each phase

module _ {D : Type 0} (seen : D → DiskState) (old_disk new_disk : D) (images : List ℕ → Type 0) (place : ℕ) (old all : List (List ℕ)) where
  pub placing_moments : (count : ℕ) → Settled images place old
      → EachMoment seen old_disk new_disk (WithStep (Torn (place + 1) count) (WithStep (Torn 9 7) images))
      → EachMoment seen old_disk new_disk (GivesRecords old)
  placing_moments count settled =
      weaker seen old_disk new_disk (WithStep (Torn (place + 1) count) (WithStep (Torn 9 7) images)) (GivesRecords old)
      (λ image here. shut_image_gives image place old (both image here))
    where
      first : (image : List ℕ) → WithStep (Torn 9 7) images image → AreUpToGate place old image
      first image (inl here) = settled_shut images place old settled image here
      first image (inr (earlier, here, torn)) = shut_told earlier image place old (settled_shut images place old settled earlier here) torn

      both : (image : List ℕ) → WithStep (Torn (place + 1) count) (WithStep (Torn 9 7) images) image → AreUpToGate place old image
      both image (inl here) = first image here
      both image (inr (earlier, here, torn)) = shut_followed count earlier image place old (first earlier here) torn

  pub turning_moments : IsOneImage images (IsPlaced place old all) → EachMoment seen old_disk new_disk (WithStep (Torn 8 1) images)
      → EachMoment seen old_disk new_disk (GivesOneOf old all)
  turning_moments = alike_moments images seen old_disk new_disk (IsPlaced place old all) (GivesOneOf old all) (Torn 8 1)
      (λ bytes has. both_gives bytes place old all has.0)
      (λ bytes image has torn. both_gives image place old all (both_turned bytes image place old all has.0 torn))

  pub moving_moments : (area : List ℕ) → IsArea area all → IsOneImage images (IsTurned place all)
      → EachMoment seen old_disk new_disk (WithStep (Torn 16 (length area)) images) → EachMoment seen old_disk new_disk (GivesRecords all)
  moving_moments area is_area = alike_moments images seen old_disk new_disk (IsTurned place all) (GivesRecords all) (Torn 16 (length area))
      (λ bytes has. turned_gives bytes place all has)
      (λ bytes image has torn. turned_gives image place all
      (area_moved (length area) bytes image place all (omega (arith, area_size area all is_area, has.0.room)) has torn))

  pub turning_back_moments : IsOneImage images (IsMoved place all) → EachMoment seen old_disk new_disk (WithStep (Torn 8 1) images)
      → EachMoment seen old_disk new_disk (GivesRecords all)
  turning_back_moments = alike_moments images seen old_disk new_disk (IsMoved place all) (GivesRecords all) (Torn 8 1)
      (λ bytes has. one bytes (both_gives bytes place all all (moved_both bytes place all has)))
      (λ bytes image has torn. one image (both_gives image place all all (both_turned bytes image place all all (moved_both bytes place all has) torn)))
    where
      one : (image : List ℕ) → GivesOneOf all all image → GivesRecords all image
      one image (inl is) = is
      one image (inr is) = is

-- what stands for these records alone gives them
pub alone_gives : (all : List (List ℕ)) (image : List ℕ) → HoldsRecords all [] image → GivesRecords all image
alone_gives all image (inl is) = is
alone_gives all image (inr is) = is ∙ ap (λ (found : List (List ℕ)). Some found) (append-nil all)

pub gate_of_area : (area : List ℕ) (all : List (List ℕ)) → IsArea area all → 16 + length area - 1 ≡ place_behind all
gate_of_area area all is_area = omega (arith, area_size area all is_area)
