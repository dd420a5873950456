-- Reading a journal whose records were being moved.
use Rattle.std.proofs.Common.{◌≡◌, ℕ, ◌+◌, ◌<◌, ◌≤◌, true, false, List, [], ◌∷◌, ◌++◌, length, take, drop, refl, sym, ap, ◌∙◌, subst, arith, length-take-le, take-append-drop}
use Rattle.std.specs.Prelude.{◌==◌, None, nat_lt}
use Rattle.std.proofs.lemmas.Bool.Decides.{nat_tests}
use Rattle.std.proofs.lemmas.List.{append-nil}
use Rattle.disk_model.specs.Disks.{DiskState, EachMoment, OnlyNow}
use Rattle.journal.specs.Format.{count_of_bytes, decode, mark, place_behind, records, state_byte, told_place}
use Rattle.journal.specs.KeptRecords.{AreRecords}
use Rattle.journal.specs.Moments.{started}
use Rattle.journal.specs.MovedAreas.{IsArea, IsTurned}
use Rattle.journal.proofs.RecordBytes.{long_gives, records_skip}

pub told_count : (behind : List ℕ) (size : ℕ) (all : List (List ℕ)) → AreRecords (take size behind) all → size ≤ length behind → count_of_bytes all ≡ size
told_count behind size all are inside = let run = length-take-le size behind inside in omega (arith, run, are.size)

module _ (bytes : List ℕ) (long : 17 < length bytes) (marked : take 8 bytes ≡ mark) (moving : state_byte bytes ≡ 2)
    (told : ℕ) (told_is : told ≡ told_place bytes) (within : told < length bytes)
    (behind : List ℕ) (behind_is : behind ≡ drop told bytes) (size : ℕ) (all : List (List ℕ)) (are : AreRecords (take size behind) all)
    (inside : size ≤ length behind) (none : records 0 (drop size behind) ≡ []) where
  found : records told bytes ≡ all
  found =
      records_skip told bytes ∙ ap (λ (rest : List ℕ). records 0 rest) (sym behind_is ∙ sym (take-append-drop size behind))
      ∙ are.gives (drop size behind) ∙ ap (λ (more : List (List ℕ)). all ++ more) none ∙ append-nil all

  count : count_of_bytes all ≡ size
  count = told_count behind size all are inside

  pub told_turned : 16 + size < told → IsTurned told all bytes
  told_turned room =
      let size_is = count in
      (record { marked = marked; told = sym told_is; within = within; holds = found; room = omega (arith, room, size_is) }, moving)

  pub told_short : told ≤ 16 + size → decode bytes ≡ None
  told_short short =
      let size_is = count in
      let at_told : records (told_place bytes) bytes ≡ all = ap (λ (n : ℕ). records n bytes) (sym told_is) ∙ found in
      let behind_all : place_behind (records (told_place bytes) bytes) ≡ place_behind all = ap (λ (r : List (List ℕ)). place_behind r) at_told in
      let is_two : (state_byte bytes == 2) ≡ true = grind (arith, nat_tests) in
      let in_bytes : nat_lt (told_place bytes) (length bytes) ≡ true = let less = within in let is = told_is in grind (arith, nat_tests) in
      let no_room : nat_lt (place_behind (records (told_place bytes) bytes)) (told_place bytes) ≡ false = let is = told_is in grind (arith, nat_tests) in
      long_gives bytes long marked ∙ rw is_two (rw in_bytes (rw no_room refl))

  -- an area of these records
  pub told_area : (area : List ℕ) (run : List ℕ) → run ≡ take size behind → area ≡ run ++ 0 ∷ [] → IsArea area all
  told_area area run run_is area_is = record { run = run; holds = subst (λ (b : List ℕ). AreRecords b all) (sym run_is) are; ended = area_is }

-- the place that is told lies behind the bytes
pub told_outside : (bytes : List ℕ) → 17 < length bytes → take 8 bytes ≡ mark → state_byte bytes ≡ 2
    → (told : ℕ) → told ≡ told_place bytes → length bytes ≤ told → decode bytes ≡ None
told_outside bytes long marked moving told told_is outside =
    let is_two : (state_byte bytes == 2) ≡ true = grind (arith, nat_tests) in
    let not_in : nat_lt (told_place bytes) (length bytes) ≡ false = let far = outside in let is = told_is in grind (arith, nat_tests) in
    long_gives bytes long marked ∙ rw is_two (rw not_in refl)

-- where no call was made
pub stay_as : {D : Type 0} (seen : D → DiskState) (disk : D) (bytes : List ℕ) → ((disk : D) → OnlyNow (seen disk))
    → ((image : List ℕ) → (seen disk).images image → image ≡ bytes) → EachMoment seen disk disk (λ image. decode image ≡ decode bytes)
stay_as seen disk bytes only_now alone =
    started seen disk (λ image. decode image ≡ decode bytes) (λ image left. ap (λ (b : List ℕ). decode b) (alone image (only_now disk image left)))
