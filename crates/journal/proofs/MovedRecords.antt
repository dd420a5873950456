-- What the bytes give while records are moved.
use Rattle.std.proofs.Common.{◌≡◌, ◌≢◌, inl, inr, ⊎_elim, ℕ, ◌+◌, ◌-◌, ◌<◌, ◌≤◌, ◌^◌, true, List, [], ◌∷◌, ◌++◌, length, get_or, take, drop, refl, sym, ap, ◌∙◌, subst, arith, append_assoc, length-append, length-take-le, take-append-drop}
use Rattle.std.specs.Prelude.{◌==◌, ◌/◌, ◌%◌, Some, nat_lt}
use Rattle.std.specs.Int.{from_le_bytes, to_le_bytes, w64}
use Rattle.std.proofs.lemmas.Nat.{from_le_bytes-to_le_bytes_8}
use Rattle.std.proofs.lemmas.Bool.{cases_eq}
use Rattle.std.proofs.lemmas.Bool.Decides.{nat_tests}
use Rattle.std.proofs.lemmas.List.{append-nil, drop-append-le, drop-drop, drop-take, drop_at, get_or-take, take-append-le, take-take, take_at}
use Rattle.std.proofs.Math.ListN.{get_or-append}
use Rattle.std.proofs.Math.Seq.{get_or-append_seam}
use Rattle.disk_model.specs.Disks.{Torn, written}
use Rattle.disk_model.proofs.Images.{length_written_within, torn_written}
use Rattle.journal.specs.Format.{count_of_bytes, decode, mark, place_behind, records, records_of, state_byte, told_place}
use Rattle.journal.specs.KeptRecords.{AreFrontRecords}
use Rattle.journal.specs.MovedAreas.{AreUpToGate, GivesOneOf, GivesRecords, HasArea, HasBoth, IsArea, IsBack, IsMoved, IsPlaced, IsTurned, place_bytes}
use Rattle.journal.proofs.RecordBytes.{front_holds, front_long, front_of, front_reads, long_gives, records_skip, rest_gives, shut_ends}
use Rattle.journal.proofs.Steps.{gate_stays}

-- What image and image have in common

drop_shift : (bytes : List ℕ) (n m : ℕ) → n ≤ m → drop m bytes ≡ drop (m - n) (drop n bytes)
drop_shift bytes n m le = ap (λ (k : ℕ). drop k bytes) (omega (arith, le)) ∙ sym (drop-drop (m - n) n bytes)

same_behind : (a b : List ℕ) (n m : ℕ) → n ≤ m → drop n a ≡ drop n b → drop m a ≡ drop m b
same_behind a b n m le same = drop_shift a n m le ∙ ap (λ (rest : List ℕ). drop (m - n) rest) same ∙ sym (drop_shift b n m le)

same_records : (a b : List ℕ) (n m : ℕ) → n ≤ m → drop n a ≡ drop n b → records m a ≡ records m b
same_records a b n m le same = records_skip m a ∙ ap (λ (rest : List ℕ). records 0 rest) (same_behind a b n m le same) ∙ sym (records_skip m b)

same_front : (a b : List ℕ) (n m : ℕ) → m ≤ n → take n a ≡ take n b → take m a ≡ take m b
same_front a b n m le same = sym (take-take m n a le) ∙ ap (λ (front : List ℕ). take m front) same ∙ take-take m n b le

same_byte : (a b : List ℕ) (n m : ℕ) → m < n → take n a ≡ take n b → get_or a m 0 ≡ get_or b m 0
same_byte a b n m less same = sym (get_or-take n a m 0 less) ∙ ap (λ (front : List ℕ). get_or front m 0) same ∙ get_or-take n b m 0 less

-- the place that is told, from the first sixteen bytes or from what stands behind the ninth
told_from_front : (a b : List ℕ) → take 16 a ≡ take 16 b → told_place a ≡ told_place b
told_from_front a b same =
    ap (λ (seven : List ℕ). from_le_bytes w64 (seven ++ 0 ∷ []))
    (sym (drop-take 9 7 a) ∙ ap (λ (front : List ℕ). drop 9 front) same ∙ drop-take 9 7 b)

told_from_behind : (a b : List ℕ) → drop 9 a ≡ drop 9 b → told_place a ≡ told_place b
told_from_behind a b same = ap (λ (rest : List ℕ). from_le_bytes w64 (take 7 rest ++ 0 ∷ [])) same

-- the seven bytes tell their place
seven_and_zero : (place : ℕ) → place < 2 ^ 56 → place_bytes place ++ 0 ∷ [] ≡ to_le_bytes w64 place
seven_and_zero place less =
    let high : 0 ≡ place / 72057594037927936 % 256 = omega (arith, less) in
    ap (λ (last : ℕ). place_bytes place ++ last ∷ []) high

pub told_by_bytes : (image : List ℕ) (place : ℕ) → place < 2 ^ 56 → take 7 (drop 9 image) ≡ place_bytes place → told_place image ≡ place
told_by_bytes image place less is =
    ap (λ (seven : List ℕ). from_le_bytes w64 (seven ++ 0 ∷ [])) is
    ∙ ap (λ (eight : List ℕ). from_le_bytes w64 eight) (seven_and_zero place less)
    ∙ from_le_bytes-to_le_bytes_8 place (omega (arith, less))

-- What such bytes give

moving_gives : (image : List ℕ) (place : ℕ) (all : List (List ℕ)) → HasArea place all image → state_byte image ≡ 2 → records_of image ≡ Some all
moving_gives image place all area two =
    let is_two : (state_byte image == 2) ≡ true = grind (arith, nat_tests) in
    let found : records (told_place image) image ≡ all = ap (λ (n : ℕ). records n image) area.told ∙ area.holds in
    let inside : nat_lt (told_place image) (length image) ≡ true = let less = area.within in let told = area.told in grind (arith, nat_tests) in
    let behind : place_behind (records (told_place image) image) ≡ place_behind all = ap (λ (found : List (List ℕ)). place_behind found) found in
    let fits : nat_lt (place_behind (records (told_place image) image)) (told_place image) ≡ true = let less = area.room in
    let told = area.told in grind (arith, nat_tests) in
    rw is_two (rw inside (rw fits (ap (λ (found : List (List ℕ)). Some found) found)))

area_long : (image : List ℕ) (place : ℕ) (all : List (List ℕ)) → HasArea place all image → 17 < length image
area_long image place all area = omega (arith, area.within, area.room)

pub turned_gives : (image : List ℕ) (place : ℕ) (all : List (List ℕ)) → IsTurned place all image → GivesRecords all image
turned_gives image place all turned = long_gives image (area_long image place all turned.0) turned.0.marked ∙ moving_gives image place all turned.0 turned.1

pub both_gives : (image : List ℕ) (place : ℕ) (old all : List (List ℕ)) → HasBoth place old all image → GivesOneOf old all image
both_gives image place old all both =
    ⊎_elim (λ (two : state_byte image ≡ 2). inr (turned_gives image place all (both.0, two)))
    (λ (at_rest : state_byte image ≢ 2). inl
    (long_gives image (area_long image place all both.0) both.0.marked ∙ rest_gives image at_rest ∙ ap (λ (found : List (List ℕ)). Some found) both.1))
    (cases_eq (state_byte image) 2)

pub shut_image_gives : (image : List ℕ) (place : ℕ) (all : List (List ℕ)) → AreUpToGate place all image → GivesRecords all image
shut_image_gives image place all shut =
    ap (λ (bytes : List ℕ). decode bytes) shut.is ∙ front_reads shut.front place all shut.is_front (shut.gate ∷ shut.behind)
    ∙ ap (λ (more : List (List ℕ)). Some (all ++ more)) (shut_ends shut.gate shut.behind shut.shut)
    ∙ ap (λ (found : List (List ℕ)). Some found) (append-nil all)

shut_holds : (image : List ℕ) (place : ℕ) (all : List (List ℕ)) → AreUpToGate place all image → records 16 image ≡ all
shut_holds image place all shut =
    ap (λ (bytes : List ℕ). records 16 bytes) shut.is ∙ front_holds shut.front place all shut.is_front (shut.gate ∷ shut.behind)
    ∙ ap (λ (more : List (List ℕ)). all ++ more) (shut_ends shut.gate shut.behind shut.shut) ∙ append-nil all

area_gives : (area rest : List ℕ) (all : List (List ℕ)) → IsArea area all → records 0 (area ++ rest) ≡ all
area_gives area rest all is =
    ap (λ (bytes : List ℕ). records 0 (bytes ++ rest)) is.ended
    ∙ ap (λ (bytes : List ℕ). records 0 bytes) (append_assoc is.run (0 ∷ []) rest)
    ∙ is.holds.gives (0 ∷ rest) ∙ append-nil all

pub area_size : (area : List ℕ) (all : List (List ℕ)) → IsArea area all → length area ≡ count_of_bytes all + 1
area_size area all is = omega (arith, ap (λ (bytes : List ℕ). length bytes) is.ended, length-append is.run (0 ∷ []), is.holds.size)

-- The new records written behind the old ones

-- a write over bytes 9 to 15
pub shut_told : (image after : List ℕ) (place : ℕ) (all : List (List ℕ)) → AreUpToGate place all image → Torn 9 7 image after → AreUpToGate place all after
shut_told image after place all shut torn =
    let front_is_long : 16 ≤ length shut.front = front_long shut.front place all shut.is_front in
    let size : length image ≡ length shut.front + length (shut.gate ∷ shut.behind) =
    ap (λ (bytes : List ℕ). length bytes) shut.is ∙ length-append shut.front (shut.gate ∷ shut.behind) in
    let long : 16 ≤ length after = omega (arith, front_is_long, size, torn.no_shorter) in
    let head : List ℕ = take 16 after in
    let nine : take 9 after ≡ take 9 shut.front = torn.before ∙ ap (λ (bytes : List ℕ). take 9 bytes) shut.is
    ∙ take-append-le 9 shut.front (shut.gate ∷ shut.behind) (omega (arith, front_is_long)) in
    let last : drop 16 after ≡ drop 16 shut.front ++ shut.gate ∷ shut.behind =
    torn.after ∙ ap (λ (bytes : List ℕ). drop 16 bytes) shut.is ∙ drop-append-le 16 shut.front (shut.gate ∷ shut.behind) front_is_long in
    record {
      front = head ++ drop 16 shut.front;
      is_front = subst (λ (n : ℕ). AreFrontRecords (head ++ drop 16 shut.front) n all) (sym shut.is_front.total)
          (front_of head (drop 16 shut.front) all (length-take-le 16 after long)
          (take-take 8 16 after (omega arith) ∙ same_front after shut.front 9 8 (omega arith) nine ∙ shut.is_front.marked)
          (λ is. shut.is_front.at_rest (sym (same_byte after shut.front 9 8 (omega arith) nine) ∙ sym (get_or-take 16 after 8 0 (omega arith)) ∙ is))
          shut.is_front.holds);
      gate = shut.gate;
      shut = shut.shut;
      behind = shut.behind;
      is = sym (take-append-drop 16 after) ∙ ap (λ (rest : List ℕ). head ++ rest) last ∙ sym (append_assoc head (drop 16 shut.front) (shut.gate ∷ shut.behind));
    }

-- a write behind the gate
pub shut_followed : (count : ℕ) (image after : List ℕ) (place : ℕ) (all : List (List ℕ)) → AreUpToGate place all image
    → Torn (place + 1) count image after → AreUpToGate place all after
shut_followed count image after place all shut torn = record {
  front = shut.front;
  is_front = shut.is_front;
  gate = shut.gate;
  shut = shut.shut;
  behind = drop (place + 1) after;
  is = gate_stays shut.front place shut.is_front.size shut.gate shut.behind after (torn.before ∙ ap (λ (bytes : List ℕ). take (place + 1) bytes) shut.is);
}

-- the place told, in a journal with nothing behind its gate
module _ (bytes : List ℕ) (place : ℕ) (old : List (List ℕ)) (shut : AreUpToGate place old bytes)
    (size : length bytes ≡ place + 1) (near : place + 1 < 2 ^ 56) where
  long_enough : 16 ≤ place
  long_enough = omega (arith, shut.is_front.size, front_long shut.front place old shut.is_front)

  told_torn : Torn 9 7 bytes (written 9 (place_bytes (place + 1)) bytes)
  told_torn = torn_written 9 (place_bytes (place + 1)) bytes (let long = long_enough in omega (arith, size, long))

  pub told_size : length (written 9 (place_bytes (place + 1)) bytes) ≡ place + 1
  told_size = let long = long_enough in let torn = told_torn in omega (arith, size, long, torn.no_shorter, torn.no_longer)

  pub told_shut : AreUpToGate place old (written 9 (place_bytes (place + 1)) bytes)
  told_shut = shut_told bytes (written 9 (place_bytes (place + 1)) bytes) place old shut told_torn

  pub told_tells : told_place (written 9 (place_bytes (place + 1)) bytes) ≡ place + 1
  told_tells =
      let long = long_enough in
      let nine : length (take 9 bytes) ≡ 9 = length-take-le 9 bytes (omega (arith, size, long)) in
      told_by_bytes (written 9 (place_bytes (place + 1)) bytes) (place + 1) near
      (ap (λ (all : List ℕ). take 7 (drop 9 all)) (append_assoc (take 9 bytes) (place_bytes (place + 1)) (drop 16 bytes))
      ∙ ap (λ (rest : List ℕ). take 7 rest) (drop_at (take 9 bytes) (place_bytes (place + 1) ++ drop 16 bytes) 9 nine)
      ∙ take_at (place_bytes (place + 1)) (drop 16 bytes) 7 refl)

-- an area written where the place is told
module _ (bytes area : List ℕ) (place : ℕ) (old all : List (List ℕ)) (shut : AreUpToGate place old bytes) (size : length bytes ≡ place + 1)
    (tells : told_place bytes ≡ place + 1) (is_area : IsArea area all) (room : 16 + length area ≤ place + 1) where
  area_torn : Torn (place + 1) (length area) bytes (written (place + 1) area bytes)
  area_torn = torn_written (place + 1) area bytes (omega (arith, size))

  area_shut : AreUpToGate place old (written (place + 1) area bytes)
  area_shut = shut_followed (length area) bytes (written (place + 1) area bytes) place old shut area_torn

  area_found : records (place + 1) (written (place + 1) area bytes) ≡ all
  area_found =
      let rest : List ℕ = drop (place + 1 + length area) bytes in
      let front : List ℕ = take (place + 1) bytes in
      let front_size : length front ≡ place + 1 = length-take-le (place + 1) bytes (omega (arith, size)) in
      records_skip (place + 1) (written (place + 1) area bytes)
      ∙ ap (λ (image : List ℕ). records 0 (drop (place + 1) image)) (append_assoc front area rest)
      ∙ ap (λ (image : List ℕ). records 0 image) (drop_at front (area ++ rest) (place + 1) front_size)
      ∙ area_gives area rest all is_area

  pub area_placed : IsPlaced (place + 1) old all (written (place + 1) area bytes)
  area_placed =
      let now = area_shut in
      let torn = area_torn in
      let area_is : length area ≡ count_of_bytes all + 1 = area_size area all is_area in
      let long : 16 ≤ length now.front = front_long now.front place old now.is_front in
      let image : List ℕ = written (place + 1) area bytes in (
        (
          record {
            marked = ap (λ (image : List ℕ). take 8 image) now.is ∙ take-append-le 8 now.front (now.gate ∷ now.behind) (omega (arith, long))
                ∙ now.is_front.marked;
            told = told_from_front image bytes (same_front image bytes (place + 1) 16 (omega (arith, room, area_is)) torn.before) ∙ tells;
            within = omega (arith, length_written_within (place + 1) area bytes, size, area_is);
            holds = area_found;
            room = omega (arith, room, area_is);
          },
          shut_holds image place old now,
        ),
        λ is. now.is_front.at_rest
            (sym (get_or-append now.front (now.gate ∷ now.behind) 0 8 (omega (arith, long))) ∙ ap (λ (image : List ℕ). state_byte image) (sym now.is) ∙ is),
      )

-- Byte 8

pub area_turned : (image after : List ℕ) (place : ℕ) (all : List (List ℕ)) → HasArea place all image → Torn 8 1 image after → HasArea place all after
area_turned image after place all area torn = record {
  marked = torn.before ∙ area.marked;
  told = told_from_behind after image torn.after ∙ area.told;
  within = omega (arith, area.within, torn.no_shorter);
  holds = same_records after image 9 place (omega (arith, area.room)) torn.after ∙ area.holds;
  room = area.room;
}

pub both_turned : (image after : List ℕ) (place : ℕ) (old all : List (List ℕ)) → HasBoth place old all image
    → Torn 8 1 image after → HasBoth place old all after
both_turned image after place old all both torn =
    (area_turned image after place all both.0 torn, same_records after image 9 16 (omega arith) torn.after ∙ both.1)

pub written_byte : (byte : ℕ) (image : List ℕ) → 8 < length image → state_byte (written 8 (byte ∷ []) image) ≡ byte
written_byte byte image long =
    let eight : length (take 8 image) ≡ 8 = length-take-le 8 image (omega (arith, long)) in
    let both : length (take 8 image ++ byte ∷ []) ≡ 9 = omega (arith, length-append (take 8 image) (byte ∷ []), eight) in
    get_or-append (take 8 image ++ byte ∷ []) (drop 9 image) 0 8 (omega (arith, both))
    ∙ ap (λ (n : ℕ). get_or (take 8 image ++ byte ∷ []) n 0) (sym eight)
    ∙ get_or-append_seam (take 8 image) byte [] 0

pub turned : (image : List ℕ) (place : ℕ) (all : List (List ℕ)) → HasArea place all image → IsTurned place all (written 8 (2 ∷ []) image)
turned image place all area =
    let long = area_long image place all area in (
      area_turned image (written 8 (2 ∷ []) image) place all area (torn_written 8 (2 ∷ []) image (omega (arith, long))),
      written_byte 2 image (omega (arith, long)),
    )

-- The new records written behind the header

pub area_moved : (count : ℕ) (image after : List ℕ) (place : ℕ) (all : List (List ℕ)) → 16 + count ≤ place
    → IsTurned place all image → Torn 16 count image after → IsTurned place all after
area_moved count image after place all room now torn = (
  record {
    marked = same_front after image 16 8 (omega arith) torn.before ∙ now.0.marked;
    told = told_from_front after image torn.before ∙ now.0.told;
    within = omega (arith, now.0.within, torn.no_shorter);
    holds = same_records after image (16 + count) place room torn.after ∙ now.0.holds;
    room = now.0.room;
  },
  same_byte after image 16 8 (omega arith) torn.before ∙ now.1,
)

pub moved : (area image : List ℕ) (place : ℕ) (all : List (List ℕ)) → IsArea area all → IsTurned place all image → IsMoved place all (written 16 area image)
moved area image place all is now =
    let long = area_long image place all now.0 in
    let size = area_size area all is in
    let sixteen : length (take 16 image) ≡ 16 = length-take-le 16 image (omega (arith, long)) in
    let rest : List ℕ = drop (16 + length area) image in
    record {
      turned = area_moved (length area) image (written 16 area image) place all (omega (arith, size, now.0.room)) now
          (torn_written 16 area image (omega (arith, long)));
      run = is.run;
      are_records = is.holds;
      behind = rest;
      is =
          ap (λ (bytes : List ℕ). drop 16 bytes) (append_assoc (take 16 image) area rest) ∙ drop_at (take 16 image) (area ++ rest) 16 sixteen
          ∙ ap (λ (bytes : List ℕ). bytes ++ rest) is.ended ∙ append_assoc is.run (0 ∷ []) rest;
    }

pub moved_both : (image : List ℕ) (place : ℕ) (all : List (List ℕ)) → IsMoved place all image → HasBoth place all all image
moved_both image place all now =
    (now.turned.0, records_skip 16 image ∙ ap (λ (bytes : List ℕ). records 0 bytes) now.is ∙ now.are_records.gives (0 ∷ now.behind) ∙ append-nil all)

-- Byte 8 written again

pub moved_shut : (image : List ℕ) (place : ℕ) (all : List (List ℕ)) → IsMoved place all image → AreUpToGate (place_behind all) all (written 8 (3 ∷ []) image)
moved_shut image place all now =
    let long = area_long image place all now.turned.0 in
    let torn = torn_written 8 (3 ∷ []) image (omega (arith, long)) in
    let after : List ℕ = written 8 (3 ∷ []) image in
    let head : List ℕ = take 16 after in
    let head_long : length head ≡ 16 = length-take-le 16 after (omega (arith, long, torn.no_shorter)) in
    let last : drop 16 after ≡ now.run ++ 0 ∷ now.behind = same_behind after image 9 16 (omega arith) torn.after ∙ now.is in
    let byte : state_byte head ≡ 3 = get_or-take 16 after 8 0 (omega arith) ∙ written_byte 3 image (omega (arith, long)) in
    record {
      front = head ++ now.run;
      is_front = front_of head now.run all head_long (take-take 8 16 after (omega arith) ∙ torn.before ∙ now.turned.0.marked)
          (λ is. omega (arith, byte, is)) now.are_records;
      gate = 0;
      shut = λ is. omega (arith, is);
      behind = now.behind;
      is = sym (take-append-drop 16 after) ∙ ap (λ (rest : List ℕ). head ++ rest) last ∙ sym (append_assoc head now.run (0 ∷ now.behind));
    }

pub moved_back : (image : List ℕ) (place : ℕ) (all : List (List ℕ)) → IsMoved place all image → IsBack all (written 8 (3 ∷ []) image)
moved_back image place all now =
    let long = area_long image place all now.turned.0 in
    let after : List ℕ = written 8 (3 ∷ []) image in
    let torn = torn_written 8 (3 ∷ []) image (omega (arith, long)) in
    let last : drop 16 after ≡ now.run ++ 0 ∷ now.behind = same_behind after image 9 16 (omega arith) torn.after ∙ now.is in
    record {
      is_shut = moved_shut image place all now;
      state = written_byte 3 image (omega (arith, long));
      behind = now.behind;
      closed =
          sym (drop-drop (count_of_bytes all) 16 after) ∙ ap (λ (rest : List ℕ). drop (count_of_bytes all) rest) last
          ∙ drop_at now.run (0 ∷ now.behind) (count_of_bytes all) now.are_records.size;
    }
