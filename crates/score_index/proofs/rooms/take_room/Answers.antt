use Rattle.std.proofs.Common.{◌≡◌, ◌∙◌, ◌<◌, ℕ, Option, List, Some, sym, ap, subst, refl, arith, drop, eqb, get_or, length, suc, take}
use Rattle.std.specs.List.{position_or_len}
use Rattle.std.proofs.lemmas.Option.{same_Some}
use Rattle.std.proofs.lemmas.List.Sums.{passes_at_first}
use Rattle.std.proofs.lemmas.Bool.{eqb-true}
use Rattle.std.specs.Prelude.{All, IsSome, position}
use Rattle.std.proofs.lemmas.List.Elements.{All-append, All-drop, All-take}
use Rattle.score_index.specs.KeptBoards.{IsRoom, room_size}
use Rattle.score_index.specs.declared.rooms.Room.{Room}
use Rattle.score_index.proofs.KeptTopics.Rooms.{room_found, room_taken, room_there}
use Rattle.score_index.proofs.rooms.take_room.Goals as goal

-- the places of a room
abbrev IsFresh : Room → Type 0
IsFresh room = IsRoom room.trees

found_is : (rooms : List Room) (len place : ℕ) (read : List Room) (result : Option ℕ) → read ≡ rooms → result ≡ position (λ room. eqb (room_size room) len) read
    → position (λ (room : Room). eqb (room_size room) len) rooms ≡ Some (position_or_len (λ (room : Room). eqb (room_size room) len) rooms)
    → result ≡ Some place
    → position_or_len (λ (room : Room). eqb (room_size room) len) rooms ≡ place
found_is rooms len place read result same is found told =
    same_Some _ _ (sym found ∙ ap (position (λ (room : Room). eqb (room_size room) len)) (sym same) ∙ sym is ∙ told)

pub unwrap-place-requires : goal.unwrap-place-requires
unwrap-place-requires c =
    let rooms = c.args.rooms.now.items in
    let found = room_found room_size c.args.len rooms c.requires.room in
    subst IsSome (sym (c.room_for.ensures ∙ ap (position (λ (room : Room). eqb (room_size room) c.args.len)) c.as_slice.ensures.value ∙ found)) refl

pub remove-requires : goal.remove-requires
remove-requires c =
    let rooms = c.args.rooms.now.items in
    let place = found_is rooms c.args.len c.unwrap-place.result c.as_slice.result.now c.room_for.result c.as_slice.ensures.value c.room_for.ensures
    (room_found room_size c.args.len rooms c.requires.room) c.unwrap-place.ensures in
    let there = room_there room_size c.args.len rooms c.requires.room in
    omega (arith, place, there, c.as_slice.ensures.len, ap length c.as_slice.ensures.value)

pub returns-clause-room : goal.returns-clause-room
returns-clause-room c =
    let rooms = c.args.rooms.now.items in
    let place = found_is rooms c.args.len c.unwrap-place.result c.as_slice.result.now c.room_for.result c.as_slice.ensures.value c.room_for.ensures
    (room_found room_size c.args.len rooms c.requires.room) c.unwrap-place.ensures in
    let there = room_there room_size c.args.len rooms c.requires.room in
    ap room_size (c.remove.ensures.value ∙ ap (λ (i : ℕ). get_or rooms i c.remove.result) (sym place))
    ∙ eqb-true _ _ (passes_at_first (λ (room : Room). eqb (room_size room) c.args.len) rooms c.remove.result there)

pub returns-clause-rooms : goal.returns-clause-rooms
returns-clause-rooms c = λ other.
    let rooms = c.args.rooms.now.items in
    let place = found_is rooms c.args.len c.unwrap-place.result c.as_slice.result.now c.room_for.result c.as_slice.ensures.value c.room_for.ensures
    (room_found room_size c.args.len rooms c.requires.room) c.unwrap-place.ensures in
    let there = room_there room_size c.args.len rooms c.requires.room in
    let within : c.unwrap-place.result < length rooms = omega (arith, place, there) in
    let here : room_size (get_or rooms c.unwrap-place.result c.remove.result) ≡ c.args.len =
    ap (λ (i : ℕ). room_size (get_or rooms i c.remove.result)) (sym place)
    ∙ eqb-true _ _ (passes_at_first (λ (room : Room). eqb (room_size room) c.args.len) rooms c.remove.result there) in
    rw c.remove.ensures.items (room_taken room_size c.args.len other rooms c.unwrap-place.result c.remove.result within here)

pub returns-clause-is_room : goal.returns-clause-is_room
returns-clause-is_room c =
    let rooms = c.args.rooms.now.items in
    let place = found_is rooms c.args.len c.unwrap-place.result c.as_slice.result.now c.room_for.result c.as_slice.ensures.value c.room_for.ensures
    (room_found room_size c.args.len rooms c.requires.room) c.unwrap-place.ensures in
    let there = room_there room_size c.args.len rooms c.requires.room in
    subst IsFresh (sym c.remove.ensures.value) (c.requires.fresh c.unwrap-place.result c.remove.result (omega (arith, place, there)))

pub returns-clause-fresh : goal.returns-clause-fresh
returns-clause-fresh c =
    let rooms = c.args.rooms.now.items in
    let place = c.unwrap-place.result in
    subst (λ (rs : List Room). All IsFresh rs) (sym c.remove.ensures.items)
    (All-append IsFresh (take place rooms) (drop (suc place) rooms) (All-take IsFresh place rooms c.requires.fresh)
    (All-drop IsFresh (suc place) rooms c.requires.fresh))
