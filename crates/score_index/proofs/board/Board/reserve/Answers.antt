use Rattle.std.proofs.Common.{◌≡◌, ◌≤◌, ◌+◌, ◌++◌, ◌∷◌, [], ◌∙◌, ℕ, List, ap, cond, is_ok, sym, subst, arith, false, length, map, replicate}
use Rattle.std.specs.Prelude.{All}
use Rattle.std.specs.Vec.{with_items}
use Rattle.std.proofs.lemmas.List.{length-replicate, length_push, map-id, with_items_is}
use Rattle.std.proofs.lemmas.List.Elements.{All-push}
use Rattle.score_index.specs.KeptBoards.{HasEmptyCell, IsKept, IsRoom, IsTopicKept, spare, topic_scores}
use Rattle.score_index.specs.Places.{Places}
use Rattle.score_index.specs.declared.rooms.Room.{Room}
use Rattle.score_index.specs.declared.topics.ScoredTopic.{ScoredTopic}
use Rattle.score_index.proofs.KeptTopics.Boards.{all_seen}
use Rattle.score_index.proofs.board.Board.reserve.Goals.{After-reserve_lists}
use Rattle.score_index.proofs.board.Board.reserve.Goals as goal

-- the places of a room
abbrev IsFresh : Room → Type 0
IsFresh room = IsRoom room.trees

-- places that were just made
new_room : (room : Places) (n : ℕ) → room.relevant ≡ replicate n false → room.lower ≡ replicate n false → IsRoom room
new_room room n relevant lower =
    let long : n ≡ length room.relevant = sym (length-replicate n false) ∙ ap length (sym relevant) in
    record {
      no_relevant = relevant ∙ ap (λ k. replicate k false) long;
      no_lower = lower ∙ ap (λ k. replicate k false) long;
    }

-- topics that are as before but for their room
kept_with_room : (old new : List ScoredTopic) (before rooms : ℕ) → IsKept old before → length new ≡ length old
    → map topic_scores new ≡ map topic_scores old → All HasEmptyCell new → All (λ topic. rooms ≤ spare topic) new → IsKept new rooms
kept_with_room old new before rooms kept long are empties places = record {
  few = omega (arith, kept.few, long);
  topics_are = all_seen (IsTopicKept) (λ topic. topic) old new (λ topic one. one) (are ∙ sym (map-id (map topic_scores old))) kept.topics_are;
  empties = empties;
  places = places;
}

items_are : (c : After-reserve_lists) → (with_items c.self.inside.topics c.reserve_lists.new.topics).items ≡ c.reserve_lists.new.topics
items_are c = with_items_is c.self.inside.topics c.reserve_lists.new.topics (omega (arith, c.reserve_lists.auto.topics, c.deref_mut.ensures.len))

-- the topics, which have places for so many lists
kept : (c : After-reserve_lists) (rooms : ℕ) → All (λ topic. rooms ≤ spare topic) c.reserve_lists.new.topics → IsKept c.reserve_lists.new.topics rooms
kept c rooms places =
    kept_with_room c.self.inside.topics.items c.reserve_lists.new.topics (length c.self.inside.rooms.items) rooms c.self.invariant.0
    (omega (arith, c.reserve_lists.auto.topics, ap length c.deref_mut.ensures.value))
    (c.reserve_lists.ensures.seen ∙ ap (map topic_scores) c.deref_mut.ensures.value)
    (c.reserve_lists.ensures.kept.empties (subst (All HasEmptyCell) (sym c.deref_mut.ensures.value) c.self.invariant.0.empties)) places

pub invariant_of-self-in_err-reserve_lists : goal.invariant_of-self-in_err-reserve_lists
invariant_of-self-in_err-reserve_lists c =
    let all = (goal.at.invariant_of-self-in_err-reserve_lists c).After-reserve_lists in
    let new = c.reserve_lists.new.topics in
    let rooms = length c.self.inside.rooms.items in
    let before : All (λ (topic : ScoredTopic). rooms ≤ spare topic) c.deref_mut.result.now =
    subst (All (λ (topic : ScoredTopic). rooms ≤ spare topic)) (sym c.deref_mut.ensures.value) c.self.invariant.0.places in
    let many : rooms ≡ length c.reserve.new.self.items = ap length (sym c.reserve.ensures.items) in (
      subst (λ (ts : List ScoredTopic). IsKept ts (length c.reserve.new.self.items)) (sym (items_are all))
          (subst (IsKept new) many (kept all rooms (c.reserve_lists.ensures.kept.places rooms before))),
      subst (λ (rs : List Room). All IsFresh rs) (sym c.reserve.ensures.items) c.self.invariant.1,
    )

pub invariant_of-self-2 : goal.invariant_of-self-2
invariant_of-self-2 c =
    let all = (goal.at.invariant_of-self-2 c).After-reserve_lists in
    let new = c.reserve_lists.new.topics in
    let rooms = length c.push.new.self.items in
    let pushed =
    c.push.ensures.items ∙ ap (λ b. cond b (c.reserve.new.self.items ++ c.in_ok-room.room ∷ []) c.reserve.new.self.items) (ap is_ok c.unwrap.ensures) in
    let many : rooms ≡ length c.reserve.new.self.items + 1 = ap length pushed ∙ length_push c.reserve.new.self.items c.in_ok-room.room in
    let room : All (λ (topic : ScoredTopic). rooms ≤ spare topic) new =
    λ k d within. (let least = c.in_ok-reserve_lists.ensures.room k d within in omega (arith, least, many, c.len-count.ensures, c.reserve.new.self.ok.0)) in
    let fresh : IsFresh c.in_ok-room.room = new_room c.in_ok-room.room.trees _ c.in_ok-room.ensures.relevant c.in_ok-room.ensures.lower in (
      subst (λ (ts : List ScoredTopic). IsKept ts rooms) (sym (items_are all)) (kept all rooms room),
      subst (λ (rs : List Room). All IsFresh rs) (sym pushed)
          (All-push IsFresh c.reserve.new.self.items c.in_ok-room.room
          (subst (λ (rs : List Room). All IsFresh rs) (sym c.reserve.ensures.items) c.self.invariant.1) fresh),
    )
