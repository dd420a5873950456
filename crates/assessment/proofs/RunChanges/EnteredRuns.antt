-- A run that enters topic by topic.
use Rattle.std.proofs.Common.{◌≡◌, ◌≢◌, ◌+◌, ◌≤◌, ◌<◌, ◌∙◌, ◌∷◌, ◌++◌, ℕ, false, [], List, ap, arith, get_or, length, map, refl, subst, sym}
use Rattle.std.proofs.lemmas.List.{append_assoc, append-nil, length-append, length-map}
use Rattle.decimal_rank.specs.declared.naming.DocId.{DocId}
use Rattle.depth_pool.specs.Holdings.{has_run}
use Rattle.depth_pool.specs.declared.runs.RunId.{RunId}
use Rattle.score_index.specs.Scores.{rooms_for, run_docs_at}
use Rattle.assessment.specs.RunLists.{HasRooms, IsReservedFor, has_length}
use Rattle.assessment.specs.TopicFacts.{AwaitsRun, TopicFacts, TopicView, facts_of}
use Rattle.assessment.specs.TopicsFacts.{AreAtRest, AwaitsList, IsNewOn, IsNewRun, TopicsFacts, TopicsView, UsesRoom, after_list, after_run, topics_facts}
use Rattle.assessment.proofs.ListFacts.{at-each, get-behind}
use Rattle.assessment.proofs.RoomCounts.{no-rooms, some-room, taken}
use Rattle.assessment.proofs.RunChanges.RunSteps.{each-behind, each-long, each-more, lists-more, no-list-yet, no-lists, told-is}

-- The run is on its first topics, with the lists that are done, and there is room for those that are left.
pub record IsEnteredTo (run : RunId) (lists : List (List DocId)) (old : TopicsView) (done left : List (List DocId)) (now : TopicsView) : Type 0 where
  pub whole : done ++ left ≡ lists
  pub facts : topics_facts now ≡ after_run run done (topics_facts old)
  pub rest : (on : ℕ) (d : TopicView) → length done ≤ on → get_or now.topics on d ≡ get_or old.topics on d
  pub rooms : IsReservedFor left now.board

-- with one list more
entered-more : (run : RunId) (done : List (List DocId)) (docs : List DocId) (all : TopicsFacts) → length done < length all.topics
    → after_list (length done) run docs (after_run run done all) ≡ after_run run (done ++ docs ∷ []) all
entered-more run done docs all within =
    λ i. record all { topics = sym (each-more run done docs all.topics within) i; lists = λ other on. lists-more run done docs all.lists other on i }

module _ {run : RunId} {lists : List (List DocId)} {old : TopicsView} (room : HasRooms lists old.topics old.board)
    (is_new : IsNewRun run (topics_facts old)) where
  pub entering : IsEnteredTo run lists old [] lists old
  entering = record {
    whole = refl;
    facts = told-is old.topics old.board (after_run run [] (topics_facts old)) refl (no-lists run (run_docs_at old.board)) refl;
    rest = λ on d above. refl;
    rooms = room.on_board;
  }

  -- the lists that are left are for topics that are there
  within : {done left : List (List DocId)} {docs : List DocId} {now : TopicsView}
      → IsEnteredTo run lists old done (docs ∷ left) now → length done < length old.topics
  within {done} {left} {docs} at = omega (arith, room.on_topics.as_many, ap length at.whole, length-append done (docs ∷ left))

  as-many : {done left : List (List DocId)} {now : TopicsView} → IsEnteredTo run lists old done left now → length now.topics ≡ length old.topics
  as-many {done} {now = now} at =
      sym (length-map now.topics facts_of) ∙ ap (λ (all : TopicsFacts). length all.topics) at.facts
      ∙ each-long run done (map facts_of old.topics) ∙ length-map old.topics facts_of

  inside : {done left : List (List DocId)} {docs : List DocId} {now : TopicsView}
      → IsEnteredTo run lists old done (docs ∷ left) now → length done < length now.topics
  inside at = omega (arith, within at, as-many at)

  pub awaits : {done left : List (List DocId)} {docs : List DocId} {now : TopicsView}
      → IsEnteredTo run lists old done (docs ∷ left) now → AwaitsList (length done) docs now
  awaits {done} {left} {docs} {now} at =
      let next : get_or lists (length done) docs ≡ docs =
      ap (λ (ls : List (List DocId)). get_or ls (length done) docs) (sym at.whole) ∙ get-behind done docs left docs in
      record {
        on_topic = at-each (AwaitsRun docs) now.topics (length done) (inside at)
            (λ d. subst (AwaitsRun docs) (sym (at.rest (length done) d (omega arith)))
            (subst (λ (list : List DocId). AwaitsRun list (get_or old.topics (length done) d)) next
            (room.on_topics.on_topics (length done) docs d (within at))));
        on_board = λ len has. some-room (has_length len) docs left (rooms_for len now.board) (at.rooms len) has;
      }

  pub new-on : {done left : List (List DocId)} {docs : List DocId} {now : TopicsView}
      → IsEnteredTo run lists old done (docs ∷ left) now → IsNewOn (length done) run (topics_facts now)
  new-on {done} {now = now} at =
      let long : length (map facts_of now.topics) ≡ length now.topics = length-map now.topics facts_of in
      let long_old : length (map facts_of old.topics) ≡ length old.topics = length-map old.topics facts_of in
      record {
        on_topic = at-each (λ (topic : TopicFacts). has_run run topic.pool ≡ false) (map facts_of now.topics) (length done) (omega (arith, long, inside at))
            (λ d. subst (λ (topic : TopicFacts). has_run run topic.pool ≡ false)
            (sym (ap (λ (all : TopicsFacts). get_or all.topics (length done) d) at.facts ∙ each-behind run done (map facts_of old.topics) d))
            (is_new.on_topics (length done) d (omega (arith, long_old, within at))));
        on_board = ap (λ (all : TopicsFacts). all.lists run (length done)) at.facts
            ∙ no-list-yet run done (run_docs_at old.board) (is_new.on_board (length done));
      }

  pub entered : {done left : List (List DocId)} {docs : List DocId} {now later : TopicsView} → IsEnteredTo run lists old done (docs ∷ left) now
      → topics_facts later ≡ after_list (length done) run docs (topics_facts now) → UsesRoom (length done) docs now later
      → IsEnteredTo run lists old (done ++ docs ∷ []) left later
  entered {done} {left} {docs} {now} {later} at facts used =
      let long_old : length (map facts_of old.topics) ≡ length old.topics = length-map old.topics facts_of in
      let longer : length (done ++ docs ∷ []) ≡ length done + 1 = length-append done (docs ∷ []) in
      record {
        whole = append_assoc done (docs ∷ []) left ∙ at.whole;
        facts = facts ∙ ap (after_list (length done) run docs) at.facts ∙ entered-more run done docs (topics_facts old) (omega (arith, long_old, within at));
        rest = λ on d above.
            let other : on ≢ length done = omega (arith, above, longer) in
            used.others on d other ∙ at.rest on d (omega (arith, above, longer));
        rooms = λ len. taken (has_length len) docs left (rooms_for len now.board) (rooms_for len later.board) (at.rooms len) (used.on_board len);
      }

  pub at-rest : {done : List (List DocId)} {now : TopicsView} → IsEnteredTo run lists old done [] now → AreAtRest (after_run run lists (topics_facts old)) now
  at-rest {done} {now} at = record {
    facts = at.facts ∙ ap (λ (ls : List (List DocId)). after_run run ls (topics_facts old)) (sym (append-nil done) ∙ at.whole);
    none = no-rooms now.board.rooms at.rooms;
  }
