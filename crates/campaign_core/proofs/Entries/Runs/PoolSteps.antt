-- The pools of a history with one more entry.
use Rattle.std.proofs.Common.{◌≡◌, ◌≢◌, ◌||◌, ◌<◌, ℕ, suc, Bool, true, false, not, List, ◌++◌, ◌∷◌, [], Some, filter, length, map, take, arith, refl, sym, subst, ap, ◌∙◌}
use Rattle.std.specs.Prelude.{◌==◌, All, slice_get}
use Rattle.std.proofs.lemmas.Bool.{ne_eqb}
use Rattle.std.specs.List.{list_any}
use Rattle.std.proofs.lemmas.List.{map-append, take-map}
use Rattle.std.proofs.lemmas.List.Elements.{All-cons}
use Rattle.decimal_rank.specs.declared.naming.DocId.{DocId}
use Rattle.depth_pool.specs.declared.runs.RunId.{RunId}
use Rattle.depth_pool.specs.Holdings.{Held, has_run, with_run}
use Rattle.trec_formats.specs.declared.Topic.{Topic}
use Rattle.trec_formats.specs.declared.TopicList.{TopicList}
use Rattle.rulebook.specs.declared.rules.Rules.{Rules}
use Rattle.rulebook.specs.Words.{Text}
use Rattle.rulebook.specs.Campaign.{History, Run, docnos, docs_on, held_documents, is_withdrawn, level, level_in, need, needed_labels, numbered_runs, rules_of, runs}
use Rattle.campaign_core.specs.Growth.{BeginsWith}
use Rattle.campaign_core.specs.Numbering.Numbers.{are_named, doc_in, docs_in, names_of}
use Rattle.campaign_core.specs.Assessments.Topics.{KeptTopic, empty_topic, held_of, kept_topic, kept_topic_of, pool_of}
use Rattle.assessment.specs.RunLists.{each_with_list}
use Rattle.assessment.specs.TopicFacts.{TopicFacts, topic_with_list, without_list}
use Rattle.campaign_core.proofs.Lists.Elements.{Each, filter-map}
use Rattle.campaign_core.proofs.Entries.Runs.LiveRuns.{live-there, numbered-below, numbered-named}
use Rattle.campaign_core.proofs.Numbers.DocNumbers.{docs-kept}
use Rattle.campaign_core.proofs.PageTexts.PoolTexts.{held-named}

-- The pools after one more entry.

abbrev pool_with : Rules → List Text → List (ℕ × Run) → Text → KeptTopic
pool_with rules names ps id = record {
  id = id;
  labels_needed = needed_labels rules id;
  level = level_in rules id;
  depth = rules.depth;
  runs = map (λ (p : ℕ × Run). record { run = record { 0 = p.0 }; docs = docs_in names (take rules.depth (docs_on p.1.lists id)) }) ps;
}

same-pool : (H J : History) → rules_of J ≡ rules_of H → names_of J ≡ names_of H → numbered_runs J ≡ numbered_runs H
    → (id : Text) → kept_topic_of J id ≡ kept_topic_of H id
same-pool H J rules_are names_are numbered_are id =
    ap (λ rules. pool_with rules (names_of J) (numbered_runs J) id) rules_are
    ∙ ap (λ names. pool_with (rules_of H) names (numbered_runs J) id) names_are
    ∙ ap (λ ps. pool_with (rules_of H) (names_of H) ps id) numbered_are

held-stays : (H J : History) (topic : Text) (ps : List (ℕ × Run)) → rules_of J ≡ rules_of H → BeginsWith (names_of H) (names_of J)
    → Each (λ p. are_named (names_of H) (docnos p.1.lists) ≡ true) ps
    → map (held_of J topic) ps ≡ map (held_of H topic) ps
held-stays H J topic [] rules_are grown named = refl
held-stays H J topic (p ∷ ps) rules_are grown named =
    let same_held : held_documents J topic p.1 ≡ held_documents H topic p.1 = rw rules_are refl in
    let same_docs : docs_in (names_of J) (held_documents J topic p.1) ≡ docs_in (names_of H) (held_documents H topic p.1) =
    ap (docs_in (names_of J)) same_held
    ∙ docs-kept (names_of H) (names_of J) (held_documents H topic p.1) grown (held-named H (names_of H) topic p.1 named.0) in
    let first : held_of J topic p ≡ held_of H topic p = ap (λ docs. let h : Held = record { run = record { 0 = p.0 }; docs = docs } in h) same_docs in
    ap (λ h. h ∷ map (held_of J topic) ps) first ∙ ap (λ hs. held_of H topic p ∷ hs) (held-stays H J topic ps rules_are grown named.1)

pool-grows : (H J : History) (topic : Text) (run : Run) → rules_of J ≡ rules_of H → BeginsWith (names_of H) (names_of J)
    → numbered_runs J ≡ numbered_runs H ++ (length (runs H), run) ∷ []
    → pool_of J topic ≡ pool_of H topic ++ held_of J topic (length (runs H), run) ∷ []
pool-grows H J topic run rules_are grown numbered_are =
    ap (map (held_of J topic)) numbered_are
    ∙ map-append (held_of J topic) (numbered_runs H) ((length (runs H), run) ∷ [])
    ∙ ap (λ hs. hs ++ held_of J topic (length (runs H), run) ∷ []) (held-stays H J topic (numbered_runs H) rules_are grown (numbered-named H))

-- The numbers in a pool are below the next.

held-below : (H : History) (topic : Text) (m : ℕ) (ps : List (ℕ × Run)) → Each (λ p. p.0 < m) ps → All (λ h. h.run.0 < m) (map (held_of H topic) ps)
held-below H topic m [] below = λ k d within. absurd (omega (arith, within))
held-below H topic m (p ∷ ps) below =
    All-cons (λ (h : Held). h.run.0 < m) (held_of H topic p) (map (held_of H topic) ps) below.0 (held-below H topic m ps below.1)

pub numbers-below : (H : History) (topic : Text) (run : RunId) → run.0 ≡ length (runs H) → All (λ h. h.run.0 < run.0) (pool_of H topic)
numbers-below H topic run number =
    subst (λ m. All (λ (h : Held). h.run.0 < m) (pool_of H topic)) (sym number) (held-below H topic (length (runs H)) (numbered_runs H) (numbered-below H))

pub not-in : (run : RunId) (hs : List Held) → All (λ h. h.run.0 < run.0) hs → has_run run hs ≡ false
not-in run [] all = refl
not-in run (h ∷ hs) all =
    let less : h.run.0 < run.0 = all 0 h (omega arith) in
    let other : (h.run.0 == run.0) ≡ false = ne_eqb _ _ (let differ : h.run.0 ≢ run.0 = omega (arith, less) in differ) in
    ap (λ t. t || has_run run hs) other ∙ not-in run hs (λ k d within. all (suc k) d (omega (arith, within)))

-- A live run is in the pool.

has-number : (H : History) (topic : Text) (run : RunId) (ps : List (ℕ × Run)) → has_run run (map (held_of H topic) ps) ≡ list_any (λ p. p.0 == run.0) ps
has-number H topic run [] = refl
has-number H topic run (p ∷ ps) = ap (λ t. (p.0 == run.0) || t) (has-number H topic run ps)

pub pool-has : (H : History) (topic : Text) (run : RunId) (r : Run) → slice_get (runs H) run.0 ≡ Some r
    → is_withdrawn H r.name ≡ false → has_run run (pool_of H topic) ≡ true
pool-has H topic run r there live = has-number H topic run (numbered_runs H) ∙ live-there H run.0 r there live

-- Each topic after the entry.

-- a topic with one more run
run-added : (H J : History) (name : Text) (lists : List TopicList) (run : RunId) (names : List Text) (t : TopicFacts) (listed : List DocId) (id : Text)
    → ((new : Held) (hs : List Held) → All (λ h. h.run.0 < new.run.0) hs → with_run new hs ≡ hs ++ new ∷ [])
    → rules_of J ≡ rules_of H → BeginsWith (names_of H) (names_of J)
    → numbered_runs J ≡ numbered_runs H ++ (length (runs H), record { name = name; lists = lists }) ∷ [] → names ≡ names_of J
    → run.0 ≡ length (runs H) → kept_topic t ≡ kept_topic_of H id → listed ≡ docs_in names (docs_on lists t.id)
    → kept_topic (topic_with_list run listed t) ≡ kept_topic_of J id
run-added H J name lists run names t listed id goes_last rules_are grown runs_are names_are number same listed_is =
    let ids : t.id ≡ id = ap (λ (k : KeptTopic). k.id) same in
    let depths : t.depth ≡ (rules_of H).depth = ap (λ (k : KeptTopic). k.depth) same in
    let before : t.pool ≡ pool_of H id = ap (λ (k : KeptTopic). k.runs) same in
    let new_run : Run = record { name = name; lists = lists } in
    let docs : take t.depth listed ≡ docs_in (names_of J) (held_documents J id new_run) =
    ap (take t.depth) listed_is
    ∙ take-map (doc_in names) t.depth (docs_on lists t.id)
    ∙ ap (λ n. docs_in n (take t.depth (docs_on lists t.id))) names_are
    ∙ ap (λ i. docs_in (names_of J) (take t.depth (docs_on lists i))) ids
    ∙ ap (λ d. docs_in (names_of J) (take d (docs_on lists id))) (depths ∙ ap (λ (r : Rules). r.depth) (sym rules_are)) in
    let new : Held = record { run = run; docs = take t.depth listed } in
    let last : Held = held_of J id (length (runs H), new_run) in
    let numbers : run ≡ (let r : RunId = record { 0 = length (runs H) } in r) = same_run run (length (runs H)) number in
    let is_last : new ≡ last = ap (λ (r : RunId). let h : Held = record { run = r; docs = take t.depth listed } in h) numbers
    ∙ ap (λ ds. let h : Held = record { run = record { 0 = length (runs H) }; docs = ds } in h) docs in
    let below : All (λ h. h.run.0 < new.run.0) (pool_of H id) = numbers-below H id run number in
    let runs_after : with_run new t.pool ≡ pool_of J id =
    ap (with_run new) before ∙ goes_last new (pool_of H id) below ∙ ap (λ h. pool_of H id ++ h ∷ []) is_last
    ∙ sym (pool-grows H J id new_run rules_are grown runs_are) in
    ap (λ i. let k : KeptTopic = record { id = i; labels_needed = t.need; level = t.level; depth = t.depth; runs = with_run new t.pool } in k) ids
    ∙ ap (λ n. let k : KeptTopic = record { id = id; labels_needed = n; level = t.level; depth = t.depth; runs = with_run new t.pool } in k)
    (ap (λ (k : KeptTopic). k.labels_needed) same ∙ ap (λ (r : Rules). needed_labels r id) (sym rules_are))
    ∙ ap (λ l. let k : KeptTopic = record { id = id; labels_needed = need J id; level = l; depth = t.depth; runs = with_run new t.pool } in k)
    (ap (λ (k : KeptTopic). k.level) same ∙ ap (λ (r : Rules). level_in r id) (sym rules_are))
    ∙ ap (λ d. let k : KeptTopic = record { id = id; labels_needed = need J id; level = level J id; depth = d; runs = with_run new t.pool } in k)
    (depths ∙ ap (λ (r : Rules). r.depth) (sym rules_are))
    ∙ ap (λ hs. let k : KeptTopic = record { id = id; labels_needed = need J id; level = level J id; depth = (rules_of J).depth; runs = hs } in k) runs_after
  where
    same_run : (run : RunId) (n : ℕ) → run.0 ≡ n → run ≡ (let r : RunId = record { 0 = n } in r)
    same_run run n is = ap (λ m. let r : RunId = record { 0 = m } in r) is

pub runs-added : (H J : History) (name : Text) (lists : List TopicList) (run : RunId) (names : List Text) (ts : List TopicFacts) (ids : List Text)
    → ((new : Held) (hs : List Held) → All (λ h. h.run.0 < new.run.0) hs → with_run new hs ≡ hs ++ new ∷ [])
    → rules_of J ≡ rules_of H → BeginsWith (names_of H) (names_of J)
    → numbered_runs J ≡ numbered_runs H ++ (length (runs H), record { name = name; lists = lists }) ∷ [] → names ≡ names_of J
    → run.0 ≡ length (runs H) → map kept_topic ts ≡ map (kept_topic_of H) ids
    → map kept_topic (each_with_list run (map (λ topic. docs_in names (docs_on lists topic.id)) ts) ts) ≡ map (kept_topic_of J) ids
runs-added H J name lists run names [] [] goes_last rules_are grown runs_are names_are number same = refl
runs-added H J name lists run names [] (id ∷ ids) goes_last rules_are grown runs_are names_are number same = cc same
runs-added H J name lists run names (t ∷ ts) [] goes_last rules_are grown runs_are names_are number same = cc same
runs-added H J name lists run names (t ∷ ts) (id ∷ ids) goes_last rules_are grown runs_are names_are number same =
    let head : kept_topic t ≡ kept_topic_of H id = cc same in
    let tail : map kept_topic ts ≡ map (kept_topic_of H) ids = cc same in
    let docs : TopicFacts → List DocId = λ topic. docs_in names (docs_on lists topic.id) in
    ap (λ k. k ∷ map kept_topic (each_with_list run (map docs ts) ts))
    (run-added H J name lists run names t (docs t) id goes_last rules_are grown runs_are names_are number head refl)
    ∙ ap (λ ks. kept_topic_of J id ∷ ks) (runs-added H J name lists run names ts ids goes_last rules_are grown runs_are names_are number tail)

-- the topics before any run
pub topics-made : (J : History) (given : List Topic) (rules : Rules) → rules ≡ rules_of J → numbered_runs J ≡ []
    → map (λ t. empty_topic rules t.id) given ≡ map (kept_topic_of J) (map (λ t. t.id) given)
topics-made J [] rules rules_are none = refl
topics-made J (t ∷ given) rules rules_are none =
    let first : empty_topic rules t.id ≡ kept_topic_of J t.id = rw (rules_are, none) refl in
    ap (λ k. k ∷ map (λ t. empty_topic rules t.id) given) first ∙ ap (λ ks. kept_topic_of J t.id ∷ ks) (topics-made J given rules rules_are none)

-- the same topics with the same pools
pub topics-stay : (H J : History) (ids : List Text) → rules_of J ≡ rules_of H → names_of J ≡ names_of H
    → numbered_runs J ≡ numbered_runs H → map (kept_topic_of H) ids ≡ map (kept_topic_of J) ids
topics-stay H J [] rules_are names_are numbered_are = refl
topics-stay H J (id ∷ ids) rules_are names_are numbered_are =
    ap (λ k. k ∷ map (kept_topic_of H) ids) (sym (same-pool H J rules_are names_are numbered_are id))
    ∙ ap (λ ks. kept_topic_of J id ∷ ks) (topics-stay H J ids rules_are names_are numbered_are)

-- Each topic once a run is withdrawn.

run-gone : (H J : History) (run : RunId) (t : TopicFacts) (id : Text) → rules_of J ≡ rules_of H → names_of J ≡ names_of H
    → numbered_runs J ≡ filter (λ p. not (p.0 == run.0)) (numbered_runs H)
    → kept_topic t ≡ kept_topic_of H id → kept_topic (without_list run t) ≡ kept_topic_of J id
run-gone H J run t id rules_are names_are numbered_are same =
    let stays : Held → Bool = λ held. not (held.run.0 == run.0) in
    ap (λ (k : KeptTopic). record k { runs = filter stays k.runs }) same
    ∙ ap (λ (hs : List Held). record (kept_topic_of H id) { runs = hs }) (sym (filter-map stays (held_of H id) (numbered_runs H)))
    ∙ ap (λ ps. pool_with (rules_of H) (names_of H) ps id) (sym numbered_are)
    ∙ ap (λ names. pool_with (rules_of H) names (numbered_runs J) id) (sym names_are)
    ∙ ap (λ rules. pool_with rules (names_of J) (numbered_runs J) id) (sym rules_are)

pub runs-gone : (H J : History) (run : RunId) (ts : List TopicFacts) (ids : List Text) → rules_of J ≡ rules_of H
    → names_of J ≡ names_of H → numbered_runs J ≡ filter (λ p. not (p.0 == run.0)) (numbered_runs H)
    → map kept_topic ts ≡ map (kept_topic_of H) ids → map kept_topic (map (without_list run) ts) ≡ map (kept_topic_of J) ids
runs-gone H J run [] [] rules_are names_are numbered_are same = refl
runs-gone H J run [] (id ∷ ids) rules_are names_are numbered_are same = cc same
runs-gone H J run (t ∷ ts) [] rules_are names_are numbered_are same = cc same
runs-gone H J run (t ∷ ts) (id ∷ ids) rules_are names_are numbered_are same =
    let head : kept_topic t ≡ kept_topic_of H id = cc same in
    let tail : map kept_topic ts ≡ map (kept_topic_of H) ids = cc same in
    ap (λ k. k ∷ map kept_topic (map (without_list run) ts)) (run-gone H J run t id rules_are names_are numbered_are head)
    ∙ ap (λ ks. kept_topic_of J id ∷ ks) (runs-gone H J run ts ids rules_are names_are numbered_are tail)
