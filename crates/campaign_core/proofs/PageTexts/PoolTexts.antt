-- The pool of a topic, by the numbers of its documents.
use Rattle.std.proofs.Common.{◌≡◌, ◌||◌, ◌<◌, ◌==◌, ℕ, Bool, true, false, cond, List, [], ◌∷◌, length, map, find, refl, sym, ap, ◌∙◌, arith, subst, Option, None, Some}
use Rattle.std.specs.Prelude.{All}
use Rattle.std.specs.Cmp.Lexicographic.{slice_cmp}
use Rattle.std.specs.List.{list_all, list_any, flat_map}
use Rattle.std.specs.Option.{option_map_or}
use Rattle.std.specs.Ordering.{nat_cmp, is_lt}
use Rattle.std.specs.Str.{bytes_eq}
use Rattle.std.proofs.lemmas.List.Folds.{list_all-append, list_any-append}
use Rattle.std.proofs.lemmas.Slice.Eq.{bytes_eq-Decides}
use Rattle.std.proofs.lemmas.List.Elements.{All-cons}
use Rattle.std.proofs.lemmas.Bool.{and_from}
use Rattle.std.proofs.lemmas.List.Kept.{AllPairs-cons}
use Rattle.decimal_rank.specs.Names.{docno_of}
use Rattle.decimal_rank.specs.declared.naming.DocId.{DocId}
use Rattle.decimal_rank.proofs.Lists.{all_head, all_tail, all_taken}
use Rattle.depth_pool.specs.Holdings.{AreByDocno, Held, has_doc, some_run_holds}
use Rattle.trec_formats.specs.declared.Topic.{Topic}
use Rattle.trec_formats.specs.declared.TopicList.{TopicList}
use Rattle.rulebook.specs.declared.reply.Reply.TheVariants as reply
use Rattle.rulebook.specs.declared.reply.Refusal.TheVariants as refusal
use Rattle.rulebook.specs.Answers.{pool_outcome, reply_of}
use Rattle.rulebook.specs.Campaign.{History, Run, docnos, docs_on, held_documents, is_topic, live, numbered_runs, pool, rules_of}
use Rattle.rulebook.specs.Words.{Text, contains_text}
use Rattle.campaign_core.specs.Numbering.Numbers.{are_named, doc_in, docs_in, names_of}
use Rattle.campaign_core.specs.Assessments.Topics.{KeptTopic, held_of, kept_topic, kept_topic_of, pool_of}
use Rattle.assessment.specs.TopicFacts.{TopicFacts}
use Rattle.campaign_core.proofs.Entries.Runs.LiveRuns.{numbered-named}
use Rattle.campaign_core.proofs.Numbers.DocNumbers.{docno-back, docnos-back, numbers-within}
use Rattle.campaign_core.proofs.Lists.ByteOrder.{Rises, below, in_order-all, in_order-any, in_order-rises}
use Rattle.campaign_core.proofs.Lists.Elements.{Each, all_back, all_front, any_map}

-- What a run holds is named.

docs_on-named : (names : List Text) (lists : List TopicList) (topic : Text) → are_named names (docnos lists) ≡ true
    → are_named names (docs_on lists topic) ≡ true
docs_on-named names [] topic named = refl
docs_on-named names (l ∷ lists) topic named =
    step (bytes_eq l.topic topic) (docs_on-named names lists topic (all_back (contains_text names) l.docs (docnos lists) named))
  where
    step : (t : Bool) → are_named names (docs_on lists topic) ≡ true
        → are_named names (option_map_or (λ l. l.docs) (cond t (Some l) (find (λ l. bytes_eq l.topic topic) lists)) []) ≡ true
    step true rest = all_front (contains_text names) l.docs (docnos lists) named
    step false rest = rest

pub lists-named : (names : List Text) (lists : List TopicList) → are_named names (docnos lists) ≡ true
    → (topic : Text) → are_named names (docs_on lists topic) ≡ true
lists-named names lists named topic = docs_on-named names lists topic named

pub held-named : (H : History) (names : List Text) (topic : Text) (run : Run) → are_named names (docnos run.lists) ≡ true
    → are_named names (held_documents H topic run) ≡ true
held-named H names topic run named = all_taken (contains_text names) (rules_of H).depth (docs_on run.lists topic) (docs_on-named names run.lists topic named)

all-held : (H : History) (names : List Text) (topic : Text) (ps : List (ℕ × Run)) → Each (λ p. are_named names (docnos p.1.lists) ≡ true) ps
    → are_named names (flat_map (held_documents H topic) (map (λ p. p.1) ps)) ≡ true
all-held H names topic [] named = refl
all-held H names topic (p ∷ ps) named =
    list_all-append (contains_text names) (held_documents H topic p.1) (flat_map (held_documents H topic) (map (λ (p : ℕ × Run). p.1) ps))
    ∙ and_from _ _ (held-named H names topic p.1 named.0) (all-held H names topic ps named.1)

all-named : (H : History) (topic : Text) → are_named (names_of H) (flat_map (held_documents H topic) (live H)) ≡ true
all-named H topic = all-held H (names_of H) topic (numbered_runs H) (numbered-named H)

-- The numbers of a pool are those of names.

numbers-there : (H : History) (topic : Text) (ps : List (ℕ × Run)) → Each (λ p. are_named (names_of H) (docnos p.1.lists) ≡ true) ps
    → All (λ h. All (λ doc. doc.0 < length (names_of H)) h.docs) (map (held_of H topic) ps)
numbers-there H topic [] named = λ k d within. absurd (omega (arith, within))
numbers-there H topic (p ∷ ps) named =
    All-cons (λ (h : Held). All (λ doc. doc.0 < length (names_of H)) h.docs) (held_of H topic p) (map (held_of H topic) ps)
    (numbers-within (names_of H) (held_documents H topic p.1) (held-named H (names_of H) topic p.1 named.0))
    (numbers-there H topic ps named.1)

pub pool-numbers : (H : History) (topic : Text) → All (λ h. All (λ doc. doc.0 < length (names_of H)) h.docs) (pool_of H topic)
pool-numbers H topic = numbers-there H topic (numbered_runs H) (numbered-named H)

-- The documents of a pool are those of the rules' pool.

abbrev is_doc : List Text → DocId → Text → Bool
is_doc names doc text = (doc_in names text).0 == doc.0

held_by : (H : History) (topic : Text) (doc : DocId) (ps : List (ℕ × Run))
    → some_run_holds doc (map (held_of H topic) ps) ≡ list_any (is_doc (names_of H) doc) (flat_map (held_documents H topic) (map (λ p. p.1) ps))
held_by H topic doc [] = refl
held_by H topic doc (p ∷ ps) =
    ap (λ t. t || some_run_holds doc (map (held_of H topic) ps))
    (any_map (λ (other : DocId). other.0 == doc.0) (doc_in (names_of H)) (held_documents H topic p.1))
    ∙ ap (λ t. list_any (is_doc (names_of H) doc) (held_documents H topic p.1) || t) (held_by H topic doc ps)
    ∙ sym (list_any-append (is_doc (names_of H) doc) (held_documents H topic p.1) (flat_map (held_documents H topic) (map (λ (p : ℕ × Run). p.1) ps)))

pub same-docs : (H : History) (topic : Text) (doc : DocId) → some_run_holds doc (pool_of H topic) ≡ has_doc doc (docs_in (names_of H) (pool H topic))
same-docs H topic doc =
    held_by H topic doc (numbered_runs H)
    ∙ sym (in_order-any (is_doc (names_of H) doc) (flat_map (held_documents H topic) (live H)))
    ∙ sym (any_map (λ (other : DocId). other.0 == doc.0) (doc_in (names_of H)) (pool H topic))

abbrev before : List Text → DocId → DocId → Type 0
before names a b = is_lt (slice_cmp nat_cmp (docno_of names a.0) (docno_of names b.0)) ≡ true

all-before : (names : List Text) (x : Text) (xs : List Text) → contains_text names x ≡ true → are_named names xs ≡ true
    → list_all (below x) xs ≡ true → All (before names (doc_in names x)) (docs_in names xs)
all-before names x [] here named all = λ k d within. absurd (omega (arith, within))
all-before names x (y ∷ ys) here named all =
    let first : is_lt (slice_cmp nat_cmp (docno_of names (doc_in names x).0) (docno_of names (doc_in names y).0)) ≡ true =
    rw (docno-back names x here, docno-back names y (all_head (contains_text names) y ys named)) (all_head (below x) y ys all) in
    All-cons (before names (doc_in names x)) (doc_in names y) (docs_in names ys) first
    (all-before names x ys here (all_tail (contains_text names) y ys named) (all_tail (below x) y ys all))

by-docno : (names xs : List Text) → are_named names xs ≡ true → Rises xs → AreByDocno names (docs_in names xs)
by-docno names [] named up = λ i j d less within. absurd (omega (arith, within))
by-docno names (x ∷ xs) named up =
    AllPairs-cons (before names) (doc_in names x) (docs_in names xs)
    (all-before names x xs (all_head (contains_text names) x xs named) (all_tail (contains_text names) x xs named) up.0)
    (by-docno names xs (all_tail (contains_text names) x xs named) up.1)

pub pool-named : (H : History) (topic : Text) → are_named (names_of H) (pool H topic) ≡ true
pool-named H topic = in_order-all (contains_text (names_of H)) (flat_map (held_documents H topic) (live H)) (all-named H topic)

-- documents by docno that are those of the pool
pub pool-texts : (H : History) (topic : Text) (docs : List DocId) (held_runs : List Held)
    → ((names : List (List ℕ)) (docs others : List DocId) → AreByDocno names docs → AreByDocno names others
    → ((doc : DocId) → has_doc doc docs ≡ has_doc doc others) → docs ≡ others)
    → held_runs ≡ pool_of H topic
    → AreByDocno (names_of H) docs → ((doc : DocId) → has_doc doc docs ≡ some_run_holds doc held_runs)
    → map (λ doc. docno_of (names_of H) doc.0) docs ≡ pool H topic
pool-texts H topic docs held_runs one_list runs_are sorted each =
    let same : docs ≡ docs_in (names_of H) (pool H topic) =
    one_list (names_of H) docs (docs_in (names_of H) (pool H topic)) sorted
    (by-docno (names_of H) (pool H topic) (pool-named H topic) (in_order-rises (flat_map (held_documents H topic) (live H))))
    (λ doc. each doc ∙ ap (some_run_holds doc) runs_are ∙ same-docs H topic doc) in
    ap (map (λ doc. docno_of (names_of H) doc.0)) same ∙ docnos-back (names_of H) (pool H topic) (pool-named H topic)

-- The topic of an id.

abbrev pub Looked : History → List Topic → Text → Option TopicFacts → Type 0
Looked H ts id None = list_any (λ t. bytes_eq t.id id) ts ≡ false
Looked H ts id (Some s) = (list_any (λ t. bytes_eq t.id id) ts ≡ true) × (kept_topic s ≡ kept_topic_of H id)

wider : (H : History) (t : Topic) (ts : List Topic) (id : Text) (o : Option TopicFacts) → bytes_eq t.id id ≡ false → Looked H ts id o → Looked H (t ∷ ts) id o
wider H t ts id None other w = rw other w
wider H t ts id (Some s) other w = (rw other w.0, w.1)

look_step : (H : History) (s : TopicFacts) (t : Topic) (ts : List Topic) (id : Text) (rest o : Option TopicFacts) (b : Bool)
    → kept_topic s ≡ kept_topic_of H t.id → bytes_eq s.id id ≡ b → cond b (Some s) rest ≡ o → (rest ≡ o → Looked H ts id o) → Looked H (t ∷ ts) id o
look_step H s t ts id rest o true same is found later =
    let ids : s.id ≡ t.id = ap (λ (k : KeptTopic). k.id) same in
    let here : s.id ≡ id = (bytes_eq-Decides s.id id).0 is in
    let yes : bytes_eq t.id id ≡ true = sym (ap (λ i. bytes_eq i id) ids) ∙ is in
    subst (Looked H (t ∷ ts) id) found (ap (λ t'. t' || list_any (λ t. bytes_eq t.id id) ts) yes, same ∙ ap (kept_topic_of H) (sym ids ∙ here))
look_step H s t ts id rest o false same is found later =
    let ids : s.id ≡ t.id = ap (λ (k : KeptTopic). k.id) same in
    wider H t ts id o (sym (ap (λ i. bytes_eq i id) ids) ∙ is) (later found)

pub look : (H : History) (states : List TopicFacts) (ts : List Topic) (id : Text) → map kept_topic states ≡ map (kept_topic_of H) (map (λ t. t.id) ts)
    → (o : Option TopicFacts) → find (λ s. bytes_eq s.id id) states ≡ o → Looked H ts id o
look H [] [] id same None found = refl
look H [] [] id same (Some s) found = cc found
look H [] (t ∷ ts) id same o found = cc same
look H (s ∷ states) [] id same o found = cc same
look H (s ∷ states) (t ∷ ts) id same o found =
    let head : kept_topic s ≡ kept_topic_of H t.id = cc same in
    let tail : map kept_topic states ≡ map (kept_topic_of H) (map (λ t. t.id) ts) = cc same in
    look_step H s t ts id (find (λ s. bytes_eq s.id id) states) o (bytes_eq s.id id) head refl found (look H states ts id tail o)

pub pool-unknown : (H : History) (topic : Text) → is_topic H topic ≡ false → reply.Refused refusal.UnknownTopic ≡ reply_of (pool_outcome H topic)
pool-unknown H topic unknown = rw unknown refl

pub pool-told : (H : History) (topic : Text) (texts : List Text) → is_topic H topic ≡ true → texts ≡ pool H topic
    → reply.Pool topic texts ≡ reply_of (pool_outcome H topic)
pool-told H topic texts known is = ap (λ texts. reply.Pool topic texts) is ∙ rw known refl
