-- The document that the judging order names by numbers is the one that the rules name.
use Rattle.std.proofs.Common.{◌≡◌, ◌&&◌, ◌||◌, ◌+◌, ℕ, Bool, true, false, not, cond, List, [], ◌∷◌, Option, Some, None, length, map, filter, find, refl, sym, ap, ◌∙◌, is_some}
use Rattle.std.specs.Prelude.{nat_lt, IsPermutation}
use Rattle.std.specs.List.{list_any}
use Rattle.std.specs.Option.{option_and_then, option_map, option_or}
use Rattle.decimal_rank.specs.declared.naming.DocId.{DocId}
use Rattle.decimal_rank.proofs.Lists.{all_head, all_tail}
use Rattle.depth_pool.specs.Holdings.{Held, pool_docs}
use Rattle.depth_pool.specs.declared.runs.RunId.{RunId}
use Rattle.labels.specs.declared.given.Given.{Given}
use Rattle.labels.specs.Grades.{effective_grade}
use Rattle.labels.specs.DocumentLabels.{grades_of, has_label}
use Rattle.labels.specs.LabelledDocuments.{LabelledDocument, ruling_at}
use Rattle.lease_desk.specs.Leases.{has_live, live_on}
use Rattle.lease_desk.specs.declared.leases.Lease.{Lease as DeskLease}
use Rattle.mtf_queue.specs.Rule.{IsInOrder, first_by_trail as first_there}
use Rattle.mtf_queue.specs.declared.rule.Judged.{Judged}
use Rattle.qrels_view.specs.declared.grades.Graded.{Graded}
use Rattle.rulebook.specs.Words.{Text, contains_text}
use Rattle.rulebook.specs.Campaign.{History, Run, held_documents, level, need, numbered_runs}
use Rattle.rulebook.specs.Judgements.Grades.{labels_on, last_ruling, trail}
use Rattle.rulebook.specs.Judgements.JudgingOrder.{first_of, holds_open, is_open_to, named_document}
use Rattle.rulebook.specs.Judgements.Leases.{has_lease}
use Rattle.campaign_core.specs.Assessments.TopicLabelling.{IsLabelled, graded_in}
use Rattle.campaign_core.specs.Assessments.DeskLeases.{IsLeased, first_open, is_open_in, topic_in}
use Rattle.campaign_core.specs.Numbering.Numbers.{are_named, doc_in, docs_in, names_of}
use Rattle.campaign_core.specs.Assessments.Topics.{pool_of, topic_ids}
use Rattle.assessment.specs.TopicFacts.{judged_of}
use Rattle.campaign_core.proofs.NamedDocuments.LiveLeases.{has-lease-same, live-on-same}
use Rattle.campaign_core.proofs.NamedDocuments.RunOrder.{IsRunOf, first-same, number_of_run, run-numbers, runs-of-pool}
use Rattle.campaign_core.proofs.Lists.Elements.{Each, each-filter, each-found}

-- Of documents the first one that passes a test.

module _ (names : List Text) (passes_there : DocId → Bool) (passes : Text → Bool)
    (each : (doc : Text) → contains_text names doc ≡ true → passes_there (doc_in names doc) ≡ passes doc) where
  find-same : (docs : List Text) → are_named names docs ≡ true → find passes_there (docs_in names docs) ≡ option_map (doc_in names) (find passes docs)
  find-same [] all = refl
  find-same (doc ∷ docs) all =
      ap (λ t. cond t (Some (doc_in names doc)) (find passes_there (docs_in names docs))) (each doc (all_head (contains_text names) doc docs all))
      ∙ step (passes doc) (find-same docs (all_tail (contains_text names) doc docs all))
    where
      step : (t : Bool) → find passes_there (docs_in names docs) ≡ option_map (doc_in names) (find passes docs)
          → cond t (Some (doc_in names doc)) (find passes_there (docs_in names docs)) ≡ option_map (doc_in names) (cond t (Some doc) (find passes docs))
      step true rest = refl
      step false rest = rest

some-any : {X : Type 0} (p : X → Bool) (xs : List X) → is_some (find p xs) ≡ list_any p xs
some-any p [] = refl
some-any p (x ∷ xs) = step (p x) (some-any p xs)
  where
    step : (t : Bool) → is_some (find p xs) ≡ list_any p xs → is_some (cond t (Some x) (find p xs)) ≡ (t || list_any p xs)
    step true rest = refl
    step false rest = rest

some-map : {X Y : Type 0} (f : X → Y) (o : Option X) → is_some (option_map f o) ≡ is_some o
some-map f None = refl
some-map f (Some x) = refl

pub found-named : (names : List Text) (passes : Text → Bool) (docs : List Text) (doc : Text) → are_named names docs ≡ true
    → find passes docs ≡ Some doc → contains_text names doc ≡ true
found-named names passes [] doc all found = cc found
found-named names passes (x ∷ docs) doc all found = step (passes x) found (found-named names passes docs doc (all_tail (contains_text names) x docs all))
  where
    step : (t : Bool) → cond t (Some x) (find passes docs) ≡ Some doc → (find passes docs ≡ Some doc → contains_text names doc ≡ true)
        → contains_text names doc ≡ true
    step true is rest = let same : x ≡ doc = cc is in ap (contains_text names) (sym same) ∙ all_head (contains_text names) x docs all
    step false is rest = rest is

-- the first open document is that of the first run that holds one
first-open : (is_open : DocId → Bool) (runs : List Held) (order : List RunId)
    → first_open is_open runs order ≡ option_and_then (λ r. find is_open (pool_docs runs r)) (find (λ r. is_some (find is_open (pool_docs runs r))) order)
first-open is_open runs [] = refl
first-open is_open runs (run ∷ order) = step (find is_open (pool_docs runs run)) refl (first-open is_open runs order)
  where
    step : (o : Option DocId) → find is_open (pool_docs runs run) ≡ o
        → first_open is_open runs order ≡ option_and_then (λ r. find is_open (pool_docs runs r)) (find (λ r. is_some (find is_open (pool_docs runs r))) order)
        → option_or o (first_open is_open runs order)
        ≡ option_and_then (λ r. find is_open (pool_docs runs r)) (cond (is_some o) (Some run) (find (λ r. is_some (find is_open (pool_docs runs r))) order))
    step None is rest = rest
    step (Some doc) is rest = sym is

module _ (H : History) (id : Text) (marked : List LabelledDocument) (graded : List Graded) (desk : List DeskLease) (now : ℕ) (assessor : Text)
    (leased : IsLeased H (names_of H) desk) (labelled : IsLabelled H (names_of H) (record { id = id; marked = marked; graded = graded }))
    (listed : contains_text (topic_ids H) id ≡ true) where
  abbrev open_there : DocId → Bool
  open_there = is_open_in (need H id) marked desk (topic_in (topic_ids H) id) now assessor

  abbrev passes_there : RunId → Bool
  passes_there r = is_some (find open_there (pool_docs (pool_of H id) r))

  abbrev open_by : List Given → Option ℕ → Bool → ℕ → Bool
  open_by given ruled leased live =
      not (is_some (effective_grade (need H id) (grades_of given) ruled)) && not (has_label assessor given)
      && not leased && nat_lt (length given + live) (need H id)

  -- a document is open by its number where it is open
  open-same : (doc : Text) → contains_text (names_of H) doc ≡ true → open_there (doc_in (names_of H) doc) ≡ is_open_to H now assessor id doc
  open-same doc known =
      let d : DocId = doc_in (names_of H) doc in
      let n : ℕ = topic_in (topic_ids H) id in
      ap (λ given. open_by given (ruling_at marked d) (has_live desk assessor n d now) (live_on desk n d now)) (labelled.given_are doc known)
      ∙ ap (λ ruled. open_by (labels_on H id doc) ruled (has_live desk assessor n d now) (live_on desk n d now)) (labelled.rulings_are doc known)
      ∙ ap (λ t. open_by (labels_on H id doc) (last_ruling H id doc) t (live_on desk n d now))
      (has-lease-same H (names_of H) desk now id doc assessor leased listed known)
      ∙ ap (λ live. open_by (labels_on H id doc) (last_ruling H id doc) (has_lease H now id doc assessor) live)
      (live-on-same H (names_of H) desk now id doc leased listed known)

  run-open : (p : ℕ × Run) → IsRunOf H id (pool_of H id) p → find open_there (pool_docs (pool_of H id) (number_of_run p))
      ≡ option_map (doc_in (names_of H)) (find (is_open_to H now assessor id) (held_documents H id p.1))
  run-open p is =
      ap (find open_there) is.docs_are
      ∙ find-same (names_of H) open_there (is_open_to H now assessor id) open-same (held_documents H id p.1) is.docs_named

  run-passes : (p : ℕ × Run) → IsRunOf H id (pool_of H id) p → passes_there (number_of_run p) ≡ holds_open H now assessor id p
  run-passes p is =
      ap (λ (o : Option DocId). is_some o) (run-open p is)
      ∙ some-map (doc_in (names_of H)) (find (is_open_to H now assessor id) (held_documents H id p.1))
      ∙ some-any (is_open_to H now assessor id) (held_documents H id p.1)

  candidates-same : (ps : List (ℕ × Run)) → Each (IsRunOf H id (pool_of H id)) ps
      → filter passes_there (map number_of_run ps) ≡ map number_of_run (filter (holds_open H now assessor id) ps)
  candidates-same [] all = refl
  candidates-same (p ∷ ps) all =
      ap (λ t. cond t (number_of_run p ∷ filter passes_there (map number_of_run ps)) (filter passes_there (map number_of_run ps))) (run-passes p all.0)
      ∙ step (holds_open H now assessor id p) (candidates-same ps all.1)
    where
      step : (t : Bool) → filter passes_there (map number_of_run ps) ≡ map number_of_run (filter (holds_open H now assessor id) ps)
          → cond t (number_of_run p ∷ filter passes_there (map number_of_run ps)) (filter passes_there (map number_of_run ps))
          ≡ map number_of_run (cond t (p ∷ filter (holds_open H now assessor id) ps) (filter (holds_open H now assessor id) ps))
      step true rest = ap (λ rs. number_of_run p ∷ rs) rest
      step false rest = rest

  abbrev candidates : List (ℕ × Run)
  candidates = filter (holds_open H now assessor id) (numbered_runs H)

  each-candidate : Each (IsRunOf H id (pool_of H id)) candidates
  each-candidate = each-filter (IsRunOf H id (pool_of H id)) (holds_open H now assessor id) (numbered_runs H) (runs-of-pool H id)

  -- what is open in the first of the candidates
  last-step : (o : Option (ℕ × Run)) → ((p : ℕ × Run) → o ≡ Some p → IsRunOf H id (pool_of H id) p)
      → option_and_then (λ r. find open_there (pool_docs (pool_of H id) r)) (option_map number_of_run o)
      ≡ option_map (doc_in (names_of H)) (option_and_then (λ (run : ℕ × Run). find (is_open_to H now assessor id) (held_documents H id run.1)) o)
  last-step None is = refl
  last-step (Some p) is = run-open p (is p refl)

  first-found : (p : ℕ × Run) → first_of H id candidates ≡ Some p → IsRunOf H id (pool_of H id) p
  first-found p found = each-found (IsRunOf H id (pool_of H id)) _ candidates p each-candidate found

  named-step : (o : Option (ℕ × Run)) (doc : Text) → ((p : ℕ × Run) → o ≡ Some p → IsRunOf H id (pool_of H id) p)
      → option_and_then (λ (run : ℕ × Run). find (is_open_to H now assessor id) (held_documents H id run.1)) o ≡ Some doc
      → contains_text (names_of H) doc ≡ true
  named-step None doc is found = cc found
  named-step (Some p) doc is found = found-named (names_of H) (is_open_to H now assessor id) (held_documents H id p.1) doc (is p refl).docs_named found

  -- the document that is named has a number
  pub named-known : (doc : Text) → named_document H now assessor id ≡ Some doc → contains_text (names_of H) doc ≡ true
  named-known doc found = named-step (first_of H id candidates) doc first-found found

  module _ (judged : List Judged) (order : List RunId) (judged_are : judged ≡ map (judged_of (level H id)) graded)
      (sorted : IsInOrder (pool_of H id) judged order) (runs_are : IsPermutation (map (λ (h : Held). h.run) (pool_of H id)) order)
      (first_passes : (runs : List Held) (trail : List Judged) (order all : List RunId) (passes : RunId → Bool) → IsInOrder runs trail order
      → IsPermutation all order → find passes order ≡ first_there runs trail (filter passes all)) where
    judged-from : judged ≡ map (judged_of (level H id)) (map (graded_in H (names_of H) id) (trail H id))
    judged-from = judged_are ∙ ap (map (judged_of (level H id))) labelled.graded_are

    -- the first open document of the judging order is the one that is named
    pub named-same : first_open open_there (pool_of H id) order ≡ option_map (doc_in (names_of H)) (named_document H now assessor id)
    named-same =
        let runs : List RunId = map (λ (h : Held). h.run) (pool_of H id) in
        first-open open_there (pool_of H id) order
        ∙ ap (option_and_then (λ r. find open_there (pool_docs (pool_of H id) r)))
        (first_passes (pool_of H id) judged order runs passes_there sorted runs_are
        ∙ ap (λ rs. first_there (pool_of H id) judged (filter passes_there rs)) (run-numbers H id (numbered_runs H))
        ∙ ap (first_there (pool_of H id) judged) (candidates-same (numbered_runs H) (runs-of-pool H id))
        ∙ first-same H id judged labelled.trail_named judged-from candidates each-candidate)
        ∙ last-step (first_of H id candidates) first-found
