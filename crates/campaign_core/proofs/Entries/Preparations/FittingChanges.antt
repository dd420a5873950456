-- What a change rests on that carries out an accepted entry.
use Rattle.std.proofs.Common.{◌≡◌, ◌<◌, ◌≤◌, ◌+◌, ◌^◌, ℕ, suc, zero, true, false, List, ◌∷◌, [], Option, None, Some, Ok, length, map, get_or, subst, arith, sym, ap, ◌∙◌, lit≤}
use Rattle.std.specs.Prelude.{All, slice_get}
use Rattle.std.specs.Option.{IsSomeAnd, option_and_then}
use Rattle.std.proofs.lemmas.List.{length-map}
use Rattle.std.proofs.lemmas.List.Elements.{All-cons}
use Rattle.std.proofs.lemmas.Bool.{and_parts}
use Rattle.std.proofs.lemmas.Option.{slice_get_past}
use Rattle.decimal_rank.specs.declared.naming.DocId.{DocId}
use Rattle.decimal_rank.proofs.Lists.{at-some}
use Rattle.depth_pool.specs.declared.runs.RunId.{RunId}
use Rattle.depth_pool.specs.Holdings.{has_run}
use Rattle.labels.specs.LabelledDocuments.{is_labelled_document}
use Rattle.assessment.specs.Changes.{Facts, Fits}
use Rattle.assessment.specs.TopicFacts.{MayLabel, MayRule, TopicFacts}
use Rattle.assessment.specs.declared.change.Change.{Change}
use Rattle.assessment.specs.declared.change.Change.TheVariants as change
use Rattle.rulebook.specs.declared.entry.Entry.{Entry}
use Rattle.rulebook.specs.declared.limits.TheConstants.{MAX_ENTRIES}
use Rattle.rulebook.specs.Answers.{command_outcome}
use Rattle.rulebook.specs.Words.{Text, contains_text}
use Rattle.rulebook.specs.Campaign.{History, Run, docnos_with, is_withdrawn, runs}
use Rattle.rulebook.specs.Judgements.Grades.{is_labelled}
use Rattle.rulebook.specs.Judgements.Leases.{Lease, leases}
use Rattle.campaign_core.specs.Commands.Changes.{CarriesOut}
use Rattle.campaign_core.specs.Growth.{lists_in}
use Rattle.campaign_core.specs.CampaignStates.{HasFewLabels, IsAssessmentOf}
use Rattle.campaign_core.specs.Assessments.TopicLabelling.{IsLabelled}
use Rattle.campaign_core.specs.Assessments.DeskLeases.{is_known, topic_in}
use Rattle.campaign_core.specs.Numbering.Numbers.{doc_in, names_of}
use Rattle.campaign_core.specs.Assessments.RunScores.{list_in, run_at, unless_withdrawn}
use Rattle.campaign_core.specs.Assessments.Topics.{KeptTopic, kept_topic, kept_topic_of, labelled_of, pool_of, topic_ids}
use Rattle.campaign_core.proofs.Rulings.AcceptedCommands.{numbered-all, rule-told, withdraw-told}
use Rattle.campaign_core.proofs.Entries.Judgements.LabelSteps.{marked-there}
use Rattle.campaign_core.proofs.Entries.Judgements.LeaseSteps.{desk-long}
use Rattle.campaign_core.proofs.Lists.Elements.{get-map}
use Rattle.campaign_core.proofs.Numbers.DocNumbers.{docno-back, number-within}
use Rattle.campaign_core.proofs.Numbers.TopicIds.{same-names}
use Rattle.campaign_core.proofs.Entries.Runs.ListSteps.{none-listed}
use Rattle.campaign_core.proofs.Entries.Runs.PoolSteps.{not-in, numbers-below, pool-has}
use Rattle.campaign_core.proofs.Rulings.LeaseRulings.{few-leases}
use Rattle.campaign_core.proofs.Rulings.RunRulings.{run-found}
use Rattle.campaign_core.proofs.Numbers.RunPlaces.{no_run}

pub topic-at : (H : History) (ts : List TopicFacts) (ids : List Text) (k : ℕ) (d : TopicFacts) → map kept_topic ts ≡ map (kept_topic_of H) ids
    → k < length ts → kept_topic (get_or ts k d) ≡ kept_topic_of H (get_or ids k [])
topic-at H [] ids k d same within = absurd (omega (arith, within))
topic-at H (t ∷ ts) [] k d same within = cc same
topic-at H (t ∷ ts) (id ∷ ids) zero d same within = let head : kept_topic t ≡ kept_topic_of H id = cc same in head
topic-at H (t ∷ ts) (id ∷ ids) (suc k) d same within =
    topic-at H ts ids k d (let rest : map kept_topic ts ≡ map (kept_topic_of H) ids = cc same in rest) (omega (arith, within))

pub as-many : (H : History) (ts : List TopicFacts) (ids : List Text) → map kept_topic ts ≡ map (kept_topic_of H) ids → length ts ≡ length ids
as-many H ts ids same = sym (length-map ts kept_topic) ∙ ap length same ∙ length-map ids (kept_topic_of H)

pub some-topic : {X : Type 0} (xs : List X) (i : ℕ) → i < length xs → X
some-topic [] i within = absurd (omega (arith, within))
some-topic (x ∷ xs) i within = x

pub runs-below : (H : History) (ts : List TopicFacts) (ids : List Text) (run : RunId) → map kept_topic ts ≡ map (kept_topic_of H) ids
    → run.0 ≡ length (runs H) → All (λ t. has_run run t.pool ≡ false) ts
runs-below H [] ids run same number = λ k d within. absurd (omega (arith, within))
runs-below H (t ∷ ts) [] run same number = cc same
runs-below H (t ∷ ts) (id ∷ ids) run same number =
    let head : kept_topic t ≡ kept_topic_of H id = cc same in
    let tail : map kept_topic ts ≡ map (kept_topic_of H) ids = cc same in
    let runs_are : t.pool ≡ pool_of H id = ap (λ (k : KeptTopic). k.runs) head in
    All-cons (λ (t : TopicFacts). has_run run t.pool ≡ false) t ts
    (ap (has_run run) runs_are ∙ not-in run (pool_of H id) (numbers-below H id run number))
    (runs-below H ts ids run tail number)

-- a live run is on each topic
runs-entered : (H : History) (ts : List TopicFacts) (ids : List Text) (run : RunId) (r : Run) → map kept_topic ts ≡ map (kept_topic_of H) ids
    → slice_get (runs H) run.0 ≡ Some r → is_withdrawn H r.name ≡ false
    → All (λ t. has_run run t.pool ≡ true) ts
runs-entered H [] ids run r same there live = λ k d within. absurd (omega (arith, within))
runs-entered H (t ∷ ts) [] run r same there live = cc same
runs-entered H (t ∷ ts) (id ∷ ids) run r same there live =
    let head : kept_topic t ≡ kept_topic_of H id = cc same in
    let tail : map kept_topic ts ≡ map (kept_topic_of H) ids = cc same in
    let runs_are : t.pool ≡ pool_of H id = ap (λ (k : KeptTopic). k.runs) head in
    All-cons (λ (t : TopicFacts). has_run run t.pool ≡ true) t ts (ap (has_run run) runs_are ∙ pool-has H id run r there live)
    (runs-entered H ts ids run r tail there live)

few-entries : MAX_ENTRIES + 2 ≤ 2 ^ 32
few-entries = lit≤ tt

module _ (H : History) (known : Facts) (is : IsAssessmentOf H known) where
  abbrev ts : List TopicFacts
  ts = known.topics.topics

  pub within-topics : (number : ℕ) (id : Text) → number ≡ topic_in (topic_ids H) id → contains_text (topic_ids H) id ≡ true → number < length ts
  within-topics number id number_is listed =
      let inside : topic_in (topic_ids H) id < length (topic_ids H) = number-within (topic_ids H) id listed in
      omega (arith, number_is, inside, as-many H ts (topic_ids H) is.knows.topics_are)

  few-there : (number : ℕ) (d : TopicFacts) → number < length ts → HasFewLabels (length H) (labelled_of (get_or ts number d))
  few-there number d within =
      subst (HasFewLabels (length H)) (get-map labelled_of ts number d) (is.few number (labelled_of d) (omega (arith, within, length-map ts labelled_of)))

  -- the next run has no list yet
  no-list : (run : RunId) → run.0 ≡ length (runs H) → (on : ℕ) → known.topics.lists run on ≡ None
  no-list run number on =
      let none : run_at H run ≡ None = ap (option_and_then (unless_withdrawn H)) (slice_get_past (runs H) run.0 (omega (arith, number))) in
      is.lists_are run on ∙ ap (λ (o : Option Run). list_in (names_of H) (topic_ids H) o on) none ∙ none-listed (names_of H) (topic_ids H) on

  module _ (entries_fit : length H < MAX_ENTRIES) where
    may-label : (number : ℕ) (id : Text) (at : DocId) → number ≡ topic_in (topic_ids H) id
        → contains_text (topic_ids H) id ≡ true → IsSomeAnd (slice_get ts number) (MayLabel at)
    may-label number id at number_is listed =
        let within = within-topics number id number_is listed in
        let d : TopicFacts = some-topic ts number within in
        let few = few-there number d within in
        at-some (MayLabel at) ts number d within
        (record {
          few_labels = omega (arith, few-entries, entries_fit, few.few_labels at);
          few_grades = omega (arith, few-entries, entries_fit, few.few_grades);
        })

    may-rule : (number : ℕ) (id doc : Text) (at : DocId) → number ≡ topic_in (topic_ids H) id → contains_text (topic_ids H) id ≡ true
        → at ≡ doc_in (names_of H) doc → contains_text (names_of H) doc ≡ true
        → is_labelled H id doc ≡ true → IsSomeAnd (slice_get ts number) (MayRule at)
    may-rule number id doc at number_is listed at_is named has_label =
        let within = within-topics number id number_is listed in
        let d : TopicFacts = some-topic ts number within in
        let t : TopicFacts = get_or ts number d in
        let few = few-there number d within in
        let ids_at : get_or (topic_ids H) number [] ≡ id = ap (λ n. get_or (topic_ids H) n []) number_is ∙ docno-back (topic_ids H) id listed in
        let id_is : t.id ≡ id = ap (λ (k : KeptTopic). k.id) (topic-at H ts (topic_ids H) number d is.knows.topics_are within) ∙ ids_at in
        let labelled : IsLabelled H (names_of H) (labelled_of t) =
        subst (IsLabelled H (names_of H)) (get-map labelled_of ts number d)
        (is.knows.labels_are number (labelled_of d) (omega (arith, within, length-map ts labelled_of))) in
        let marked : is_labelled_document t.marked at ≡ true =
        ap (is_labelled_document t.marked) at_is ∙ marked-there H (labelled_of t) doc labelled named (ap (λ i. is_labelled H i doc) id_is ∙ has_label) in
        at-some (MayRule at) ts number d within (record { labelled = marked; few_grades = omega (arith, few-entries, entries_fit, few.few_grades) })

    pub fits : (names : List Text) (e : Entry) (c : Change) → command_outcome H e.core.caller e.core.moment e.core.command ≡ Ok e.reply
        → names ≡ docnos_with H (lists_in e.core.command) → CarriesOut H names ts known.leases e c → Fits c known
    fits names e change.Nothing accepted names_are out = tt
    fits names e (change.Topics made) accepted names_are (given, command_is, kept_is, labelled_is, is_new) = is_new.no_room
    fits names e (change.Run run lists) accepted names_are (name, given, command_is, number, lists_are) = (
      record { on_topics = runs-below H ts (topic_ids H) run is.knows.topics_are number; on_board = no-list run number },
      ap length lists_are ∙ length-map ts _,
    )
    fits names e (change.Withdraw run) accepted names_are (name, command_is, number) =
        let told = withdraw-told H e.core.caller name e.reply (rw command_is at accepted) in
        let found = run-found H name run.0 number in
        runs-entered H ts (topic_ids H) run (get_or (runs H) run.0 no_run) is.knows.topics_are found.there (ap (is_withdrawn H) found.name_is ∙ told.live)
    fits names e (change.Lease grant) accepted names_are w = omega (arith, few-entries, entries_fit, few-leases H, desk-long H known.leases is.knows.leased)
    fits names e (change.Grade number label) accepted names_are w =
        let all = numbered-all (is_known H (names_of H)) H number w.lease is.knows.leased.are_known w.found in
        let both = and_parts (contains_text (names_of H) w.lease.doc) (contains_text (topic_ids H) w.lease.topic) all in
        (w.unended, may-label label.topic w.lease.topic label.doc w.topic_is both.1)
    fits names e (change.Release number) accepted names_are (command_is, unended) = unended
    fits names e (change.Amend label) accepted names_are (topic, doc, command_is, assessor_is, w) = may-label label.topic topic label.doc w.number_is w.listed
    fits names e (change.Rule ruling) accepted names_are (topic, doc, command_is, w) =
        let told = rule-told H topic doc ruling.grade e.reply (rw command_is at accepted) in
        let N : names ≡ names_of H = same-names H names e.core (ap lists_in command_is) names_are in
        may-rule ruling.topic topic doc ruling.doc w.number_is w.listed (w.at_is ∙ ap (λ ns. doc_in ns doc) N)
        (ap (λ ns. contains_text ns doc) (sym N) ∙ w.doc_named) told.has_label
