-- What holds after an entry that gives no topics, no run and no docnos, and withdraws no run.
use Rattle.std.proofs.Common.{◌≡◌, ◌≢◌, ◌≤◌, ◌+◌, ℕ, false, List, ◌++◌, ◌∷◌, [], Option, None, length, map, get_or, set, length-append, subst, arith, refl, sym, ap, ◌∙◌}
use Rattle.std.specs.Prelude.{All}
use Rattle.std.proofs.lemmas.List.{append-nil}
use Rattle.depth_pool.specs.declared.runs.RunId.{RunId}
use Rattle.trec_formats.specs.declared.Topic.{Topic}
use Rattle.rulebook.specs.declared.limits.TheConstants.{MAX_RUNS}
use Rattle.rulebook.specs.declared.ask.Command.TheVariants as command
use Rattle.rulebook.specs.declared.entry.Entry.{Entry}
use Rattle.rulebook.specs.declared.reply.Reply.TheVariants as reply
use Rattle.rulebook.specs.declared.rules.Rules.{Rules}
use Rattle.rulebook.specs.declared.rules.Phase.TheVariants.{Collecting}
use Rattle.rulebook.specs.Words.{Text, each_once}
use Rattle.rulebook.specs.Campaign.{History, Run, docnos, has_topics, is_withdrawn, level, level_in, phase, run_in, runs, submitted_docnos, topics, topics_in, withdraws}
use Rattle.rulebook.specs.Histories.Entries.{AreKept, IsQuiet}
use Rattle.rulebook.specs.Judgements.Grades.{label_in, ruling_in}
use Rattle.rulebook.specs.Judgements.LeaseEntries.{end_in}
use Rattle.rulebook.specs.Judgements.Leases.{lease_in, leases}
use Rattle.rulebook.specs.Spelling.{differ}
use Rattle.campaign_core.specs.Growth.{lists_in}
use Rattle.campaign_core.specs.CampaignStates.{HasFewLabels, IsAssessmentOf, IsKnown, IsUnjudged}
use Rattle.campaign_core.specs.Assessments.TopicLabelling.{IsLabelled}
use Rattle.campaign_core.specs.Assessments.DeskLeases.{IsLeased}
use Rattle.campaign_core.specs.Numbering.Numbers.{names_of}
use Rattle.campaign_core.specs.Commands.Changes.{phase_after}
use Rattle.campaign_core.specs.Assessments.RunScores.{list_in, run_at}
use Rattle.campaign_core.specs.Numbering.Submissions.{RunsAreKnown}
use Rattle.campaign_core.specs.Assessments.Topics.{LabelledTopic, kept_topic, kept_topic_of, labelled_of, topic_ids}
use Rattle.campaign_core.specs.declared.campaign.Campaign.{Campaign}
use Rattle.assessment.specs.Changes.{after_change, facts}
use Rattle.assessment.specs.TopicFacts.{TopicFacts}
use Rattle.assessment.specs.TopicsFacts.{at_place}
use Rattle.assessment.specs.declared.change.Change.{Change}
use Rattle.lease_desk.specs.declared.leases.Lease.{Lease as DeskLease}
use Rattle.rulebook.specs.declared.ask.Command.{Command}
use Rattle.campaign_core.proofs.Entries.HistoryGrowth.{submitted_docnos-push}
use Rattle.campaign_core.proofs.Lists.Elements.{map-at_place, map-at_same}
use Rattle.campaign_core.proofs.Entries.Runs.RunNames.{known-stays}
use Rattle.campaign_core.proofs.Entries.Runs.LiveRuns.{none-withdrawn, numbered-stays, run-at-stays}
use Rattle.campaign_core.proofs.Entries.Runs.PoolSteps.{topics-stay}
use Rattle.campaign_core.proofs.Entries.Judgements.QuietEntries.{leased-stays, no-lease, none-ended}
use Rattle.campaign_core.proofs.Entries.PhaseSteps.{had-none, no-run, rules-stay, same-topics}
use Rattle.campaign_core.proofs.Entries.EntryLaws.{Laws}
use Rattle.campaign_core.proofs.Entries.Judgements.LabelledTopics.{all-few, same-labels, topics_of}

-- What holds after the entry, once its change is made.
pub record IsCarriedOut (s : Campaign) (e : Entry) (c : Change) : Type 0 where
  pub phase_is : phase_after e.core.command s.phase ≡ phase (s.history.items ++ e ∷ [])
  pub runs_fit : length (runs (s.history.items ++ e ∷ [])) ≤ MAX_RUNS
  pub topics_first : has_topics (s.history.items ++ e ∷ []) ≡ false → runs (s.history.items ++ e ∷ []) ≡ []
  pub runs_known : RunsAreKnown (s.history.items ++ e ∷ [])
  pub assessed : IsAssessmentOf (s.history.items ++ e ∷ []) (after_change c (facts s.assessment))
  pub unjudged : phase (s.history.items ++ e ∷ []) ≡ Collecting
      → IsUnjudged (s.history.items ++ e ∷ []) (map labelled_of (after_change c (facts s.assessment)).topics.topics)

-- a command that gives no topics, no run and no docnos, and withdraws no run
pub record IsPlain (c : Command) : Type 0 where
  pub no_topics : topics_in c ≡ None
  pub no_run : run_in c ≡ None
  pub no_docnos : docnos (lists_in c) ≡ []
  pub no_withdrawal : (name : Text) → withdraws name c ≡ false

pub plain-by : (c d : Command) → c ≡ d → topics_in d ≡ None → run_in d ≡ None → docnos (lists_in d) ≡ []
    → ((name : Text) → withdraws name d ≡ false) → IsPlain c
plain-by c d is no_topics no_run no_docnos no_withdrawal = record {
  no_topics = ap topics_in is ∙ no_topics;
  no_run = ap run_in is ∙ no_run;
  no_docnos = ap (λ c. docnos (lists_in c)) is ∙ no_docnos;
  no_withdrawal = λ name. ap (withdraws name) is ∙ no_withdrawal name;
}

pub one-longer : (H : History) (e : Entry) → length H + 1 ≡ length (H ++ e ∷ [])
one-longer H e = omega (arith, length-append H (e ∷ []))

pub ids-stay : (H : History) (e : Entry) → topics_in e.core.command ≡ None → topic_ids (H ++ e ∷ []) ≡ topic_ids H
ids-stay H e none = ap (map (λ (t : Topic). t.id)) (same-topics H e none)

pub names-stay : (H : History) (e : Entry) → docnos (lists_in e.core.command) ≡ [] → names_of (H ++ e ∷ []) ≡ names_of H
names-stay H e none = ap each_once (submitted_docnos-push H e ∙ ap (λ ds. submitted_docnos H ++ ds) none ∙ append-nil (submitted_docnos H))

pub keeps-all : (laws : Laws) (s : Campaign) (e : Entry) → IsKnown s → IsQuiet e → AreKept s.history.items (s.history.items ++ e ∷ [])
keeps-all laws s e kept_s quiet = laws.quiet_entries s.history.items e (rules-stay s.history.items e kept_s.legal) quiet

same-withdrawn : (s : Campaign) (e : Entry) → IsPlain e.core.command → (name : Text)
    → is_withdrawn (s.history.items ++ e ∷ []) name ≡ is_withdrawn s.history.items name
same-withdrawn s e plain = none-withdrawn s.history.items e plain.no_withdrawal

-- the pools where the entry is plain
pools-stay : (s : Campaign) (e : Entry) → IsKnown s → IsPlain e.core.command
    → map kept_topic (topics_of s) ≡ map (kept_topic_of (s.history.items ++ e ∷ [])) (topic_ids (s.history.items ++ e ∷ []))
pools-stay s e kept_s plain =
    let H = s.history.items in
    let J : History = H ++ e ∷ [] in
    kept_s.assessed.knows.topics_are
    ∙ topics-stay H J (topic_ids H) (rules-stay H e kept_s.legal) (names-stay H e plain.no_docnos)
    (numbered-stays H J (no-run H e plain.no_run) (same-withdrawn s e plain))
    ∙ ap (map (kept_topic_of J)) (sym (ids-stay H e plain.no_topics))

pub same-levels : (s : Campaign) (e : Entry) → IsKnown s → topic_ids (s.history.items ++ e ∷ []) ≡ topic_ids s.history.items
    → (facts s.assessment).topics.levels ≡ map (level (s.history.items ++ e ∷ [])) (topic_ids (s.history.items ++ e ∷ []))
same-levels s e kept_s ids_are =
    kept_s.assessed.levels_are ∙ ap (λ (r : Rules). map (level_in r) (topic_ids s.history.items)) (sym (rules-stay s.history.items e kept_s.legal))
    ∙ ap (map (level (s.history.items ++ e ∷ []))) (sym ids_are)

same-lists : (s : Campaign) (e : Entry) → IsKnown s → IsPlain e.core.command → (run : RunId) (on : ℕ)
    → (facts s.assessment).topics.lists run on
    ≡ list_in (names_of (s.history.items ++ e ∷ [])) (topic_ids (s.history.items ++ e ∷ [])) (run_at (s.history.items ++ e ∷ []) run) on
same-lists s e kept_s plain run on =
    let H = s.history.items in
    let J : History = H ++ e ∷ [] in
    kept_s.assessed.lists_are run on
    ∙ ap (λ (names : List Text). list_in names (topic_ids H) (run_at H run) on) (sym (names-stay H e plain.no_docnos))
    ∙ ap (λ (ids : List Text). list_in (names_of J) ids (run_at H run) on) (sym (ids-stay H e plain.no_topics))
    ∙ ap (λ (o : Option Run). list_in (names_of J) (topic_ids J) o on) (sym (run-at-stays H J (no-run H e plain.no_run) (same-withdrawn s e plain) run))

-- where the entry changes leases alone
pub quiet-assessed : (laws : Laws) (s : Campaign) (e : Entry) (later : List DeskLease) → IsKnown s → IsPlain e.core.command → IsQuiet e
    → IsLeased (s.history.items ++ e ∷ []) (names_of (s.history.items ++ e ∷ [])) later
    → IsAssessmentOf (s.history.items ++ e ∷ []) (record (facts s.assessment) { leases = later })
quiet-assessed laws s e later kept_s plain quiet leased =
    let H = s.history.items in
    let J : History = H ++ e ∷ [] in
    let ids_are = ids-stay H e plain.no_topics in
    record {
      knows = record {
        topics_are = pools-stay s e kept_s plain;
        labels_are = same-labels s e (map labelled_of (topics_of s)) kept_s (keeps-all laws s e kept_s quiet) (names-stay H e plain.no_docnos) refl;
        leased = leased;
        topics_differ = ap differ ids_are ∙ kept_s.assessed.knows.topics_differ;
        topics_fit = rw ids_are kept_s.assessed.knows.topics_fit;
      };
      few = subst (λ n. All (HasFewLabels n) (map labelled_of (topics_of s))) (one-longer H e)
          (all-few (length H) (map labelled_of (topics_of s)) kept_s.assessed.few);
      levels_are = same-levels s e kept_s ids_are;
      lists_are = same-lists s e kept_s plain;
    }

-- where the entry changes the labels or the rulings of a topic
pub marked-assessed : (s : Campaign) (e : Entry) (number : ℕ) (step : TopicFacts → TopicFacts) (later : List DeskLease)
    → IsKnown s → IsPlain e.core.command → ((t : TopicFacts) → kept_topic (step t) ≡ kept_topic t)
    → (((later : List LabelledTopic)
    → ((d : TopicFacts) → later ≡ set (map labelled_of (topics_of s)) number (labelled_of (step (get_or (topics_of s) number d))))
    → All (IsLabelled (s.history.items ++ e ∷ []) (names_of (s.history.items ++ e ∷ []))) later)
    × ((later : List LabelledTopic)
    → ((d : TopicFacts) → later ≡ set (map labelled_of (topics_of s)) number (labelled_of (step (get_or (topics_of s) number d))))
    → All (HasFewLabels (length s.history.items + 1)) later))
    → IsLeased (s.history.items ++ e ∷ []) (names_of (s.history.items ++ e ∷ [])) later
    → IsAssessmentOf (s.history.items ++ e ∷ [])
    (record (facts s.assessment) { topics = record (facts s.assessment).topics { topics = at_place number step (topics_of s) }; leases = later })
marked-assessed s e number step later kept_s plain same labels leased =
    let H = s.history.items in
    let J : History = H ++ e ∷ [] in
    let ids_are = ids-stay H e plain.no_topics in
    let now : List LabelledTopic = map labelled_of (at_place number step (topics_of s)) in
    let now_is : (d : TopicFacts) → now ≡ set (map labelled_of (topics_of s)) number (labelled_of (step (get_or (topics_of s) number d))) =
    λ d. map-at_place labelled_of step (topics_of s) number d in
    record {
      knows = record {
        topics_are = map-at_same kept_topic step (topics_of s) number same ∙ pools-stay s e kept_s plain;
        labels_are = labels.0 now now_is;
        leased = leased;
        topics_differ = ap differ ids_are ∙ kept_s.assessed.knows.topics_differ;
        topics_fit = rw ids_are kept_s.assessed.knows.topics_fit;
      };
      few = subst (λ n. All (HasFewLabels n) now) (one-longer H e) (labels.1 now now_is);
      levels_are = same-levels s e kept_s ids_are;
      lists_are = same-lists s e kept_s plain;
    }

pub plain-carried : (s : Campaign) (e : Entry) (c : Change) → IsKnown s → IsPlain e.core.command
    → phase_after e.core.command s.phase ≡ phase (s.history.items ++ e ∷ []) → phase (s.history.items ++ e ∷ []) ≢ Collecting
    → IsAssessmentOf (s.history.items ++ e ∷ []) (after_change c (facts s.assessment)) → IsCarriedOut s e c
plain-carried s e c kept_s plain phase_is opened assessed =
    let H = s.history.items in
    record {
      phase_is = phase_is;
      runs_fit = rw (no-run H e plain.no_run) kept_s.runs_fit;
      topics_first = λ none. no-run H e plain.no_run ∙ kept_s.topics_first (had-none H e none);
      runs_known = known-stays H (H ++ e ∷ []) kept_s.runs_known (no-run H e plain.no_run) (same-withdrawn s e plain);
      assessed = assessed;
      unjudged = λ collecting. absurd (opened collecting);
    }

-- where the entry changes nothing but the phase
pub still-assessed : (laws : Laws) (s : Campaign) (e : Entry) (c : Command) → IsKnown s → IsPlain e.core.command → e.core.command ≡ c
    → e.reply ≡ reply.Done → label_in e.core.caller.name c e.reply ≡ None
    → ((topic doc : Text) → ruling_in topic doc c ≡ None) → ((number : ℕ) → end_in number c ≡ None)
    → IsAssessmentOf (s.history.items ++ e ∷ []) (facts s.assessment)
still-assessed laws s e c kept_s plain is reply_is no_label no_ruling no_end =
    let H = s.history.items in
    let J : History = H ++ e ∷ [] in
    let quiet : IsQuiet e =
    record {
      no_label = ap (λ c. label_in e.core.caller.name c e.reply) is
          ∙ no_label;
      no_ruling = λ topic doc. ap (ruling_in topic doc) is ∙ no_ruling topic doc;
    } in
    let no_lease : leases J ≡ leases H = no-lease H e (ap (lease_in e.core.caller.name) reply_is) in
    quiet-assessed laws s e s.assessment.leases kept_s plain quiet
    (leased-stays laws.ends_there H J s.assessment.leases no_lease (none-ended H e (λ n. ap (end_in n) is ∙ no_end n))
    (ids-stay H e plain.no_topics) (names-stay H e plain.no_docnos) kept_s.assessed.knows.leased)
