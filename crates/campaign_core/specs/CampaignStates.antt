-- What a state keeps true of its fields.
use Rattle.std.specs.Prelude.{◌≡◌, ◌<◌, ◌≤◌, ◌++◌, ◌∷◌, ℕ, false, true, List, [], All, MatchOption, None, Some, Result, Ok, Err, IsTrue, length, map, vec_len, vec_capacity}
use Rattle.rulebook.specs.declared.limits.TheConstants.{MAX_RUNS, MAX_ENTRIES, MAX_LINES, MAX_DOCNOS, MAX_MOMENT, MAX_TOPICS}
use Rattle.rulebook.specs.declared.entry.Entry.{Entry}
use Rattle.rulebook.specs.Words.{Text}
use Rattle.rulebook.specs.Campaign.{History, Run, has_topics, level, phase, runs, submitted_lines}
use Rattle.rulebook.specs.declared.entry.EntryCore.{EntryCore}
use Rattle.rulebook.specs.declared.reply.Refusal.{Refusal}
use Rattle.rulebook.specs.Answers.{command_outcome, moment_after}
use Rattle.rulebook.specs.Histories.Legal.{IsAccepted, IsLegal}
use Rattle.rulebook.specs.Judgements.Grades.{given_labels, last_ruling, trail}
use Rattle.rulebook.specs.Judgements.Leases.{leases}
use Rattle.rulebook.specs.Spelling.{differ}
use Rattle.rulebook.specs.declared.rules.Phase.TheVariants.{Collecting}
use Rattle.decimal_rank.specs.declared.naming.DocId.{DocId}
use Rattle.depth_pool.specs.declared.runs.RunId.{RunId}
use Rattle.labels.specs.LabelledDocuments.{given_at}
use Rattle.lease_desk.specs.declared.leases.Lease.{Lease}
use Rattle.score_index.specs.Scores.{Scores}
use Rattle.campaign_core.specs.Assessments.TopicLabelling.{IsLabelled}
use Rattle.campaign_core.specs.Assessments.DeskLeases.{IsLeased}
use Rattle.campaign_core.specs.Growth.{BeginsWith}
use Rattle.campaign_core.specs.Numbering.Numbers.{names_of}
use Rattle.campaign_core.specs.Numbering.NumberedRequests.{NumberedRequest, numbers_of}
use Rattle.campaign_core.specs.Commands.Changes.{CarriesOut}
use Rattle.campaign_core.specs.Assessments.RunScores.{IsScored, fact_grades, list_in, run_at}
use Rattle.campaign_core.specs.Numbering.Submissions.{AreSubmissions, RunsAreKnown, live_numbers}
use Rattle.campaign_core.specs.Assessments.Topics.{LabelledTopic, kept_topic, kept_topic_of, labelled_of, topic_ids}
use Rattle.campaign_core.specs.declared.campaign.Campaign.{Campaign}
use Rattle.campaign_core.specs.declared.state.State.TheInside.{Inside}
use Rattle.assessment.specs.Changes.{Facts, facts}
use Rattle.assessment.specs.declared.change.Change.{Change}
use Rattle.assessment.specs.TopicFacts.{TopicFacts}

-- The names are the docnos of the history, and each topic has its pool.
pub record HasPools (H : History) (topics : List TopicFacts) (names : List Text) : Type 0 where
  pub names_are : names ≡ names_of H
  pub topics_are : map kept_topic topics ≡ map (kept_topic_of H) (topic_ids H)

-- Each topic has its pool and its labels, and the desk has the leases.
pub record KnowsAll (H : History) (topics : List TopicFacts) (desk : List Lease) : Type 0 where
  pub topics_are : map kept_topic topics ≡ map (kept_topic_of H) (topic_ids H)
  pub labels_are : All (IsLabelled H (names_of H)) (map labelled_of topics)
  pub leased : IsLeased H (names_of H) desk
  pub topics_differ : IsTrue (differ (topic_ids H))
  pub topics_fit : length (topic_ids H) ≤ MAX_TOPICS

-- The board has the scores of a live run of the history, whose topics are kept so.
pub record KnowsRun (H : History) (topics : List TopicFacts) (board : Scores) (number : RunId) (run : Run) : Type 0 where
  pub legal : IsLegal H
  pub desk : List Lease
  pub knows : KnowsAll H topics desk
  pub scored : IsScored H (names_of H) (map fact_grades topics) board
  pub run_is : run_at H number ≡ Some run

-- Nothing is leased or labelled.
pub record IsUnjudged (H : History) (topics : List LabelledTopic) : Type 0 where
  pub no_lease : leases H ≡ []
  pub no_label : given_labels H ≡ []
  pub no_ruling : (topic doc : Text) → last_ruling H topic doc ≡ None
  pub no_trail : (topic : Text) → trail H topic ≡ []
  pub no_mark : All (λ topic. topic.marked ≡ []) topics

-- No more labels and no more grades than entries.
pub record HasFewLabels (entries : ℕ) (topic : LabelledTopic) : Type 0 where
  pub few_labels : (doc : DocId) → length (given_at topic.marked doc) ≤ entries
  pub few_grades : length topic.graded ≤ entries

-- What is known by numbers is what the history says.
pub record IsAssessmentOf (H : History) (known : Facts) : Type 0 where
  pub knows : KnowsAll H known.topics.topics known.leases
  pub few : All (HasFewLabels (length H)) (map labelled_of known.topics.topics)
  pub levels_are : known.topics.levels ≡ map (level H) (topic_ids H)
  pub lists_are : (run : RunId) (on : ℕ) → known.topics.lists run on ≡ list_in (names_of H) (topic_ids H) (run_at H run) on

-- What is known of a campaign is what its history says, which is legal and within the limits.
pub record IsKnown (campaign : Campaign) : Type 0 where
  pub legal : IsLegal campaign.history.items
  pub phase_is : campaign.phase ≡ phase campaign.history.items
  pub moment_fits : moment_after campaign.history.items 0 ≤ MAX_MOMENT
  pub entries_fit : length campaign.history.items ≤ MAX_ENTRIES
  pub lines_fit : submitted_lines campaign.history.items ≤ MAX_LINES
  pub docnos_fit : length (names_of campaign.history.items) ≤ MAX_DOCNOS
  pub runs_fit : length (runs campaign.history.items) ≤ MAX_RUNS
  -- no run comes before the topics
  pub topics_first : has_topics campaign.history.items ≡ false → runs campaign.history.items ≡ []
  pub submissions_are : AreSubmissions campaign.history.items campaign.submissions.items
  pub live_are : campaign.live.items ≡ live_numbers campaign.history.items
  pub runs_known : RunsAreKnown campaign.history.items
  pub lines_are : campaign.lines ≡ submitted_lines campaign.history.items
  pub assessed : IsAssessmentOf campaign.history.items (facts campaign.assessment)
  -- documents are judged once the campaign is opened
  pub unjudged : phase campaign.history.items ≡ Collecting → IsUnjudged campaign.history.items (map labelled_of (facts campaign.assessment).topics.topics)

-- the same, with the docnos of the history
pub record IsKnownWith (docnos : List Text) (campaign : Campaign) : Type 0 where
  pub known : IsKnown campaign
  pub docnos_are : docnos ≡ names_of campaign.history.items

-- the history and all that is known of it stay
pub record IsUnchanged (old new : Campaign) : Type 0 where
  pub history_is : new.history.items ≡ old.history.items
  pub phase_is : new.phase ≡ old.phase
  pub facts_are : facts new.assessment ≡ facts old.assessment
  pub submissions_are : new.submissions.items ≡ old.submissions.items
  pub live_are : new.live.items ≡ old.live.items
  pub lines_are : new.lines ≡ old.lines

-- a change waits, and there is room for an entry and for a run
pub record AwaitsChange (campaign : Campaign) (change : Change) : Type 0 where
  pub waits : campaign.assessment.pending ≡ Some change
  pub room : vec_len campaign.history < vec_capacity campaign.history
  pub run_room : vec_len campaign.submissions < vec_capacity campaign.submissions
  pub live_room : vec_len campaign.live < vec_capacity campaign.live

-- An entry may join the history: the rules accept it, the limits hold with it, and a change waits that carries it out.
pub record IsReady (campaign : Campaign) (e : Entry) : Type 0 where
  pub accepted : IsAccepted campaign.history.items e
  pub moment_fits : e.core.moment ≤ MAX_MOMENT
  pub entries_fit : length campaign.history.items < MAX_ENTRIES
  pub lines_fit : submitted_lines (campaign.history.items ++ e ∷ []) ≤ MAX_LINES
  pub docnos_fit : length (names_of (campaign.history.items ++ e ∷ [])) ≤ MAX_DOCNOS
  pub docnos_grow : BeginsWith (names_of campaign.history.items) (names_of (campaign.history.items ++ e ∷ []))
  pub change : Change
  pub awaits : AwaitsChange campaign change
  pub carries_out : CarriesOut campaign.history.items (names_of (campaign.history.items ++ e ∷ []))
      (facts campaign.assessment).topics.topics campaign.assessment.leases e change

-- the same, where these are the docnos and the numbers of the history with the entry
pub record IsReadyWith (campaign : Campaign) (names : List Text) (numbers : List NumberedRequest) (e : Entry) : Type 0 where
  pub ready : IsReady campaign e
  pub names_are : names ≡ names_of (campaign.history.items ++ e ∷ [])
  pub numbers_are : numbers ≡ numbers_of (campaign.history.items ++ e ∷ [])

-- What a command comes to: the refusal of the rules, and no change is pending; or its entry, which is ready.
abbrev pub IsPrepared : Campaign → List Text → List NumberedRequest → EntryCore → Result Entry Refusal → Type 0
IsPrepared campaign names numbers core (Err refusal) =
    (command_outcome campaign.history.items core.caller core.moment core.command ≡ Err refusal) × (campaign.assessment.pending ≡ None)
IsPrepared campaign names numbers core (Ok entry) =
    (entry.core ≡ core) × (command_outcome campaign.history.items core.caller core.moment core.command ≡ Ok entry.reply)
    × IsReadyWith campaign names numbers entry

-- a campaign whose entries are entered again is known, with its docnos and numbers, and no change is pending
pub record IsReplayed (campaign : Campaign) (docnos : List Text) (numbers : List NumberedRequest) : Type 0 where
  pub known : IsKnown campaign
  pub idle : campaign.assessment.pending ≡ None
  pub docnos_are : docnos ≡ names_of campaign.history.items
  pub numbers_are : numbers ≡ numbers_of campaign.history.items

-- The campaign is known, and the first docnos and numbers are those of its history. Others may follow, from requests that weren't committed.
pub record IsKept (s : Inside) : Type 0 where
  pub known : IsKnown s.campaign
  pub on_board : (facts s.campaign.assessment).on_board ≡ true
  pub docnos_are : BeginsWith (names_of s.campaign.history.items) s.docnos
  pub docnos_kept_are : s.docnos_kept ≡ length (names_of s.campaign.history.items)
  pub numbers_are : BeginsWith (numbers_of s.campaign.history.items) s.numbers
  pub numbers_kept_are : s.numbers_kept ≡ length (numbers_of s.campaign.history.items)
  -- where no entry is prepared, no change is pending
  pub ready : MatchOption s.prepared (s.campaign.assessment.pending ≡ None) (λ p. IsReadyWith s.campaign s.docnos s.numbers p.value)
