-- What an entry that is accepted changes of what is known by numbers.
use Rattle.std.specs.Prelude.{◌≡◌, ◌⊎◌, ℕ, List, [], Some, None, IsTrue, if◌then◌else◌, length, map}
use Rattle.std.specs.List.{position}
use Rattle.std.specs.Str.{bytes_eq}
use Rattle.decimal_rank.specs.declared.naming.DocId.{DocId}
use Rattle.lease_desk.specs.declared.leases.Lease.{Lease as DeskLease}
use Rattle.assessment.specs.Changes.{IsUnended}
use Rattle.assessment.specs.TopicFacts.{TopicFacts, facts_of}
use Rattle.assessment.specs.TopicsFacts.{TopicsFacts, topics_facts}
use Rattle.assessment.specs.declared.change.Change.{Change}
use Rattle.assessment.specs.declared.change.Change.TheVariants as change
use Rattle.assessment.specs.declared.change.Grant.{Grant}
use Rattle.assessment.specs.declared.change.Label.{Label as DocLabel}
use Rattle.rulebook.specs.declared.rules.Phase.{Phase}
use Rattle.rulebook.specs.declared.rules.Phase.TheVariants.{Judging, Published}
use Rattle.trec_formats.specs.declared.Topic.{Topic}
use Rattle.trec_formats.specs.declared.TopicList.{TopicList}
use Rattle.rulebook.specs.declared.ask.Command.{Command}
use Rattle.rulebook.specs.declared.ask.Command.TheVariants as command
use Rattle.rulebook.specs.declared.entry.Entry.{Entry}
use Rattle.rulebook.specs.Words.{Text, contains_text}
use Rattle.rulebook.specs.Campaign.{History, docs_on, level_in, opens, publishes, rules_of, runs}
use Rattle.rulebook.specs.Judgements.Leases.{Lease, lease_in, lease_numbered}
use Rattle.campaign_core.specs.Assessments.DeskLeases.{topic_in}
use Rattle.campaign_core.specs.Numbering.Numbers.{doc_in, docs_in}
use Rattle.campaign_core.specs.Assessments.Topics.{empty_topic, kept_topic, labelled_of, topic_ids, unlabelled_topic}

-- the lease that the reply tells, by the numbers of its topic and its document
pub record IsLeaseChange (H : History) (names : List Text) (e : Entry) (grant : Grant) : Type 0 where
  pub command_is : (wanted : Text) × (e.core.command ≡ command.Lease wanted)
  pub lease : Lease
  pub told : lease_in e.core.caller.name e.reply ≡ Some lease
  pub topic_is : grant.topic ≡ topic_in (topic_ids H) lease.topic
  pub doc_is : grant.doc ≡ doc_in names lease.doc
  pub until_is : grant.until ≡ lease.until
  pub assessor_is : grant.assessor ≡ lease.assessor
  pub doc_named : IsTrue (contains_text names lease.doc)

-- the grade of a lease that has no end, by the numbers of its topic and its document
pub record IsGradeChange (H : History) (names : List Text) (desk : List DeskLease) (e : Entry) (number : ℕ) (label : DocLabel) : Type 0 where
  pub command_is : e.core.command ≡ command.Grade number label.grade
  pub lease : Lease
  pub found : lease_numbered H number ≡ Some lease
  pub topic_is : label.topic ≡ topic_in (topic_ids H) lease.topic
  pub doc_is : label.doc ≡ doc_in names lease.doc
  pub assessor_is : label.assessor ≡ e.core.caller.name
  pub unended : IsUnended number desk

-- the numbers of a topic of the campaign and of a document of the names
pub record IsPlacedAt (ids : List Text) (names : List Text) (topic doc : Text) (number : ℕ) (at : DocId) : Type 0 where
  pub number_is : number ≡ topic_in ids topic
  pub at_is : at ≡ doc_in names doc
  pub listed : IsTrue (contains_text ids topic)
  pub doc_named : IsTrue (contains_text names doc)

-- the board of new topics has these levels, no list and no room for one
pub record IsNewBoard (levels : List ℕ) (all : TopicsFacts) (rooms : List ℕ) : Type 0 where
  pub levels_are : all.levels ≡ levels
  pub empty : all.lists ≡ (λ run on. None)
  pub no_room : rooms ≡ []

-- The change carries out the entry: the opening or the publication; the topics before any run; the next run, with its
-- list on each topic; the withdrawal of the run of a name; a lease; its grade; its release; an amendment; a ruling.
abbrev pub CarriesOut : History → List Text → List TopicFacts → List DeskLease → Entry → Change → Type 0
CarriesOut H names topics desk e change.Nothing = (e.core.command ≡ command.Open) ⊎ (e.core.command ≡ command.Publish)
CarriesOut H names topics desk e (change.Topics made) =
    (given : List Topic) × (e.core.command ≡ command.Topics given)
    × (map kept_topic (map facts_of made.topics) ≡ map (λ topic. empty_topic (rules_of H) topic.id) given)
    × (map labelled_of (map facts_of made.topics) ≡ map (λ topic. unlabelled_topic topic.id) given)
    × IsNewBoard (map (λ topic. level_in (rules_of H) topic.id) given) (topics_facts made) made.board.rooms
CarriesOut H names topics desk e (change.Run run lists) =
    (name : Text) × (given : List TopicList) × (e.core.command ≡ command.Submit name given) × (run.0 ≡ length (runs H))
    × (lists.items ≡ map (λ topic. docs_in names (docs_on given topic.id)) topics)
CarriesOut H names topics desk e (change.Withdraw run) = (name : Text) × (e.core.command ≡ command.Withdraw name)
    × (Some run.0 ≡ position (λ run. bytes_eq run.name name) (runs H))
CarriesOut H names topics desk e (change.Lease grant) = IsLeaseChange H names e grant
CarriesOut H names topics desk e (change.Grade number label) = IsGradeChange H names desk e number label
CarriesOut H names topics desk e (change.Release number) = (e.core.command ≡ command.Release number) × IsUnended number desk
CarriesOut H names topics desk e (change.Amend label) =
    (topic : Text) × (doc : Text) × (e.core.command ≡ command.Amend topic doc label.grade) × (label.assessor ≡ e.core.caller.name)
    × IsPlacedAt (topic_ids H) names topic doc label.topic label.doc
CarriesOut H names topics desk e (change.Rule ruling) =
    (topic : Text) × (doc : Text) × (e.core.command ≡ command.Rule topic doc ruling.grade) × IsPlacedAt (topic_ids H) names topic doc ruling.topic ruling.doc

-- the phase after a command
abbrev pub phase_after : Command → Phase → Phase
phase_after command phase = if publishes command then Published else (if opens command then Judging else phase)
