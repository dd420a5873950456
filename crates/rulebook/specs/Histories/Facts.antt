-- What holds of every list of entries that can come about, in the terms of a campaign.
use Rattle.std.specs.Prelude.{◌≡◌, ℕ, not, ◌&&◌, ◌+◌, ◌-◌, ◌≤◌, List, Option, Some, All, IsTrue, length, slice_get, take}
use Rattle.std.specs.Bool.{then_some}
use Rattle.std.specs.List.{filter, filter_map}
use Rattle.std.specs.Option.{option_and_then, option_map}
use Rattle.std.specs.Str.{bytes_eq}
use Rattle.labels.specs.DocumentLabels.{label_grade as grade_of}
use Rattle.trec_formats.specs.declared.Topic.{Topic}
use Rattle.rulebook.specs.declared.ask.Ask.TheVariants.{Act}
use Rattle.rulebook.specs.declared.ask.Command.{Command}
use Rattle.rulebook.specs.declared.ask.Command.TheVariants as command
use Rattle.rulebook.specs.declared.entry.Entry.{Entry}
use Rattle.rulebook.specs.declared.reply.Reply.TheVariants as reply
use Rattle.rulebook.specs.Answers.{answer, moment_after}
use Rattle.rulebook.specs.Campaign.{History, is_withdrawn, live, need, topics_in}
use Rattle.rulebook.specs.Judgements.Grades.{Label, given_labels, is_label_on, label_by, label_of, labels_on}
use Rattle.rulebook.specs.Judgements.Leases.{Lease, ends, lease_numbered, live_leases_on}
use Rattle.rulebook.specs.Histories.Legal.{IsLegal}
use Rattle.rulebook.specs.Requests.Numbers.{entry_of_number, is_numbered}
use Rattle.rulebook.specs.Words.{Text, last_given}

-- the topics that entries give
abbrev pub given_topics : History → List (List Topic)
given_topics H = filter_map (λ e. topics_in e.core.command) H

-- A campaign gets its topics once.
abbrev pub TopicsAreGivenOnce : Type 0
TopicsAreGivenOnce = (H : History) → IsLegal H → length (given_topics H) ≤ 1

-- No two entries have one caller's name and one number.
abbrev pub NumbersAreUsedOnce : Type 0
NumbersAreUsedOnce = (H : History) → IsLegal H → (name : Text) (number : ℕ) → length (filter (is_numbered name number) H) ≤ 1

-- The reply that is kept for a number is the one that its entry was first given, after the entries before it.
abbrev pub KeptRepliesAreFirst : Type 0
KeptRepliesAreFirst =
    (H : History) → IsLegal H → (name : Text) (number : ℕ) (placed : ℕ × Entry) → entry_of_number H name (Some number) ≡ Some placed
    → placed.1.reply ≡ (answer (take (placed.0 - 1) H) placed.1.core.caller placed.1.core.number (Act placed.1.core.command) placed.1.core.moment).reply

-- A lease ends once.
abbrev pub LeasesEndOnce : Type 0
LeasesEndOnce = (H : History) → IsLegal H → (number : ℕ) → length (filter (λ e. ends number e.core.command) H) ≤ 1

-- A Grade entry is told the topic and the document of the lease that it names, which is its caller's.
pub record GradesLease (H : History) (e : Entry) (number grade : ℕ) : Type 0 where
  pub lease : Lease
  pub lease_is : lease_numbered H number ≡ Some lease
  pub assessor_is : lease.assessor ≡ e.core.caller.name
  pub reply_is : e.reply ≡ reply.Graded lease.topic lease.doc grade

abbrev pub GradesTellTheirLeases : Type 0
GradesTellTheirLeases =
    (H : History) → IsLegal H → (place : ℕ) (e : Entry) (number grade : ℕ) → slice_get H place ≡ Some e
    → e.core.command ≡ command.Grade number grade → GradesLease H e number grade

-- the label that a command gives, a Grade by the lease that it names
abbrev pub label_by_lease : History → Text → Command → Option Label
label_by_lease H assessor c =
    label_by assessor
    (λ number grade. option_map (λ lease. record { topic = lease.topic; doc = lease.doc; assessor = assessor; grade = grade }) (lease_numbered H number)) c

-- Labels go by the leases that Grade entries name.
abbrev pub LabelsGoByLeases : Type 0
LabelsGoByLeases = (H : History) → IsLegal H → given_labels H ≡ filter_map (λ e. label_by_lease H e.core.caller.name e.core.command) H

-- the grade that an entry gives a document for an assessor
abbrev pub grade_by : Text → Text → Text → Entry → Option ℕ
grade_by topic doc assessor e =
    option_and_then (λ label. then_some (is_label_on topic doc label && bytes_eq label.assessor assessor) label.grade) (label_of e)

-- The label of an assessor on a document is the last grade that they gave it, by Grade or Amend.
abbrev pub LabelsAreTheLastGrades : Type 0
LabelsAreTheLastGrades =
    (H : History) → IsLegal H → (topic doc assessor : Text) → grade_of assessor (labels_on H topic doc) ≡ last_given (grade_by topic doc assessor) H

-- A document never has more labels and live leases together than its topic needs labels.
abbrev pub LabelsAreFew : Type 0
LabelsAreFew =
    (H : History) → IsLegal H → (topic doc : Text)
    → length (labels_on H topic doc) + length (live_leases_on H (moment_after H 0) topic doc) ≤ need H topic

-- No live run was withdrawn: a withdrawn run holds nothing.
abbrev pub LiveRunsAreNotWithdrawn : Type 0
LiveRunsAreNotWithdrawn = (H : History) → All (λ run. IsTrue (not (is_withdrawn H run.name))) (live H)
