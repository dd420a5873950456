-- Labels, rulings and effective grades of a campaign whose list of accepted entries is H.
use Rattle.std.specs.Prelude.{ℕ, Bool, ◌&&◌, List, [], Option, Some, None, if◌then◌else◌, count_by, map, filter, is_some, length, nat_lt}
use Rattle.std.specs.List.{filter_map, flat_map, fold}
use Rattle.std.specs.Option.{option_and_then, option_map, option_or}
use Rattle.std.specs.Str.{bytes_eq}
use Rattle.labels.specs.declared.given.Given.{Given}
use Rattle.labels.specs.Grades.{effective_grade, shows_disagreement}
use Rattle.labels.specs.DocumentLabels.{grades_of, has_label, with_label}
use Rattle.decimal_rank.specs.Relevance.{is_non_relevant, is_relevant}
use Rattle.rulebook.specs.declared.ask.Command.{Command}
use Rattle.rulebook.specs.declared.entry.Entry.{Entry}
use Rattle.rulebook.specs.declared.reply.Reply.{Reply}
use Rattle.rulebook.specs.declared.reply.Reply.TheVariants as reply
use Rattle.rulebook.specs.Words.{Text, each_once, last_given, prefixes}
use Rattle.rulebook.specs.Campaign.{History, level, need, tells}

-- a grade that an assessor gave a document of a topic
pub record Label : Type 0 where
  pub topic : Text
  pub doc : Text
  pub assessor : Text
  pub grade : ℕ

-- the grade that the reply tells, on its lease's document
abbrev pub label_of_reply : Text → Reply → Option Label
label_of_reply assessor (reply.Graded topic doc grade) = Some (record { topic = topic; doc = doc; assessor = assessor; grade = grade })
label_of_reply assessor _ = None

-- the label that a command gives: an amendment, or the grade of a lease, by what is found of it
abbrev pub label_by : Text → (ℕ → ℕ → Option Label) → Command → Option Label
label_by assessor of_lease c =
    option_or
    (option_map (λ given. record { topic = given.topic; doc = given.doc; assessor = assessor; grade = given.grade }) (tells c).amendment)
    (option_and_then (λ ended. option_and_then (of_lease ended.number) ended.grade) (tells c).lease_end)

-- A grade is given by Grade, whose reply tells the lease's document, or by Amend.
abbrev pub label_in : Text → Command → Reply → Option Label
label_in assessor c told = label_by assessor (λ lease grade. label_of_reply assessor told) c

-- the grade that an entry gives
abbrev pub label_of : Entry → Option Label
label_of e = label_in e.core.caller.name e.core.command e.reply

-- all grades that assessors gave, the earliest first
abbrev pub given_labels : History → List Label
given_labels H = filter_map label_of H

abbrev pub is_label_on : Text → Text → Label → Bool
is_label_on topic doc label = bytes_eq label.topic topic && bytes_eq label.doc doc

-- the grades that were given to a document
abbrev pub given_on : History → Text → Text → List Label
given_on H topic doc = filter (is_label_on topic doc) (given_labels H)

-- the labels on a document: of each assessor the last grade, in place of the earlier ones
abbrev pub labels_on : History → Text → Text → List Given
labels_on H topic doc = fold (λ labels label. with_label label.assessor label.grade labels) [] (given_on H topic doc)

-- whether an assessor has a label on a document
abbrev pub is_labelled_by : History → Text → Text → Text → Bool
is_labelled_by H topic doc assessor = has_label assessor (labels_on H topic doc)

-- whether some assessor has a label on a document
abbrev pub is_labelled : History → Text → Text → Bool
is_labelled H topic doc = nat_lt 0 (length (labels_on H topic doc))

abbrev pub ruling_in : Text → Text → Command → Option ℕ
ruling_in topic doc c =
    option_and_then (λ given. if bytes_eq given.topic topic && bytes_eq given.doc doc then Some given.grade else None) (tells c).ruling

-- the last ruling on a document
abbrev pub last_ruling : History → Text → Text → Option ℕ
last_ruling H topic doc = last_given (λ e. ruling_in topic doc e.core.command) H

-- the effective grade of a document: the last ruling, or else the grade of as many labels as the topic needs, where they agree
abbrev pub effective : History → Text → Text → Option ℕ
effective H topic doc = effective_grade (need H topic) (grades_of (labels_on H topic doc)) (last_ruling H topic doc)

-- the documents of a topic with a label, by their first one
abbrev pub labelled_documents : History → Text → List Text
labelled_documents H topic = each_once (map (λ label. label.doc) (filter (λ label. bytes_eq label.topic topic) (given_labels H)))

-- the documents of a topic with an effective grade
abbrev pub graded_documents : History → Text → List Text
graded_documents H topic = filter (λ doc. is_some (effective H topic doc)) (labelled_documents H topic)

-- whether a document has as many labels as a topic of two needs, which differ, and no ruling
abbrev pub disagrees : History → Text → Text → Bool
disagrees H topic doc = shows_disagreement (need H topic) (grades_of (labels_on H topic doc)) (last_ruling H topic doc)

-- the documents of a topic that are relevant, and those with a lower effective grade
abbrev pub relevant_count : History → Text → ℕ
relevant_count H topic = count_by (λ doc. is_relevant (level H topic) (effective H topic doc)) (graded_documents H topic)

abbrev pub non_relevant_count : History → Text → ℕ
non_relevant_count H topic = count_by (λ doc. is_non_relevant (level H topic) (effective H topic doc)) (graded_documents H topic)

-- the documents of a topic that had an effective grade after some part of H from its start, by the shortest such part
abbrev pub trail : History → Text → List Text
trail H topic = each_once (flat_map (λ part. graded_documents part topic) (prefixes H))
