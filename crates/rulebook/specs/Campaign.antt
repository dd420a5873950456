-- Who gives which command, and what it tells; rules, phase, topics, runs and pools of a campaign whose list of accepted entries is H.
use Rattle.std.specs.Prelude.{ℕ, Bool, true, false, not, filter, map, if◌then◌else◌, ◌+◌, ◌||◌, List, [], ◌++◌, Option, None, Some, ◌∷◌, take, length, unwrap_or, is_some, slice_get, sum_by}
use Rattle.std.specs.List.{list_any, filter_map, find, flat_map, enumerate_from}
use Rattle.std.specs.Option.{option_map_or}
use Rattle.std.specs.Str.{bytes_eq}
use Rattle.trec_formats.specs.declared.Topic.{Topic}
use Rattle.trec_formats.specs.declared.TopicList.{TopicList}
use Rattle.rulebook.specs.declared.rules.Role.{Role}
use Rattle.rulebook.specs.declared.rules.Rules.{Rules}
use Rattle.rulebook.specs.declared.rules.Phase.{Phase}
use Rattle.rulebook.specs.declared.rules.Phase.TheVariants.{Collecting, Judging, Published}
use Rattle.rulebook.specs.declared.ask.Command.{Command}
use Rattle.rulebook.specs.declared.ask.Command.TheVariants as command
use Rattle.rulebook.specs.declared.entry.Entry.{Entry}
use Rattle.rulebook.specs.Requests.Roles.{is_organiser, is_group, is_assessor}
use Rattle.rulebook.specs.Words.{Text, contains_text, each_once, in_order}

-- the accepted entries, from the first on
abbrev pub History : Type 0
History = List Entry

-- What a command is

-- a run as it was submitted
pub record Run : Type 0 where
  pub name : Text
  pub lists : List TopicList

-- a lease that ends, with the grade of its document, if it gets one
pub record EndedLease : Type 0 where
  pub number : ℕ
  pub grade : Option ℕ

-- a grade of a document of a topic
pub record DocGrade : Type 0 where
  pub topic : Text
  pub doc : Text
  pub grade : ℕ

-- what the rules say of a command, and what it tells of the campaign once it is accepted: each fact, where it tells one
pub record CommandFacts : Type 0 where
  -- the roles that may give it
  pub roles : Role → Bool
  pub rules : Option Rules
  pub topics : Option (List Topic)
  pub run : Option Run
  pub opens : Bool
  -- the topic of which a document is asked for
  pub lease_wish : Option Text
  pub lease_end : Option EndedLease
  pub amendment : Option DocGrade
  pub ruling : Option DocGrade
  pub withdrawal : Option Text
  pub publishes : Bool

abbrev pub no_facts : CommandFacts
no_facts = record {
  roles = λ role. false;
  rules = None;
  topics = None;
  run = None;
  opens = false;
  lease_wish = None;
  lease_end = None;
  amendment = None;
  ruling = None;
  withdrawal = None;
  publishes = false;
}

-- Nobody gives Found: the founding entry is there from the start.
abbrev pub tells : Command → CommandFacts
tells (command.Found rules) = record no_facts { rules = Some rules }
tells (command.Topics topics) = record no_facts { roles = is_organiser; topics = Some topics }
tells (command.Submit name lists) = record no_facts { roles = is_group; run = Some (record { name = name; lists = lists }) }
tells command.Open = record no_facts { roles = is_organiser; opens = true }
tells (command.Lease topic) = record no_facts { roles = is_assessor; lease_wish = Some topic }
tells (command.Grade lease grade) = record no_facts { roles = is_assessor; lease_end = Some (record { number = lease; grade = Some grade }) }
tells (command.Release lease) = record no_facts { roles = is_assessor; lease_end = Some (record { number = lease; grade = None }) }
tells (command.Amend topic doc grade) = record no_facts { roles = is_assessor; amendment = Some (record { topic = topic; doc = doc; grade = grade }) }
tells (command.Rule topic doc grade) = record no_facts { roles = is_organiser; ruling = Some (record { topic = topic; doc = doc; grade = grade }) }
tells (command.Withdraw run) = record no_facts { roles = λ role. is_group role || is_organiser role; withdrawal = Some run }
tells command.Publish = record no_facts { roles = is_organiser; publishes = true }

abbrev pub may_give : Role → Command → Bool
may_give role c = (tells c).roles role

-- Rules

abbrev pub rules_in : Command → Option Rules
rules_in c = (tells c).rules

abbrev pub no_rules : Rules
no_rules = record { depth = 0; term = 0; hold = 0; level = 0; top_grade = 0; doubles = []; levels = [] }

-- the rules of the first entry
abbrev pub rules_of : History → Rules
rules_of [] = no_rules
rules_of (e ∷ _) = unwrap_or (rules_in e.core.command) no_rules

-- Phase

abbrev pub opens : Command → Bool
opens c = (tells c).opens

abbrev pub publishes : Command → Bool
publishes c = (tells c).publishes

-- Collecting from the founding on, Judging from an Open entry on, Published from a Publish entry on
abbrev pub phase : History → Phase
phase H =
    if list_any (λ e. publishes e.core.command) H then Published
    else (if list_any (λ e. opens e.core.command) H then Judging else Collecting)

-- Topics

abbrev pub topics_in : Command → Option (List Topic)
topics_in c = (tells c).topics

abbrev pub has_topics : History → Bool
has_topics H = list_any (λ e. is_some (topics_in e.core.command)) H

-- the topics of the Topics entry
abbrev pub topics : History → List Topic
topics H = unwrap_or (slice_get (filter_map (λ e. topics_in e.core.command) H) 0) []

abbrev pub is_topic : History → Text → Bool
is_topic H topic = list_any (λ t. bytes_eq t.id topic) (topics H)

abbrev pub title : History → Text → Text
title H topic = option_map_or (λ t. t.title) (find (λ t. bytes_eq t.id topic) (topics H)) []

-- how many labels a document of the topic needs
abbrev pub needed_labels : Rules → Text → ℕ
needed_labels rules topic = if contains_text rules.doubles topic then 2 else 1

abbrev pub need : History → Text → ℕ
need H topic = needed_labels (rules_of H) topic

-- the grade from which on a document of the topic is relevant: the topic's own, or else that of the rules
abbrev pub level_in : Rules → Text → ℕ
level_in rules topic = option_map_or (λ own. own.level) (find (λ own. bytes_eq own.topic topic) rules.levels) rules.level

abbrev pub level : History → Text → ℕ
level H topic = level_in (rules_of H) topic

-- Runs

abbrev pub run_in : Command → Option Run
run_in c = (tells c).run

-- the submitted runs, in order
abbrev pub runs : History → List Run
runs H = filter_map (λ e. run_in e.core.command) H

-- whether a run of this name was ever submitted
abbrev pub is_taken : History → Text → Bool
is_taken H name = list_any (λ run. bytes_eq run.name name) (runs H)

abbrev pub withdraws : Text → Command → Bool
withdraws name c = option_map_or (λ run. bytes_eq run name) (tells c).withdrawal false

-- whether the run of this name was withdrawn
abbrev pub is_withdrawn : History → Text → Bool
is_withdrawn H name = list_any (λ e. withdraws name e.core.command) H

-- the live runs, each with its number of submission: those that were submitted and not withdrawn
abbrev pub numbered_runs : History → List (ℕ × Run)
numbered_runs H = filter (λ run. not (is_withdrawn H run.1.name)) (enumerate_from 0 (runs H))

abbrev pub live : History → List Run
live H = map (λ run. run.1) (numbered_runs H)

abbrev pub line_count : List TopicList → ℕ
line_count lists = sum_by (λ l. length l.docs) lists

-- the docnos of a run's lines
abbrev pub docnos : List TopicList → List Text
docnos lists = flat_map (λ l. l.docs) lists

-- the lines of all runs that were ever submitted, and their docnos
abbrev pub submitted_lines : History → ℕ
submitted_lines H = sum_by (λ run. line_count run.lists) (runs H)

abbrev pub submitted_docnos : History → List Text
submitted_docnos H = flat_map (λ run. docnos run.lists) (runs H)

-- the same with one more run's lists, each docno once
abbrev pub lines_with : History → List TopicList → ℕ
lines_with H lists = submitted_lines H + line_count lists

abbrev pub docnos_with : History → List TopicList → List Text
docnos_with H lists = each_once (submitted_docnos H ++ docnos lists)

-- Pools

-- the documents of the ranked list on a topic
abbrev pub docs_on : List TopicList → Text → List Text
docs_on lists topic = option_map_or (λ l. l.docs) (find (λ l. bytes_eq l.topic topic) lists) []

-- the documents that a run holds on a topic: those whose rank is at most the depth
abbrev pub held_documents : History → Text → Run → List Text
held_documents H topic run = take (rules_of H).depth (docs_on run.lists topic)

abbrev pub run_holds : History → Text → Run → Text → Bool
run_holds H topic run doc = contains_text (held_documents H topic run) doc

-- the documents that some live run holds, by docno
abbrev pub pool : History → Text → List Text
pool H topic = in_order (flat_map (held_documents H topic) (live H))
