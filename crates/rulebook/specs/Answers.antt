-- The answer to an addressed request.
use Rattle.std.specs.Prelude.{ℕ, not, ◌&&◌, ◌==◌, ◌+◌, ◌-◌, List, [], ◌∷◌, ◌++◌, Option, Ok, Err, if◌then◌else◌, map, length, nat_lt, nat_le, min, max, slice_get}
use Rattle.std.specs.List.{filter, reduce}
use Rattle.std.specs.Option.{option_map, option_map_or}
use Rattle.std.specs.Str.{bytes_eq}
use Rattle.trec_formats.specs.declared.Topic.{Topic}
use Rattle.trec_formats.specs.declared.TopicList.{TopicList}
use Rattle.rulebook.specs.Requests.Limits.{max_topics, max_runs, max_lines, max_docnos, max_entries}
use Rattle.rulebook.specs.declared.rules.Caller.{Caller}
use Rattle.rulebook.specs.declared.rules.Phase.TheVariants.{Collecting, Judging, Published}
use Rattle.rulebook.specs.declared.ask.Command.{Command}
use Rattle.rulebook.specs.declared.ask.Command.TheVariants as command
use Rattle.rulebook.specs.declared.ask.Query.{Query}
use Rattle.rulebook.specs.declared.ask.Query.TheVariants as query
use Rattle.rulebook.specs.declared.ask.Ask.{Ask}
use Rattle.rulebook.specs.declared.ask.Ask.TheVariants.{Act, See}
use Rattle.rulebook.specs.declared.reply.Refusal.{Refusal}
use Rattle.rulebook.specs.declared.reply.Refusal.TheVariants as refusal
use Rattle.rulebook.specs.declared.reply.Quantity.TheVariants as quantity
use Rattle.rulebook.specs.declared.reply.Reply.{Reply}
use Rattle.rulebook.specs.declared.reply.Reply.TheVariants as reply
use Rattle.rulebook.specs.declared.entry.EntryCore.{EntryCore}
use Rattle.rulebook.specs.declared.entry.Entry.{Entry}
use Rattle.rulebook.specs.Words.{Text}
use Rattle.rulebook.specs.Campaign.{History, has_topics, is_topic, runs, is_taken, is_withdrawn, line_count, lines_with, docnos_with, pool, phase, rules_of, title}
use Rattle.rulebook.specs.Judgements.Grades.{is_labelled, is_labelled_by}
use Rattle.rulebook.specs.Judgements.JudgingOrder.{named_document}
use Rattle.rulebook.specs.Reports.Pages.{disagreements_page, progress_page, qrels_page}
use Rattle.rulebook.specs.Requests.Roles.{is_group}
use Rattle.rulebook.specs.Reports.Scores.{is_submitter, run_named, scores_page, table_page}
use Rattle.rulebook.specs.Judgements.Leases.{Lease, is_ended, lease_numbered, leases, live_leases_of}
use Rattle.rulebook.specs.Requests.Numbers.{entry_of_number}
use Rattle.rulebook.specs.Requests.Refusals.{Outcome, ◌when◌, unless_missing, is_phase, unless, wrong_phase_unless, wrong_phase_where}
use Rattle.rulebook.specs.Requests.SameCommands.{same_command}

-- the least line of a list whose topic isn't a topic of the campaign
abbrev pub unknown_line : History → List TopicList → Option ℕ
unknown_line H lists = reduce min (map (λ l. l.line) (filter (λ l. not (is_topic H l.topic)) lists))

-- What each command comes to: its refusals in their order, and else its reply.

abbrev pub topics_tests : History → List Topic → List (Option Refusal)
topics_tests H topics =
    wrong_phase_unless Collecting H
    ∷ (refusal.TopicsFixed when has_topics H)
    ∷ (refusal.Limit quantity.Topics when nat_lt max_topics (length topics)) ∷ []

abbrev pub topics_outcome : History → List Topic → Outcome
topics_outcome H topics = unless (topics_tests H topics) (Ok (reply.Topics (length topics)))

abbrev pub submit_tests : History → Text → List TopicList → List (Option Refusal)
submit_tests H run lists =
    wrong_phase_where Published H
    ∷ (refusal.TagTaken when is_taken H run)
    ∷ option_map refusal.LineTopic (unknown_line H lists)
    ∷ (refusal.Limit quantity.Runs when nat_le max_runs (length (runs H)))
    ∷ (refusal.Limit quantity.Lines when nat_lt max_lines (lines_with H lists))
    ∷ (refusal.Limit quantity.Docnos when nat_lt max_docnos (length (docnos_with H lists))) ∷ []

abbrev pub submit_outcome : History → Text → List TopicList → Outcome
submit_outcome H run lists = unless (submit_tests H run lists) (Ok (reply.Submitted run (length lists) (line_count lists)))

abbrev pub open_tests : History → List (Option Refusal)
open_tests H = wrong_phase_unless Collecting H ∷ []

abbrev pub open_outcome : History → Outcome
open_outcome H = unless (open_tests H) (Ok reply.Done)

abbrev pub lease_tests : History → Caller → ℕ → Text → List (Option Refusal)
lease_tests H who now topic =
    wrong_phase_unless Judging H
    ∷ (refusal.UnknownTopic when not (is_topic H topic))
    ∷ (refusal.TooMany (length (live_leases_of H now who.name)) when nat_le (rules_of H).hold (length (live_leases_of H now who.name))) ∷ []

-- the lease of a document, numbered next, up to the rules' term from now
abbrev pub lease_outcome_of : History → ℕ → Text → Text → Outcome
lease_outcome_of H now topic doc = Ok (reply.Leased (length (leases H) + 1) topic doc (now + (rules_of H).term) (title H topic))

abbrev pub lease_outcome : History → Caller → ℕ → Text → Outcome
lease_outcome H who now topic =
    unless (lease_tests H who now topic) (unless_missing (named_document H now who.name topic) refusal.NothingLeft (lease_outcome_of H now topic))

-- The refusals of a request about a lease: it isn't the caller's, it ended, its moment passed.
abbrev pub lease_refusals : History → Caller → ℕ → Lease → List (Option Refusal)
lease_refusals H who now lease =
    (refusal.NotYours when not (bytes_eq lease.assessor who.name))
    ∷ (refusal.Ended when is_ended H lease.number)
    ∷ (refusal.Expired lease.until when nat_le lease.until now) ∷ []

-- a grade above the greatest
abbrev pub grade_range : History → ℕ → Option Refusal
grade_range H grade = refusal.GradeRange when nat_lt (rules_of H).top_grade grade

abbrev pub judging_tests : History → List (Option Refusal)
judging_tests H = wrong_phase_unless Judging H ∷ []

-- the grade of a lease that was found
abbrev pub graded_lease : History → Caller → ℕ → ℕ → Lease → Outcome
graded_lease H who now grade lease =
    unless (lease_refusals H who now lease ++ grade_range H grade ∷ []) (Ok (reply.Graded lease.topic lease.doc grade))

abbrev pub grade_outcome : History → Caller → ℕ → ℕ → ℕ → Outcome
grade_outcome H who now number grade =
    unless (judging_tests H) (unless_missing (lease_numbered H number) refusal.UnknownLease (graded_lease H who now grade))

-- the release of a lease that was found
abbrev pub released_lease : History → Caller → ℕ → Lease → Outcome
released_lease H who now lease = unless (lease_refusals H who now lease) (Ok reply.Done)

abbrev pub release_outcome : History → Caller → ℕ → ℕ → Outcome
release_outcome H who now number =
    unless (judging_tests H) (unless_missing (lease_numbered H number) refusal.UnknownLease (released_lease H who now))

abbrev pub amend_tests : History → Caller → Text → Text → ℕ → List (Option Refusal)
amend_tests H who topic doc grade =
    wrong_phase_unless Judging H
    ∷ (refusal.UnknownTopic when not (is_topic H topic))
    ∷ (refusal.NotLabelled when not (is_labelled_by H topic doc who.name))
    ∷ grade_range H grade ∷ []

abbrev pub amend_outcome : History → Caller → Text → Text → ℕ → Outcome
amend_outcome H who topic doc grade = unless (amend_tests H who topic doc grade) (Ok reply.Done)

abbrev pub rule_tests : History → Text → Text → ℕ → List (Option Refusal)
rule_tests H topic doc grade =
    wrong_phase_unless Judging H
    ∷ (refusal.UnknownTopic when not (is_topic H topic))
    ∷ (refusal.NotLabelled when not (is_labelled H topic doc))
    ∷ grade_range H grade ∷ []

abbrev pub rule_outcome : History → Text → Text → ℕ → Outcome
rule_outcome H topic doc grade = unless (rule_tests H topic doc grade) (Ok reply.Done)

-- The refusals of a request about a run: a group asks about its own runs alone, and a withdrawn run has no part any more.
abbrev pub run_refusals : History → Caller → Text → List (Option Refusal)
run_refusals H who name =
    (refusal.NotYours when (is_group who.role && not (is_submitter H who.name name)))
    ∷ (refusal.Withdrawn when is_withdrawn H name) ∷ []

abbrev pub withdraw_tests : History → List (Option Refusal)
withdraw_tests H = wrong_phase_where Published H ∷ []

abbrev pub withdraw_outcome : History → Caller → Text → Outcome
withdraw_outcome H who name =
    unless (withdraw_tests H) (unless_missing (run_named H name) refusal.UnknownRun (λ run. unless (run_refusals H who name) (Ok reply.Done)))

abbrev pub publish_outcome : History → Outcome
publish_outcome H = unless (judging_tests H) (Ok reply.Done)

-- What a caller's command comes to at a moment.
abbrev pub command_outcome : History → Caller → ℕ → Command → Outcome
command_outcome H who now (command.Topics topics) = topics_outcome H topics
command_outcome H who now (command.Submit run lists) = submit_outcome H run lists
command_outcome H who now command.Open = open_outcome H
command_outcome H who now (command.Lease topic) = lease_outcome H who now topic
command_outcome H who now (command.Grade lease grade) = grade_outcome H who now lease grade
command_outcome H who now (command.Release lease) = release_outcome H who now lease
command_outcome H who now (command.Amend topic doc grade) = amend_outcome H who topic doc grade
command_outcome H who now (command.Rule topic doc grade) = rule_outcome H topic doc grade
command_outcome H who now (command.Withdraw run) = withdraw_outcome H who run
command_outcome H who now command.Publish = publish_outcome H
-- nobody gives this: the founding entry is there from the start
command_outcome H who now (command.Found rules) = Err (refusal.WrongPhase (phase H))

-- What each query comes to.

abbrev pub pool_tests : History → Text → List (Option Refusal)
pool_tests H topic = (refusal.UnknownTopic when not (is_topic H topic)) ∷ []

abbrev pub pool_outcome : History → Text → Outcome
pool_outcome H topic = unless (pool_tests H topic) (Ok (reply.Pool topic (pool H topic)))

-- A page is told to everyone who may ask for it.
abbrev pub page_outcome : Text → Outcome
page_outcome text = Ok (reply.Page text)

abbrev pub scores_outcome : History → Caller → Text → Outcome
scores_outcome H who name =
    unless_missing (run_named H name) refusal.UnknownRun (λ run. unless (run_refusals H who name) (page_outcome (scores_page H run)))

-- The one release is what the campaign published.
abbrev pub release_tests : History → ℕ → List (Option Refusal)
release_tests H release = (refusal.UnknownRelease when not (is_phase Published (phase H) && release == 1)) ∷ []

abbrev pub release_outcome_of : History → ℕ → Text → Outcome
release_outcome_of H release text = unless (release_tests H release) (page_outcome text)

-- What a caller's query comes to at a moment.
abbrev pub query_outcome : History → Caller → ℕ → Query → Outcome
query_outcome H who now (query.Pool topic) = pool_outcome H topic
query_outcome H who now query.Qrels = page_outcome (qrels_page H)
query_outcome H who now (query.Scores run) = scores_outcome H who run
query_outcome H who now query.Table = page_outcome (table_page H)
query_outcome H who now query.Disagreements = page_outcome (disagreements_page H)
query_outcome H who now query.Progress = page_outcome (progress_page H now)
query_outcome H who now (query.ReleaseQrels release) = release_outcome_of H release (qrels_page H)
query_outcome H who now (query.ReleaseScores release) = release_outcome_of H release (table_page H)

abbrev pub reply_of : Outcome → Reply
reply_of (Ok r) = r
reply_of (Err r) = reply.Refused r

-- a reply, and the entry that is added, if one is
pub record Answer : Type 0 where
  pub reply : Reply
  pub added : History

abbrev pub adding_nothing : Reply → Answer
adding_nothing r = record { reply = r; added = [] }

-- An accepted command is added with its reply.
abbrev pub answer_of_outcome : EntryCore → Outcome → Answer
answer_of_outcome core (Err r) = adding_nothing (reply.Refused r)
answer_of_outcome core (Ok r) = record { reply = r; added = record { core = core; reply = r } ∷ [] }

-- the greater of the moment that was handed in and that of the last entry
abbrev pub moment_after : History → ℕ → ℕ
moment_after H moment = max moment (option_map_or (λ e. e.core.moment) (slice_get H (length H - 1)) 0)

-- what a command comes to that wasn't accepted before under its number
abbrev pub command_answer : History → EntryCore → Answer
command_answer H core =
    if length H == max_entries then adding_nothing (reply.Refused (refusal.Limit quantity.Entries))
    else answer_of_outcome core (command_outcome H core.caller core.moment core.command)

-- The same command under the same number gets the reply that was kept, and another command none.
abbrev pub repeat_answer : Command → ℕ × Entry → Answer
repeat_answer c placed = adding_nothing (if same_command c placed.1.core.command then placed.1.reply else reply.Refused (refusal.Reused placed.0))

-- The answer, by cases in their order:
-- a query is told and adds nothing, whatever its number;
-- a command whose caller used its number before gets the kept reply or is refused, and adds nothing;
-- another command is refused where H is full, by the first refusal of its kind that holds, or accepted.
abbrev pub answer : History → Caller → Option ℕ → Ask → ℕ → Answer
answer H who number (See q) moment = adding_nothing (reply_of (query_outcome H who (moment_after H moment) q))
answer H who number (Act c) moment =
    option_map_or (repeat_answer c) (entry_of_number H who.name number)
    (command_answer H (record { caller = who; number = number; moment = moment_after H moment; command = c }))
