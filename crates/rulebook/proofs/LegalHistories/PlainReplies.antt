-- Every reply on a legal history is plain, and a command's is short.
use Rattle.std.proofs.Common.{◌≡◌, ℕ, Bool, true, false, List, [], ◌∷◌, ◌++◌, Option, None, Some, Ok, Err, length, map, refl, sym, ap, ◌∙◌, filter}
use Rattle.std.specs.Prelude.{◌&&◌, ◌==◌, ◌-◌, ◌^◌, if◌then◌else◌, nat_lt, nat_le, not, slice_get, unwrap_or}
use Rattle.std.specs.List.{All, enumerate_from, filter_map, find, flat_map, list_all}
use Rattle.std.specs.Option.{option_and_then, option_map_or}
use Rattle.std.specs.Str.{bytes_eq}
use Rattle.std.proofs.lemmas.List.Sums.{AllPass-from_list_all}
use Rattle.std.proofs.lemmas.Bool.{and_from}
use Rattle.decimal_rank.proofs.Lists.{all_taken}
use Rattle.decimal_rank.proofs.TruthValues.{first_of_both, second_of_both}
use Rattle.trec_formats.specs.declared.Topic.{Topic}
use Rattle.trec_formats.specs.declared.TopicList.{TopicList}
use Rattle.trec_formats.specs.Names.{is_between, is_name, is_docno}
use Rattle.rulebook.specs.Requests.Limits.{max_entries, max_entry_bytes, max_moment}
use Rattle.rulebook.specs.declared.rules.Caller.{Caller}
use Rattle.rulebook.specs.declared.ask.Ask.{Ask}
use Rattle.rulebook.specs.declared.ask.Ask.TheVariants.{Act, See}
use Rattle.rulebook.specs.declared.ask.Command.{Command}
use Rattle.rulebook.specs.declared.ask.Command.TheVariants as command
use Rattle.rulebook.specs.declared.ask.Query.{Query}
use Rattle.rulebook.specs.declared.ask.Query.TheVariants as query
use Rattle.rulebook.specs.declared.entry.Entry.{Entry}
use Rattle.rulebook.specs.declared.entry.EntryCore.{EntryCore}
use Rattle.rulebook.specs.declared.reply.Quantity.TheVariants as quantity
use Rattle.rulebook.specs.declared.reply.Refusal.{Refusal}
use Rattle.rulebook.specs.declared.reply.Refusal.TheVariants as refusal
use Rattle.rulebook.specs.declared.reply.Reply.{Reply}
use Rattle.rulebook.specs.declared.reply.Reply.TheVariants as reply
use Rattle.rulebook.specs.Answers.{adding_nothing, answer, answer_of_outcome, command_answer, command_outcome, lease_outcome_of, moment_after, page_outcome, pool_tests, query_outcome, release_outcome_of, release_tests, repeat_answer, reply_of, run_refusals}
use Rattle.rulebook.specs.Campaign.{History, Run, docs_on, held_documents, is_withdrawn, line_count, live, may_give, numbered_runs, pool, run_in, runs, title, topics, topics_in}
use Rattle.rulebook.specs.Judgements.JudgingOrder.{first_of, holds_open, is_open_to, named_document}
use Rattle.rulebook.specs.Judgements.Leases.{Lease, lease_in, lease_numbered, leases}
use Rattle.rulebook.specs.Histories.Legal.{IsAccepted, IsFounding, IsLegal, core_of, founding, is_named, is_well_addressed}
use Rattle.rulebook.specs.Requests.Numbers.{entry_of_number, is_numbered}
use Rattle.rulebook.specs.Reports.Pages.{qrels_page}
use Rattle.rulebook.specs.Requests.PlainReplies.{is_plain_and_short, is_plain_entry, is_plain_reply, is_short_reply}
use Rattle.rulebook.specs.Requests.Refusals.{Outcome, unless, unless_missing}
use Rattle.rulebook.specs.Requests.Roles.{may_see}
use Rattle.rulebook.specs.Requests.SameCommands.{same_command}
use Rattle.rulebook.specs.Reports.Scores.{run_named, scores_page, table_page}
use Rattle.rulebook.specs.Spelling.{are_rules, differ, entry_bytes, has_spelling, is_ascending, is_number, is_plain, is_plain_list, is_plain_topic, is_printable}
use Rattle.rulebook.specs.Words.{Text}
use Rattle.rulebook.proofs.Elements.AllPass.{all_filtered, all_found, all_images, all_given, all_got, all_in_order, all_mapped_flat, all_numbered, all_pushed}
use Rattle.rulebook.proofs.LegalHistories.LegalWalk.{accepted_of, legal_induction}
use Rattle.rulebook.proofs.LegalHistories.Outcomes.{Accepts, Counts, Enters, Grades, Grants, ComesTo, Refuses, outcome}

abbrev pub ArePlain : History → Type 0
ArePlain H = list_all is_plain_entry H ≡ true

-- What is read of a history of plain entries is plain.

abbrev is_plain_run : Run → Bool
is_plain_run run = is_name run.name && list_all is_plain_list run.lists

abbrev is_plain_lease : Lease → Bool
is_plain_lease lease = is_name lease.topic && is_docno lease.doc

submit_parts : (run : Text) (lists : List TopicList) → is_plain (command.Submit run lists) ≡ true → (is_name run ≡ true) × (list_all is_plain_list lists ≡ true)
submit_parts run lists plain =
    let some : Bool = is_between 1 (2 ^ 32 - 1) (length lists) in
    let front = first_of_both (is_name run && some && list_all is_plain_list lists) (is_ascending (map (λ l. l.topic) lists)) plain in (
      first_of_both (is_name run) some (first_of_both (is_name run && some) (list_all is_plain_list lists) front),
      second_of_both (is_name run && some) (list_all is_plain_list lists) front,
    )

run_plain : (c : Command) (run : Run) → is_plain c ≡ true → run_in c ≡ Some run → is_plain_run run ≡ true
run_plain (command.Submit name lists) run plain is =
    let made : Run = record { name = name; lists = lists } in
    let same : made ≡ run = cc is in
    let parts = submit_parts name lists plain in
    ap is_plain_run (sym same) ∙ and_from (is_name name) (list_all is_plain_list lists) parts.0 parts.1
run_plain _ run plain is = cc is

lease_plain : (assessor : Text) (r : Reply) (lease : Lease) → is_plain_reply r ≡ true → lease_in assessor r ≡ Some lease → is_plain_lease lease ≡ true
lease_plain assessor (reply.Leased number topic doc until title) lease plain is =
    let made : Lease = record { number = number; assessor = assessor; topic = topic; doc = doc; until = until } in
    let same : made ≡ lease = cc is in
    ap is_plain_lease (sym same) ∙ first_of_both (is_name topic && is_docno doc) (is_printable 1000 title) plain
lease_plain assessor reply.Done lease plain is = cc is
lease_plain assessor (reply.Topics topics) lease plain is = cc is
lease_plain assessor (reply.Submitted run topics lines) lease plain is = cc is
lease_plain assessor (reply.Graded topic doc grade) lease plain is = cc is
lease_plain assessor (reply.Pool topic docs) lease plain is = cc is
lease_plain assessor (reply.Page text) lease plain is = cc is
lease_plain assessor (reply.Refused r) lease plain is = cc is

topics_plain : (c : Command) (ts : List Topic) → is_plain c ≡ true → topics_in c ≡ Some ts → list_all is_plain_topic ts ≡ true
topics_plain (command.Topics topics) ts plain is =
    let same : topics ≡ ts = cc is in
    let few : Bool = nat_lt (length topics) (2 ^ 32) in
    ap (list_all is_plain_topic) (sym same)
    ∙ second_of_both few (list_all is_plain_topic topics)
    (first_of_both (few && list_all is_plain_topic topics) (differ (map (λ t. t.id) topics)) plain)
topics_plain _ ts plain is = cc is

command_part : (e : Entry) → is_plain_entry e ≡ true → is_plain e.core.command ≡ true
command_part e plain = first_of_both (is_plain e.core.command) (is_plain_and_short e.reply) plain

reply_part : (e : Entry) → is_plain_entry e ≡ true → is_plain_reply e.reply ≡ true
reply_part e plain =
    first_of_both (is_plain_reply e.reply) (is_short_reply e.reply) (second_of_both (is_plain e.core.command) (is_plain_and_short e.reply) plain)

module _ (H : History) (all : ArePlain H) where
  runs_plain : list_all is_plain_run (runs H) ≡ true
  runs_plain = all_given is_plain_entry is_plain_run (λ e. run_in e.core.command)
      (λ e run plain is. run_plain e.core.command run (command_part e plain) is) H all

  -- the live runs, each with its number
  taking_part : list_all (λ (run : ℕ × Run). is_plain_run run.1) (numbered_runs H) ≡ true
  taking_part = all_filtered (λ (run : ℕ × Run). is_plain_run run.1) (λ (run : ℕ × Run). not (is_withdrawn H run.1.name))
      (enumerate_from 0 (runs H)) (all_numbered is_plain_run 0 (runs H) runs_plain)

  live_plain : list_all is_plain_run (live H) ≡ true
  live_plain = all_images is_plain_run (λ (run : ℕ × Run). run.1) (numbered_runs H) taking_part

  leases_plain : list_all is_plain_lease (leases H) ≡ true
  leases_plain =
      all_given is_plain_entry is_plain_lease (λ e. lease_in e.core.caller.name e.reply)
      (λ e lease plain is. lease_plain e.core.caller.name e.reply lease (reply_part e plain) is) H all

  pub numbered_plain : (number : ℕ) (lease : Lease) → lease_numbered H number ≡ Some lease → is_plain_lease lease ≡ true
  numbered_plain number lease is = step (nat_lt 0 number) is
    where
      step : (t : Bool) → (if t then slice_get (leases H) (number - 1) else None) ≡ Some lease → is_plain_lease lease ≡ true
      step true there = all_got is_plain_lease (leases H) (number - 1) lease leases_plain there
      step false none = cc none

  abbrev given_topics : List (List Topic)
  given_topics = filter_map (λ e. topics_in e.core.command) H

  all_topics_plain : list_all is_plain_topic (topics H) ≡ true
  all_topics_plain = step (slice_get given_topics 0) refl
    where
      given_plain : list_all (list_all is_plain_topic) given_topics ≡ true
      given_plain =
          all_given is_plain_entry (list_all is_plain_topic) (λ e. topics_in e.core.command)
          (λ e ts plain is. topics_plain e.core.command ts (command_part e plain) is) H all

      step : (o : Option (List Topic)) → slice_get given_topics 0 ≡ o → list_all is_plain_topic (unwrap_or o []) ≡ true
      step None is = refl
      step (Some ts) is = all_got (list_all is_plain_topic) given_topics 0 ts given_plain is

  title_plain : (topic : Text) → is_printable 1000 (title H topic) ≡ true
  title_plain topic = step (find (λ t. bytes_eq t.id topic) (topics H)) refl
    where
      step : (o : Option Topic) → find (λ t. bytes_eq t.id topic) (topics H) ≡ o → is_printable 1000 (option_map_or (λ (t : Topic). t.title) o []) ≡ true
      step None is = refl
      step (Some t) is =
          let plain = all_found is_plain_topic (λ t. bytes_eq t.id topic) (topics H) t all_topics_plain is in
          second_of_both (is_name t.id) (is_printable 1000 t.title)
          (first_of_both (is_name t.id && is_printable 1000 t.title) (is_printable 8192 t.desc)
          (first_of_both (is_name t.id && is_printable 1000 t.title && is_printable 8192 t.desc) (is_printable 8192 t.narr) plain))

  held_plain : (topic : Text) (run : Run) → is_plain_run run ≡ true → list_all is_docno (held_documents H topic run) ≡ true
  held_plain topic run plain = all_taken is_docno _ (docs_on run.lists topic) (step (find (λ l. bytes_eq l.topic topic) run.lists) refl)
    where
      step : (o : Option TopicList) → find (λ l. bytes_eq l.topic topic) run.lists ≡ o
          → list_all is_docno (option_map_or (λ (l : TopicList). l.docs) o []) ≡ true
      step None is = refl
      step (Some l) is =
          let lists = second_of_both (is_name run.name) (list_all is_plain_list run.lists) plain in
          let list = all_found is_plain_list (λ l. bytes_eq l.topic topic) run.lists l lists is in
          let front = first_of_both _ _ list in
          second_of_both _ (list_all is_docno l.docs) front

  pool_plain : (topic : Text) → list_all is_docno (pool H topic) ≡ true
  pool_plain topic =
      all_in_order is_docno (flat_map (held_documents H topic) (live H))
      (all_mapped_flat is_plain_run is_docno (held_documents H topic) (held_plain topic) (live H) live_plain)

  named_plain : (now : ℕ) (assessor topic doc : Text) → named_document H now assessor topic ≡ Some doc → is_docno doc ≡ true
  named_plain now assessor topic doc is = step (first_of H topic candidates) refl is
    where
      candidates : List (ℕ × Run)
      candidates = filter (holds_open H now assessor topic) (numbered_runs H)

      plain : list_all (λ run. is_plain_run run.1) candidates ≡ true
      plain = all_filtered (λ run. is_plain_run run.1) (holds_open H now assessor topic) (numbered_runs H) taking_part

      step : (o : Option (ℕ × Run)) → first_of H topic candidates ≡ o
          → option_and_then (λ (run : ℕ × Run). find (is_open_to H now assessor topic) (held_documents H topic run.1)) o ≡ Some doc → is_docno doc ≡ true
      step None first found = cc found
      step (Some run) first found =
          all_found is_docno (is_open_to H now assessor topic) (held_documents H topic run.1) doc
          (held_plain topic run.1 (all_found (λ run. is_plain_run run.1) _ candidates run plain first)) found

-- What each refusal passes, an outcome passes where what follows its refusals does.
module _ (p : Reply → Bool) (refused : (r : Refusal) → p (reply.Refused r) ≡ true) where
  unless_passes : (tests : List (Option Refusal)) (rest : Outcome) → p (reply_of rest) ≡ true → p (reply_of (unless tests rest)) ≡ true
  unless_passes [] rest passes = passes
  unless_passes (None ∷ tests) rest passes = unless_passes tests rest passes
  unless_passes (Some r ∷ tests) rest passes = refused r

  given_passes : {X : Type 0} (o : Option X) (r : Refusal) (follows : X → Outcome) → ((x : X) → o ≡ Some x → p (reply_of (follows x)) ≡ true)
      → p (reply_of (unless_missing o r follows)) ≡ true
  given_passes None r follows passes = refused r
  given_passes (Some x) r follows passes = passes x refl

refused_plain : (r : Refusal) → is_plain_reply (reply.Refused r) ≡ true
refused_plain r = refl

module _ (H : History) (all : ArePlain H) (who : Caller) (now : ℕ) where
  pub outcome_short : (c : Command) → is_plain c ≡ true → is_plain_and_short (reply_of (command_outcome H who now c)) ≡ true
  outcome_short c plain = step (outcome H who now c)
    where
      short : (came : Outcome) → is_plain_and_short (reply_of came) ≡ true → command_outcome H who now c ≡ came
          → is_plain_and_short (reply_of (command_outcome H who now c)) ≡ true
      short came passes is = ap (λ (r : Outcome). is_plain_and_short (reply_of r)) is ∙ passes

      step : ComesTo H who now c (command_outcome H who now c) → is_plain_and_short (reply_of (command_outcome H who now c)) ≡ true
      step (Refuses r is) = short (Err r) refl is
      step (Accepts is) = short (Ok reply.Done) refl is
      step (Counts topics is) = short (Ok (reply.Topics (length topics))) refl is
      step (Enters run lists command_is is) =
          short (Ok (reply.Submitted run (length lists) (line_count lists)))
          (and_from (is_name run) true ((submit_parts run lists (ap is_plain (sym command_is) ∙ plain)).0) refl) is
      step (Grants topic doc command_is named_is is) =
          let name : is_name topic ≡ true = ap is_plain (sym command_is) ∙ plain in
          short (lease_outcome_of H now topic doc)
          (and_from (is_name topic && is_docno doc && is_printable 1000 (title H topic)) true
          (and_from (is_name topic && is_docno doc) (is_printable 1000 (title H topic))
          (and_from (is_name topic) (is_docno doc) name (named_plain H all now who.name topic doc named_is)) (title_plain H all topic)) refl) is
      step (Grades number grade lease found is) =
          short (Ok (reply.Graded lease.topic lease.doc grade)) (and_from (is_plain_lease lease) true (numbered_plain H all number lease found) refl) is

  abbrev scores_told : Text → Run → Outcome
  scores_told run found = unless (run_refusals H who run) (page_outcome (scores_page H found))

  release_told : (release : ℕ) (text : Text) → is_plain_reply (reply_of (release_outcome_of H release text)) ≡ true
  release_told release text = unless_passes is_plain_reply refused_plain (release_tests H release) (page_outcome text) refl

  told_plain : (q : Query) → is_named q ≡ true → is_plain_reply (reply_of (query_outcome H who now q)) ≡ true
  told_plain (query.Pool topic) name =
      unless_passes is_plain_reply refused_plain (pool_tests H topic) (Ok (reply.Pool topic (pool H topic)))
      (and_from (is_name topic) (list_all is_docno (pool H topic)) name (pool_plain H all topic))
  told_plain (query.Scores run) name =
      given_passes is_plain_reply refused_plain (run_named H run) refusal.UnknownRun (scores_told run)
      (λ found is. unless_passes is_plain_reply refused_plain (run_refusals H who run) (page_outcome (scores_page H found)) refl)
  told_plain (query.ReleaseQrels release) name = release_told release (qrels_page H)
  told_plain (query.ReleaseScores release) name = release_told release (table_page H)
  told_plain _ name = refl

-- a well addressed command is plain
pub addressed_plain : (who : Caller) (number : Option ℕ) (c : Command) (moment : ℕ) → is_well_addressed who number (Act c) moment ≡ true → is_plain c ≡ true
addressed_plain who number c moment addressed =
    let core : EntryCore = core_of who number moment c in
    let front = first_of_both (may_give who.role c && has_spelling core) (nat_le (length (entry_bytes core)) max_entry_bytes) addressed in
    let spelled = second_of_both (may_give who.role c) (has_spelling core) front in
    second_of_both (is_name who.name && is_number number && nat_le moment max_moment) (is_plain c) spelled

addressed_named : (who : Caller) (number : Option ℕ) (q : Query) (moment : ℕ) → is_well_addressed who number (See q) moment ≡ true → is_named q ≡ true
addressed_named who number q moment addressed =
    second_of_both (may_see who.role q && is_name who.name) (is_named q)
    (first_of_both (may_see who.role q && is_name who.name && is_named q) (nat_le moment max_moment) addressed)

-- The walk over a legal history

founding_plain : (first : Entry) → IsFounding first → ArePlain (first ∷ [])
founding_plain first is =
    ap (λ (e : Entry). list_all is_plain_entry (e ∷ [])) is.2 ∙ and_from (is_plain_entry (founding is.0)) true (and_from (are_rules is.0) true is.1 refl) refl

entry_plain : (H : History) (e : Entry) → ArePlain H → IsAccepted H e → is_plain_entry e ≡ true
entry_plain H e all accepted =
    let plain = addressed_plain e.core.caller e.core.number e.core.command e.core.moment accepted.addressed in
    and_from (is_plain e.core.command) (is_plain_and_short e.reply) plain
    (ap (λ (r : Outcome). is_plain_and_short (reply_of r)) (sym (accepted_of H e accepted).outcome_is)
    ∙ outcome_short H all e.core.caller (moment_after H e.core.moment) e.core.command plain)

pub all_plain : (H : History) → IsLegal H → ArePlain H
all_plain =
    legal_induction ArePlain (λ before e legal all accepted. all_pushed is_plain_entry before e all (entry_plain before e all accepted)) founding_plain

pub entries_plain : (H : History) → IsLegal H → All (λ e. is_plain_entry e ≡ true) H
entries_plain H legal = AllPass-from_list_all is_plain_entry H (all_plain H legal)

-- The answers

-- the reply that a number was given is that of an entry
kept_short : (H : History) (name : Text) (number : Option ℕ) (placed : ℕ × Entry) → ArePlain H
    → entry_of_number H name number ≡ Some placed → is_plain_and_short placed.1.reply ≡ true
kept_short H name None placed all is = cc is
kept_short H name (Some number) placed all is =
    let entry = all_found (λ (p : ℕ × Entry). is_plain_entry p.1) (λ p. is_numbered name number p.1)
    (enumerate_from 1 H) placed (all_numbered is_plain_entry 1 H all) is in
    second_of_both (is_plain placed.1.core.command) (is_plain_and_short placed.1.reply) entry

command_short : (H : History) (who : Caller) (number : Option ℕ) (c : Command) (moment : ℕ) → IsLegal H
    → is_well_addressed who number (Act c) moment ≡ true → is_plain_and_short (answer H who number (Act c) moment).reply ≡ true
command_short H who number c moment legal addressed = by_use (entry_of_number H who.name number) refl
  where
    core : EntryCore
    core = core_of who number (moment_after H moment) c

    by_outcome : (full : Bool) (came : Outcome) → is_plain_and_short (reply_of came) ≡ true
        → is_plain_and_short (if full then adding_nothing (reply.Refused (refusal.Limit quantity.Entries)) else answer_of_outcome core came).reply ≡ true
    by_outcome true came passes = refl
    by_outcome false (Ok r) passes = passes
    by_outcome false (Err r) passes = passes

    by_sameness : (same : Bool) (placed : ℕ × Entry) → is_plain_and_short placed.1.reply ≡ true
        → is_plain_and_short (if same then placed.1.reply else reply.Refused (refusal.Reused placed.0)) ≡ true
    by_sameness true placed passes = passes
    by_sameness false placed passes = refl

    by_use : (kept : Option (ℕ × Entry)) → entry_of_number H who.name number ≡ kept
        → is_plain_and_short (option_map_or (repeat_answer c) kept (command_answer H core)).reply ≡ true
    by_use None is =
        by_outcome (length H == max_entries) (command_outcome H who (moment_after H moment) c)
        (outcome_short H (all_plain H legal) who (moment_after H moment) c (addressed_plain who number c moment addressed))
    by_use (Some placed) is = by_sameness (same_command c placed.1.core.command) placed (kept_short H who.name number placed (all_plain H legal) is)

pub replies_plain : (H : History) (who : Caller) (number : Option ℕ) (ask : Ask) (moment : ℕ) → IsLegal H
    → is_well_addressed who number ask moment ≡ true → is_plain_reply (answer H who number ask moment).reply ≡ true
replies_plain H who number (Act c) moment legal addressed = first_of_both _ _ (command_short H who number c moment legal addressed)
replies_plain H who number (See q) moment legal addressed =
    told_plain H (all_plain H legal) who (moment_after H moment) q (addressed_named who number q moment addressed)

pub commands_short : (H : History) (who : Caller) (number : Option ℕ) (c : Command) (moment : ℕ) → IsLegal H
    → is_well_addressed who number (Act c) moment ≡ true → is_short_reply (answer H who number (Act c) moment).reply ≡ true
commands_short H who number c moment legal addressed = second_of_both _ _ (command_short H who number c moment legal addressed)
