-- A legal list has room in a journal: Topics come once, runs are few, and the other entries are short.
use Rattle.std.proofs.Common.{◌≡◌, ℕ, ◌+◌, ◌*◌, ◌<◌, ◌≤◌, ◌^◌, ◌||◌, Bool, true, false, List, [], ◌∷◌, ◌++◌, Option, None, Some, Ok, length, map, refl, ap, ◌∙◌, arith, length-append, leb-true}
use Rattle.std.specs.Prelude.{◌&&◌, is_some, nat_le, nat_lt, sum_by}
use Rattle.std.specs.List.{cons_option, flat_map, list_all}
use Rattle.std.specs.Option.{option_map}
use Rattle.std.specs.Int.{to_le_bytes, w32}
use Rattle.std.proofs.lemmas.Bool.{leb-false}
use Rattle.std.proofs.lemmas.Bool.Decides.{nat_tests}
use Rattle.std.proofs.lemmas.List.Elements.{filter_map-append}
use Rattle.std.proofs.lemmas.List.Sums.{sum_by-append}
use Rattle.decimal_rank.proofs.Lists.{two_bytes, four_bytes, eight_bytes, all_head, all_tail}
use Rattle.decimal_rank.proofs.TruthValues.{first_of_both, second_of_both}
use Rattle.trec_formats.specs.Names.{is_between, is_docno, is_name, is_name_byte}
use Rattle.trec_formats.specs.declared.Topic.{Topic}
use Rattle.trec_formats.specs.declared.TopicList.{TopicList}
use Rattle.rulebook.specs.Requests.Limits.{max_docnos, max_entries, max_entry_bytes, max_lines, max_runs, max_topics}
use Rattle.rulebook.specs.declared.rules.Caller.{Caller}
use Rattle.rulebook.specs.declared.rules.Phase.TheVariants.{Collecting, Published}
use Rattle.rulebook.specs.declared.rules.Rules.{Rules}
use Rattle.rulebook.specs.declared.ask.Command.{Command}
use Rattle.rulebook.specs.declared.ask.Command.TheVariants as command
use Rattle.rulebook.specs.declared.entry.Entry.{Entry}
use Rattle.rulebook.specs.declared.reply.Quantity.TheVariants as quantity
use Rattle.rulebook.specs.declared.reply.Refusal.{Refusal}
use Rattle.rulebook.specs.declared.reply.Refusal.TheVariants as refusal
use Rattle.rulebook.specs.declared.reply.Reply.{Reply}
use Rattle.rulebook.specs.declared.reply.Reply.TheVariants as reply
use Rattle.rulebook.specs.Answers.{moment_after, submit_outcome, topics_outcome, command_outcome, unknown_line}
use Rattle.rulebook.specs.Histories.Facts.{given_topics}
use Rattle.rulebook.specs.Campaign.{History, docnos_with, has_topics, is_taken, line_count, lines_with, run_in, runs, topics_in}
use Rattle.rulebook.specs.Histories.Legal.{IsAccepted, IsLegal, founding}
use Rattle.rulebook.specs.Requests.Refusals.{Outcome, ◌when◌, unless, wrong_phase_unless, wrong_phase_where}
use Rattle.rulebook.specs.declared.rules.TopicLevel.{TopicLevel}
use Rattle.rulebook.specs.Spelling.{are_levels, are_rules, are_settings, command_bytes, entry_bytes, found_bytes, is_topic_level, level_bytes, spelled_list, is_ascending, is_number, is_plain, number_bytes, rules_bytes, short}
use Rattle.rulebook.specs.Words.{Text}
use Rattle.rulebook.proofs.LegalHistories.AddedEntries.{accepted_room, entry_size, given_of}
use Rattle.rulebook.proofs.LegalHistories.GrantedLeases.{passed}
use Rattle.rulebook.proofs.LegalHistories.LegalWalk.{accepted_of, legal_induction}

pub entries_few : (H : History) → IsLegal H → length H ≤ max_entries
entries_few =
    legal_induction (λ H. length H ≤ max_entries)
    (λ before e legal few accepted.
    let room = accepted_room before e accepted in
    let short : length before < max_entries = grind (arith, nat_tests) in
    rw (length-append before (e ∷ [])) (omega (arith, short)))
    (λ first is. omega arith)

-- The tests that an accepted command passed

passed_other : (o : Option Refusal) (tests : List (Option Refusal)) (outcome : Outcome) (told : Reply)
    → unless (o ∷ tests) outcome ≡ Ok told → unless tests outcome ≡ Ok told
passed_other None tests outcome told is = is
passed_other (Some r) tests outcome told is = cc is

topics_new : (H : History) (topics : List Topic) (told : Reply) → topics_outcome H topics ≡ Ok told → has_topics H ≡ false
topics_new H topics told is =
    (passed refusal.TopicsFixed (has_topics H) last outcome told (passed_other (wrong_phase_unless Collecting H) (fixed ∷ last) outcome told is)).0
  where
    outcome : Outcome
    outcome = Ok (reply.Topics (length topics))

    fixed : Option Refusal
    fixed = refusal.TopicsFixed when has_topics H

    last : List (Option Refusal)
    last = (refusal.Limit quantity.Topics when nat_lt max_topics (length topics)) ∷ []

runs_room : (H : History) (run : Text) (lists : List TopicList) (told : Reply)
    → submit_outcome H run lists ≡ Ok told → nat_le max_runs (length (runs H)) ≡ false
runs_room H run lists told is =
    (passed (refusal.Limit quantity.Runs) (nat_le max_runs (length (runs H))) last outcome told
    (passed_other line (limit ∷ last) outcome told
    (passed_other taken (line ∷ limit ∷ last) outcome told (passed_other (wrong_phase_where Published H) (taken ∷ line ∷ limit ∷ last) outcome told is)))).0
  where
    outcome : Outcome
    outcome = Ok (reply.Submitted run (length lists) (line_count lists))

    taken : Option Refusal
    taken = refusal.TagTaken when is_taken H run

    line : Option Refusal
    line = option_map refusal.LineTopic (unknown_line H lists)

    limit : Option Refusal
    limit = refusal.Limit quantity.Runs when nat_le max_runs (length (runs H))

    last : List (Option Refusal)
    last = (refusal.Limit quantity.Lines when nat_lt max_lines (lines_with H lists))
        ∷ (refusal.Limit quantity.Docnos when nat_lt max_docnos (length (docnos_with H lists))) ∷ []

-- Counts of the long entries

no_topics : (H : History) → has_topics H ≡ false → given_topics H ≡ []
no_topics [] none = refl
no_topics (e ∷ H) none = step (topics_in e.core.command) none (no_topics H)
  where
    step : (o : Option (List Topic)) → (is_some o || has_topics H) ≡ false → (has_topics H ≡ false → given_topics H ≡ []) → cons_option o (given_topics H) ≡ []
    step None none rest = rest none
    step (Some topics) none rest = cc none

-- how many long entries a command is
abbrev topics_of : Command → ℕ
topics_of c = length (cons_option (topics_in c) [])

abbrev runs_of : Command → ℕ
runs_of c = length (cons_option (run_in c) [])

topics_pushed : (H : History) (e : Entry) → length (given_topics (H ++ e ∷ [])) ≡ length (given_topics H) + topics_of e.core.command
topics_pushed H e =
    ap length (filter_map-append (λ (e : Entry). topics_in e.core.command) H (e ∷ []))
    ∙ length-append (given_topics H) (cons_option (topics_in e.core.command) [])

runs_pushed : (H : History) (e : Entry) → length (runs (H ++ e ∷ [])) ≡ length (runs H) + runs_of e.core.command
runs_pushed H e =
    ap length (filter_map-append (λ (e : Entry). run_in e.core.command) H (e ∷ [])) ∙ length-append (runs H) (cons_option (run_in e.core.command) [])

module _ (H : History) (who : Caller) (now : ℕ) where
  topics_step : (c : Command) (told : Reply) → command_outcome H who now c ≡ Ok told → length (given_topics H) ≤ 1 → length (given_topics H) + topics_of c ≤ 1
  topics_step (command.Found rules) told is once = cc is
  topics_step (command.Topics topics) told is once = omega (arith, ap length (no_topics H (topics_new H topics told is)))
  topics_step _ told is once = omega (arith, once)

  runs_step : (c : Command) (told : Reply) → command_outcome H who now c ≡ Ok told → length (runs H) ≤ max_runs → length (runs H) + runs_of c ≤ max_runs
  runs_step (command.Found rules) told is few = cc is
  runs_step (command.Submit run lists) told is few = omega (arith, leb-false max_runs (length (runs H)) (runs_room H run lists told is))
  runs_step _ told is few = omega (arith, few)

pub topics_once : (H : History) → IsLegal H → length (given_topics H) ≤ 1
topics_once =
    legal_induction (λ H. length (given_topics H) ≤ 1)
    (λ before e legal once accepted.
    let step = topics_step before e.core.caller (moment_after before e.core.moment) e.core.command e.reply (accepted_of before e accepted).outcome_is once in
    omega (arith, step, topics_pushed before e))
    (λ first is. rw (is.2) (omega arith))

pub runs_few : (H : History) → IsLegal H → length (runs H) ≤ max_runs
runs_few =
    legal_induction (λ H. length (runs H) ≤ max_runs)
    (λ before e legal few accepted.
    let step = runs_step before e.core.caller (moment_after before e.core.moment) e.core.command e.reply (accepted_of before e accepted).outcome_is few in
    omega (arith, step, runs_pushed before e))
    (λ first is. rw (is.2) (omega arith))

-- Sizes

name_size : (name : Text) → is_name name ≡ true → length name ≤ 32
unfolding is_name
name_size name is =
    let sized = first_of_both (is_between 1 32 (length name)) (list_all is_name_byte name) is in
    leb-true (length name) 32 (second_of_both (nat_le 1 (length name)) (nat_le (length name) 32) sized)

docno_size : (doc : Text) → is_docno doc ≡ true → length doc ≤ 64
unfolding is_docno
docno_size doc is =
    let sized = first_of_both (is_between 1 64 (length doc)) (list_all (is_between 33 126) doc) is in
    leb-true (length doc) 64 (second_of_both (nat_le 1 (length doc)) (nat_le (length doc) 64) sized)

number_size : (number : Option ℕ) → length (number_bytes number) ≤ 9
number_size None = omega arith
number_size (Some n) = omega (arith, eight_bytes n)

judged_size : (topic doc : Text) (grade : ℕ) → (is_name topic && is_docno doc && nat_lt grade 256) ≡ true → length (short topic ++ short doc ++ grade ∷ []) ≤ 99
judged_size topic doc grade plain =
    let front = first_of_both (is_name topic && is_docno doc) (nat_lt grade 256) plain in
    simp length-append
    (omega (arith, name_size topic (first_of_both (is_name topic) (is_docno doc) front), docno_size doc (second_of_both (is_name topic) (is_docno doc) front)))

names_size : (names : List Text) → list_all is_name names ≡ true → length (flat_map short names) ≤ 33 * length names
names_size [] named = omega arith
names_size (name ∷ names) named =
    omega (
      arith,
      name_size name (all_head is_name name names named),
      names_size names (all_tail is_name name names named),
      length-append (short name) (flat_map short names),
    )

rules_size : (r : Rules) → length (rules_bytes r) ≡ length (flat_map short r.doubles) + 17
rules_size r = simp (length-append, two_bytes, four_bytes, eight_bytes) (omega arith)

levels_size : (top : ℕ) (levels : List TopicLevel) → list_all (is_topic_level top) levels ≡ true
    → length (flat_map level_bytes levels) ≤ 34 * length levels
levels_size top [] all = omega arith
levels_size top (own ∷ levels) all =
    omega (
      arith,
      name_size own.topic (first_of_both (is_name own.topic) (is_between 1 top own.level) (all_head (is_topic_level top) own levels all)),
      levels_size top levels (all_tail (is_topic_level top) own levels all),
      length-append (level_bytes own) (flat_map level_bytes levels),
      length-append (short own.topic) (own.level ∷ []),
    )

found_size : (r : Rules) (levels : List TopicLevel) → list_all (is_topic_level r.top_grade) levels ≡ true
    → length (found_bytes r levels) ≤ length (rules_bytes r) + 34 * length levels + 5
found_size r [] all = omega arith
found_size r (own ∷ levels) all =
    omega (
      arith,
      levels_size r.top_grade (own ∷ levels) all,
      length-append (rules_bytes r) (spelled_list level_bytes (own ∷ levels)),
      length-append (to_le_bytes w32 (length (own ∷ levels))) (flat_map level_bytes (own ∷ levels)),
      four_bytes (length (own ∷ levels)),
    )

pub founding_fits : (rules : Rules) → are_rules rules ≡ true → length (entry_bytes (founding rules).core) ≤ max_entry_bytes
founding_fits r are =
    omega (
      arith,
      entry_size (founding r).core,
      rules_size r,
      found_size r r.levels (second_of_both few each levels),
      leb-true (length r.levels) 250 (first_of_both few each levels),
      names_size r.doubles (second_of_both (front && nat_le (length r.doubles) 250) (list_all is_name r.doubles) named),
      leb-true (length r.doubles) 250
          (second_of_both front (nat_le (length r.doubles) 250) (first_of_both (front && nat_le (length r.doubles) 250) (list_all is_name r.doubles) named)),
    )
  where
    front : Bool
    front = is_between 1 1000 r.depth && is_between 1 (2 ^ 40) r.term && is_between 1 50 r.hold
        && is_between 1 255 r.top_grade && is_between 1 r.top_grade r.level

    named : (front && nat_le (length r.doubles) 250 && list_all is_name r.doubles) ≡ true
    named = first_of_both (front && nat_le (length r.doubles) 250 && list_all is_name r.doubles) (is_ascending r.doubles)
        (first_of_both (are_settings r) (are_levels r) are)

    few : Bool
    few = nat_le (length r.levels) 250

    each : Bool
    each = list_all (is_topic_level r.top_grade) r.levels

    levels : (few && each) ≡ true
    levels = first_of_both (few && each) (is_ascending (map (λ (own : TopicLevel). own.topic) r.levels))
        (second_of_both (are_settings r) (are_levels r) are)

-- the most bytes of a long entry in its record
abbrev long : ℕ
long = 33554437

-- an accepted entry is short, or one of the long ones
module _ (H : History) (who : Caller) (now : ℕ) where
  entry_fits : (c : Command) (told : Reply) → command_outcome H who now c ≡ Ok told → is_plain c ≡ true
      → (size : ℕ) → size ≤ max_entry_bytes → size ≤ length (command_bytes c) + 51
      → size + 5 ≤ 156 + long * (topics_of c + runs_of c)
  entry_fits (command.Found rules) told is plain size most small = cc is
  entry_fits (command.Topics topics) told is plain size most small = omega (arith, most)
  entry_fits (command.Submit run lists) told is plain size most small = omega (arith, most)
  entry_fits (command.Lease topic) told is plain size most small = omega (arith, small, name_size topic plain)
  entry_fits (command.Grade lease grade) told is plain size most small =
      omega (arith, small, length-append (to_le_bytes w32 lease) (grade ∷ []), four_bytes lease)
  entry_fits (command.Release lease) told is plain size most small = omega (arith, small, four_bytes lease)
  entry_fits (command.Amend topic doc grade) told is plain size most small = omega (arith, small, judged_size topic doc grade plain)
  entry_fits (command.Rule topic doc grade) told is plain size most small = omega (arith, small, judged_size topic doc grade plain)
  entry_fits (command.Withdraw run) told is plain size most small = omega (arith, small, name_size run plain)
  entry_fits _ told is plain size most small = omega (arith, small)

abbrev weight_of : Entry → ℕ
weight_of e = length (entry_bytes e.core) + 5

abbrev weight : History → ℕ
weight H = sum_by weight_of H

abbrev bound : History → ℕ
bound H = 156 * length H + long * (length (given_topics H) + length (runs H) + 1)

accepted_weight : (H : History) (e : Entry) → IsAccepted H e → weight_of e ≤ 156 + long * (topics_of e.core.command + runs_of e.core.command)
accepted_weight H e accepted =
    let core = e.core in
    let given = given_of core.caller core.number core.command core.moment accepted.addressed in
    let name = name_size core.caller.name (first_of_both (is_name core.caller.name) (is_number core.number) given.named) in
    entry_fits H core.caller (moment_after H core.moment) core.command e.reply
    (accepted_of H e accepted).outcome_is given.plain (length (entry_bytes core)) given.short
    (omega (arith, entry_size core, name, number_size core.number))

weight_bound : (H : History) → IsLegal H → weight H ≤ bound H
weight_bound =
    legal_induction (λ H. weight H ≤ bound H)
    (λ before e legal within accepted.
    omega (
      arith,
      within,
      accepted_weight before e accepted,
      sum_by-append weight_of before (e ∷ []),
      length-append before (e ∷ []),
      topics_pushed before e,
      runs_pushed before e,
    ))
    (λ first is. let fits = founding_fits is.0 is.1 in rw (is.2) (omega (arith, fits)))

pub legal_fit : (H : History) → IsLegal H → 17 + weight H ≤ 2 ^ 39
legal_fit H legal = omega (arith, weight_bound H legal, entries_few H legal, runs_few H legal, topics_once H legal)
