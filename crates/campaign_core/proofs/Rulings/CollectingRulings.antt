-- What Topics and Submit come to, past their refusals.
use Rattle.std.proofs.Common.{◌≡◌, ◌+◌, ◌<◌, ◌≤◌, ℕ, subst, true, false, List, [], ◌∷◌, ◌++◌, suc, arith, length-append, None, Some, Err, Ok, le-leb, length, refl}
use Rattle.std.proofs.lemmas.Bool.{le-ltb, lt-leb, lt-ltb}
use Rattle.std.specs.Prelude.{nat_lt}
use Rattle.std.specs.List.{fold, flat_map}
use Rattle.std.specs.Int.{to_le_bytes, w32}
use Rattle.rulebook.specs.declared.ask.Command.TheVariants.{Submit}
use Rattle.rulebook.specs.Spelling.{short, spelled_list, list_bytes, command_bytes}
use Rattle.std.proofs.lemmas.List.Sums.{fold-append, sum_by-cons}
use Rattle.trec_formats.specs.declared.Topic.{Topic}
use Rattle.trec_formats.specs.declared.TopicList.{TopicList}
use Rattle.rulebook.specs.declared.limits.TheConstants.{MAX_RUNS, MAX_TOPICS, MAX_LINES, MAX_DOCNOS, MAX_ENTRY_BYTES}
use Rattle.rulebook.specs.declared.ask.Command.{Command}
use Rattle.rulebook.specs.declared.reply.Quantity.TheVariants as quantity
use Rattle.rulebook.specs.declared.reply.Refusal.TheVariants as refusal
use Rattle.rulebook.specs.declared.reply.Reply.TheVariants as reply
use Rattle.rulebook.specs.Words.{Text, each_once}
use Rattle.decimal_rank.specs.Names.{with_name}
use Rattle.rulebook.specs.declared.rules.Phase.{Phase}
use Rattle.rulebook.specs.declared.rules.Phase.TheVariants.{Collecting, Judging, Published}
use Rattle.rulebook.specs.Requests.Refusals.{is_phase}
use Rattle.rulebook.specs.Campaign.{History, phase, has_topics, runs, is_taken, line_count, docnos, submitted_lines, submitted_docnos}
use Rattle.rulebook.specs.Answers.{topics_outcome, unknown_line, submit_outcome}

-- the docnos of the history, and then those of a run
pub each_once-submitted : (H : History) (lists : List TopicList)
    → each_once (submitted_docnos H ++ docnos lists) ≡ fold with_name (each_once (submitted_docnos H)) (docnos lists)
each_once-submitted H lists = fold-append with_name [] (submitted_docnos H) (docnos lists)

pub collecting-from : (p : Phase) → is_phase Collecting p ≡ true → p ≡ Collecting
collecting-from Collecting is = refl
collecting-from Judging is = cc is
collecting-from Published is = cc is

pub topics-accepted : (H : History) (given : List Topic) → phase H ≡ Collecting → has_topics H ≡ false
    → length given ≤ MAX_TOPICS → topics_outcome H given ≡ Ok (reply.Topics (length given))
topics-accepted H given collecting none few = rw (collecting, none, le-ltb MAX_TOPICS (length given) few) refl

pub submit-taken : (H : History) (run : Text) (lists : List TopicList) → is_phase Published (phase H) ≡ false
    → is_taken H run ≡ true → submit_outcome H run lists ≡ Err refusal.TagTaken
submit-taken H run lists unpublished taken = rw (unpublished, taken) refl

pub submit-unlisted : (H : History) (run : Text) (lists : List TopicList) (line : ℕ) → is_phase Published (phase H) ≡ false
    → is_taken H run ≡ false → unknown_line H lists ≡ Some line
    → submit_outcome H run lists ≡ Err (refusal.LineTopic line)
submit-unlisted H run lists line unpublished free unlisted = rw (unpublished, free, unlisted) refl

pub submit-too-many-runs : (H : History) (run : Text) (lists : List TopicList) → is_phase Published (phase H) ≡ false
    → is_taken H run ≡ false → unknown_line H lists ≡ None → MAX_RUNS ≤ length (runs H)
    → submit_outcome H run lists ≡ Err (refusal.Limit quantity.Runs)
submit-too-many-runs H run lists unpublished free spelled_list full = rw (unpublished, free, spelled_list, le-leb MAX_RUNS (length (runs H)) full) refl

-- a run that passes the tests before those of its lines and its docnos
pub record Passes (H : History) (run : Text) (lists : List TopicList) : Type 0 where
  pub unpublished : is_phase Published (phase H) ≡ false
  pub free : is_taken H run ≡ false
  pub listed : unknown_line H lists ≡ None
  pub runs_fit : length (runs H) < MAX_RUNS

module _ (H : History) (run : Text) (lists : List TopicList) (passes : Passes H run lists) where
  pub submit-too-many-lines : nat_lt MAX_LINES (submitted_lines H + line_count lists) ≡ true → submit_outcome H run lists ≡ Err (refusal.Limit quantity.Lines)
  submit-too-many-lines full = rw (passes.unpublished, passes.free, passes.listed, lt-leb MAX_RUNS (length (runs H)) passes.runs_fit, full) refl

  module _ (lines_fit : nat_lt MAX_LINES (submitted_lines H + line_count lists) ≡ false) where
    pub submit-too-many-docnos : MAX_DOCNOS < length (each_once (submitted_docnos H ++ docnos lists))
        → submit_outcome H run lists ≡ Err (refusal.Limit quantity.Docnos)
    submit-too-many-docnos full =
        rw (
          passes.unpublished,
          passes.free,
          passes.listed,
          lt-leb MAX_RUNS (length (runs H)) passes.runs_fit,
          lines_fit,
          lt-ltb MAX_DOCNOS (length (each_once (submitted_docnos H ++ docnos lists))) full,
        ) refl

    pub submit-accepted : length (each_once (submitted_docnos H ++ docnos lists)) ≤ MAX_DOCNOS
        → submit_outcome H run lists ≡ Ok (reply.Submitted run (length lists) (line_count lists))
    submit-accepted docnos_fit =
        rw (
          passes.unpublished,
          passes.free,
          passes.listed,
          lt-leb MAX_RUNS (length (runs H)) passes.runs_fit,
          lines_fit,
          le-ltb MAX_DOCNOS (length (each_once (submitted_docnos H ++ docnos lists))) docnos_fit,
        ) refl

-- A run's lists and lines are no more than the bytes of their spelling.
docs-bytes : (docs : List Text) → length docs ≤ length (flat_map short docs)
docs-bytes [] = omega arith
docs-bytes (doc ∷ docs) = omega (arith, docs-bytes docs, length-append (short doc) (flat_map short docs))

list-bytes : (l : TopicList) → suc (length l.docs) ≤ length (list_bytes l)
list-bytes l =
    omega (
      arith,
      docs-bytes l.docs,
      length-append (short l.topic ++ to_le_bytes w32 l.line) (spelled_list short l.docs),
      length-append (short l.topic) (to_le_bytes w32 l.line),
      length-append (to_le_bytes w32 (length l.docs)) (flat_map short l.docs),
    )

lists-bytes : (lists : List TopicList) → length lists + line_count lists ≤ length (flat_map list_bytes lists)
lists-bytes [] = omega arith
lists-bytes (l ∷ lists) =
    omega (arith, list-bytes l, lists-bytes lists, sum_by-cons (λ l. length l.docs) l lists, length-append (list_bytes l) (flat_map list_bytes lists))

pub submit-bytes : (run : Text) (lists : List TopicList) → length lists + line_count lists ≤ length (command_bytes (Submit run lists))
submit-bytes run lists =
    omega (
      arith,
      lists-bytes lists,
      length-append (3 ∷ short run) (spelled_list list_bytes lists),
      length-append (to_le_bytes w32 (length lists)) (flat_map list_bytes lists),
    )

pub submit-fits : (command : Command) (run : Text) (lists items : List TopicList)
    → command ≡ Submit run lists → length (command_bytes command) ≤ MAX_ENTRY_BYTES → items ≡ lists → length items + line_count items ≤ MAX_ENTRY_BYTES
submit-fits command run lists items is short_enough same =
    let bound : length (command_bytes (Submit run lists)) ≤ MAX_ENTRY_BYTES = subst (λ c. length (command_bytes c) ≤ MAX_ENTRY_BYTES) is short_enough in
    rw same (omega (arith, submit-bytes run lists))
