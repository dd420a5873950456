-- The ranked lists of submitted runs name no document twice.
use Rattle.std.proofs.Common.{◌≡◌, ◌&&◌, ℕ, zero, suc, Bool, true, false, cond, List, [], ◌∷◌, None, Option, Some, find, length, map, refl, sym, ap, ◌∙◌}
use Rattle.std.specs.Prelude.{◌-◌, ◌^◌, All, IsTrue, nat_lt, slice_get}
use Rattle.std.specs.List.{cons_option, list_all}
use Rattle.std.specs.Option.{option_map_or}
use Rattle.std.specs.Str.{bytes_eq}
use Rattle.std.proofs.lemmas.List.Elements.{All-head, All-tail}
use Rattle.std.proofs.lemmas.Bool.{and_parts}
use Rattle.trec_formats.specs.declared.TopicList.{TopicList}
use Rattle.trec_formats.specs.Names.{is_between, is_docno, is_name}
use Rattle.rulebook.specs.Requests.Limits.{max_docs}
use Rattle.rulebook.specs.declared.ask.Command.{Command}
use Rattle.rulebook.specs.declared.ask.Command.TheVariants as command
use Rattle.rulebook.specs.Campaign.{History, Run, docs_on, run_in, runs}
use Rattle.rulebook.specs.Requests.PlainReplies.{is_plain_and_short, is_plain_entry}
use Rattle.rulebook.specs.Spelling.{differ, is_ascending, is_plain, is_plain_list}
use Rattle.rulebook.specs.Words.{Text}

list-once : (lists : List TopicList) (topic : Text) → list_all is_plain_list lists ≡ true → differ (docs_on lists topic) ≡ true
list-once [] topic plain = refl
list-once (l ∷ lists) topic plain =
    let parts = and_parts (is_plain_list l) (list_all is_plain_list lists) plain in
    let once = (and_parts (is_name l.topic && nat_lt l.line (2 ^ 32) && is_between 1 max_docs (length l.docs) && list_all is_docno l.docs)
    (differ l.docs) parts.0).1 in
    step (bytes_eq l.topic topic) once (list-once lists topic parts.1)
  where
    docs_of : TopicList → List Text
    docs_of l = l.docs

    step : (t : Bool) → differ l.docs ≡ true → differ (docs_on lists topic) ≡ true
        → differ (option_map_or docs_of (cond t (Some l) (find (λ l. bytes_eq l.topic topic) lists)) []) ≡ true
    step true once rest = once
    step false once rest = rest

lists-plain : (c : Command) (run : Run) → run_in c ≡ Some run → is_plain c ≡ true → list_all is_plain_list run.lists ≡ true
lists-plain (command.Submit name lists) run is plain =
    let same : ◌≡◌ {A = Run} (record { name = name; lists = lists }) run = cc is in
    let front = is_name name && is_between 1 (2 ^ 32 - 1) (length lists) in
    let parts = and_parts (front && list_all is_plain_list lists) (is_ascending (map (λ l. l.topic) lists)) plain in
    ap (λ (run : Run). list_all is_plain_list run.lists) (sym same) ∙ (and_parts front (list_all is_plain_list lists) parts.0).1
lists-plain _ run is plain = cc is

-- a submitted run names no document twice on a topic
pub run-once : (H : History) → All (λ e. IsTrue (is_plain_entry e)) H → (n : ℕ) (run : Run) (topic : Text) → slice_get (runs H) n ≡ Some run
    → differ (docs_on run.lists topic) ≡ true
run-once [] plain n run topic is = cc is
run-once (e ∷ H) plain n run topic is =
    let here = (and_parts (is_plain e.core.command) (is_plain_and_short e.reply) (All-head (λ e. IsTrue (is_plain_entry e)) e H plain)).0 in
    step n (run_in e.core.command) refl is here (run-once H (All-tail (λ e. IsTrue (is_plain_entry e)) e H plain))
  where
    step : (n : ℕ) (o : Option Run) → run_in e.core.command ≡ o → slice_get (cons_option o (runs H)) n ≡ Some run → is_plain e.core.command ≡ true
        → ((n : ℕ) (run : Run) (topic : Text) → slice_get (runs H) n ≡ Some run → differ (docs_on run.lists topic) ≡ true)
        → differ (docs_on run.lists topic) ≡ true
    step n None at is here rest = rest n run topic is
    step zero (Some first) at is here rest =
        let same : first ≡ run = cc is in
        list-once run.lists topic (lists-plain e.core.command run (at ∙ ap (λ (run : Run). let o : Option Run = Some run in o) same) here)
    step (suc n) (Some first) at is here rest = rest n run topic is
