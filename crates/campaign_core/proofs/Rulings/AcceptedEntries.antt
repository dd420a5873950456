-- What is so where the rules accept a command.
use Rattle.std.proofs.Common.{◌≡◌, ◌||◌, ◌<◌, ◌≤◌, ◌==◌, ℕ, Bool, true, false, not, cond, List, [], ◌∷◌, ◌++◌, length, length-append, map, find, refl, ap, arith, Option, None, Some, Ok, Err, leb-true, subst, sym, ◌∙◌}
use Rattle.std.proofs.lemmas.Bool.{leb-false, not-false, and_parts}
use Rattle.std.specs.Prelude.{◌&&◌, ◌-◌, ◌^◌, if◌then◌else◌, nat_le, nat_lt, min, slice_get, unwrap_or}
use Rattle.std.specs.List.{filter_map, list_all, list_any, filter, reduce}
use Rattle.std.specs.Option.{is_some, option_map, option_map_or}
use Rattle.std.specs.Str.{bytes_eq}
use Rattle.rulebook.specs.declared.limits.TheConstants.{MAX_RUNS, MAX_TOPICS, MAX_LINES, MAX_DOCNOS, MAX_ENTRIES, MAX_ENTRY_BYTES, MAX_MOMENT}
use Rattle.rulebook.specs.declared.ask.Ask.TheVariants.{Act}
use Rattle.rulebook.specs.declared.ask.Command.{Command}
use Rattle.rulebook.specs.declared.ask.Command.TheVariants as command
use Rattle.rulebook.specs.declared.rules.Caller.{Caller}
use Rattle.rulebook.specs.declared.rules.Phase.TheVariants.{Collecting, Published}
use Rattle.rulebook.specs.declared.reply.Reply.{Reply}
use Rattle.rulebook.specs.declared.reply.Reply.TheVariants as reply
use Rattle.rulebook.specs.declared.reply.Refusal.TheVariants as refusal
use Rattle.rulebook.specs.declared.reply.Quantity.TheVariants as quantity
use Rattle.rulebook.specs.declared.reply.Refusal.{Refusal}
use Rattle.rulebook.specs.declared.entry.Entry.{Entry}
use Rattle.rulebook.specs.declared.entry.EntryCore.{EntryCore}
use Rattle.trec_formats.specs.declared.Topic.{Topic}
use Rattle.trec_formats.specs.declared.TopicList.{TopicList}
use Rattle.rulebook.specs.Words.{Text}
use Rattle.rulebook.specs.Requests.Refusals.{Outcome, ◌when◌, unless, is_phase}
use Rattle.rulebook.specs.Answers.{adding_nothing, answer_of_outcome, command_answer, command_outcome, moment_after, open_outcome, repeat_answer, submit_outcome, topics_outcome, unknown_line}
use Rattle.rulebook.specs.Campaign.{History, Run, docnos_with, docs_on, has_topics, is_taken, line_count, lines_with, may_give, phase, rules_of, run_in, runs, topics, topics_in}
use Rattle.rulebook.specs.declared.rules.Rules.{Rules}
use Rattle.rulebook.specs.Histories.Legal.{IsAccepted, IsLegal, core_of, is_well_addressed}
use Rattle.rulebook.specs.Requests.Numbers.{entry_of_number}
use Rattle.trec_formats.specs.Names.{is_between, is_docno, is_name}
use Rattle.std.specs.Int.{to_le_bytes, w64}
use Rattle.decimal_rank.proofs.Lists.{none_mapped, all_head, all_tail}
use Rattle.rulebook.specs.Requests.Limits.{max_depth, max_docs, max_hold, max_term, max_top_grade, max_topics}
use Rattle.rulebook.specs.Spelling.{are_levels, are_settings, command_bytes, differ, entry_bytes, has_spelling, is_ascending, is_number, is_plain, is_plain_list, number_bytes, role_byte, short}
use Rattle.campaign_core.specs.Growth.{lists_in}
use Rattle.campaign_core.proofs.Rulings.CollectingRulings.{collecting-from}

-- the tests before an accepted reply don't hold

one_test : (r : Refusal) (t : Bool) (ruling : Outcome) (answer : Reply) → unless ((r when t) ∷ []) ruling ≡ Ok answer → t ≡ false
one_test r true ruling answer is = cc is
one_test r false ruling answer is = refl

three_tests : (r s u : Refusal) (t1 t2 t3 : Bool) (ruling : Outcome) (answer : Reply)
    → unless ((r when t1) ∷ (s when t2) ∷ (u when t3) ∷ []) ruling ≡ Ok answer → (t1 ≡ false) × (t2 ≡ false)
three_tests r s u true t2 t3 ruling answer is = cc is
three_tests r s u false true t3 ruling answer is = cc is
three_tests r s u false false t3 ruling answer is = (refl, refl)

six_tests : (r s u v w : Refusal) (t1 t2 : Bool) (o : Option Refusal) (t3 t4 t5 : Bool) (ruling : Outcome) (answer : Reply)
    → unless ((r when t1) ∷ (s when t2) ∷ o ∷ (u when t3) ∷ (v when t4) ∷ (w when t5) ∷ []) ruling ≡ Ok answer → (t2 ≡ false) × (o ≡ None) × (t3 ≡ false)
six_tests r s u v w true t2 o t3 t4 t5 ruling answer is = cc is
six_tests r s u v w false true o t3 t4 t5 ruling answer is = cc is
six_tests r s u v w false false (Some x) t3 t4 t5 ruling answer is = cc is
six_tests r s u v w false false None true t4 t5 ruling answer is = cc is
six_tests r s u v w false false None false t4 t5 ruling answer is = (refl, refl, refl)

-- an accepted entry has a number that its caller didn't use, and what is ruled on it
pub record OnEntry (H : History) (e : Entry) : Type 0 where
  pub unused : entry_of_number H e.core.caller.name e.core.number ≡ None
  pub ruled_is : command_outcome H e.core.caller (moment_after H e.core.moment) e.core.command ≡ Ok e.reply

pub on-entry : (H : History) (e : Entry) → IsAccepted H e → OnEntry H e
on-entry H e w = step (entry_of_number H e.core.caller.name e.core.number) refl w.added
  where
    core : EntryCore
    core = core_of e.core.caller e.core.number (moment_after H e.core.moment) e.core.command

    ruled-by : (full : Bool) (r : Outcome)
        → (if full then adding_nothing (reply.Refused (refusal.Limit quantity.Entries)) else answer_of_outcome core r).added ≡ e ∷ [] → r ≡ Ok e.reply
    ruled-by true r is = cc is
    ruled-by false (Err x) is = cc is
    ruled-by false (Ok x) is =
        let made : Entry = record { core = core; reply = x } in
        let whole : made ≡ e = cc is in
        ap (λ (entry : Entry). let r : Outcome = Ok entry.reply in r) whole

    step : (o : Option (ℕ × Entry)) → entry_of_number H e.core.caller.name e.core.number ≡ o
        → (option_map_or (repeat_answer e.core.command) o (command_answer H core)).added ≡ e ∷ [] → OnEntry H e
    step None unused is =
        record {
          unused = unused;
          ruled_is = ruled-by (length H == MAX_ENTRIES)
              (command_outcome H e.core.caller (moment_after H e.core.moment) e.core.command) is;
        }
    step (Some placed) unused is = cc is

pub ruled_ok : (H : History) (e : Entry) → IsAccepted H e → command_outcome H e.core.caller (moment_after H e.core.moment) e.core.command ≡ Ok e.reply
ruled_ok H e w = (on-entry H e w).ruled_is

collecting : (H : History) → not (is_phase Collecting (phase H)) ≡ false → phase H ≡ Collecting
collecting H is = collecting-from (phase H) (not-false _ is)

abbrev not_collecting : History → Bool
not_collecting H = not (is_phase Collecting (phase H))

pub topics-told : (H : History) (given : List Topic) (answer : Reply) → topics_outcome H given ≡ Ok answer → (phase H ≡ Collecting) × (has_topics H ≡ false)
topics-told H given answer is =
    let w = three_tests (refusal.WrongPhase (phase H)) refusal.TopicsFixed (refusal.Limit quantity.Topics) (not_collecting H)
    (has_topics H) (nat_lt MAX_TOPICS (length given)) (Ok (reply.Topics (length given))) answer is in
    (collecting H w.0, w.1)

pub submit-told : (H : History) (name : Text) (lists : List TopicList) (answer : Reply) → submit_outcome H name lists ≡ Ok answer
    → (is_taken H name ≡ false) × (unknown_line H lists ≡ None) × (length (runs H) < MAX_RUNS)
submit-told H name lists answer is =
    let w = six_tests (refusal.WrongPhase (phase H)) refusal.TagTaken (refusal.Limit quantity.Runs)
    (refusal.Limit quantity.Lines) (refusal.Limit quantity.Docnos)
    (is_phase Published (phase H)) (is_taken H name) (option_map refusal.LineTopic (unknown_line H lists)) (nat_le MAX_RUNS (length (runs H)))
    (nat_lt MAX_LINES (lines_with H lists)) (nat_lt MAX_DOCNOS (length (docnos_with H lists)))
    (Ok (reply.Submitted name (length lists) (line_count lists))) answer is in
    (w.0, none_mapped refusal.LineTopic (unknown_line H lists) w.1, leb-false _ _ w.2)

pub open-told : (H : History) (answer : Reply) → open_outcome H ≡ Ok answer → phase H ≡ Collecting
open-told H answer is = collecting H (one_test (refusal.WrongPhase (phase H)) (not_collecting H) (Ok reply.Done) answer is)

-- Before the campaign has its topics each topic is unknown.

none_kept_step : {X Y : Type 0} (f : X → Option Y) (x : X) (xs : List X) (o : Option Y) → f x ≡ o → (is_some o || list_any (λ x. is_some (f x)) xs) ≡ false
    → (list_any (λ x. is_some (f x)) xs ≡ false → filter_map f xs ≡ []) → filter_map f (x ∷ xs) ≡ []
none_kept_step f x xs (Some y) is none rest = cc none
none_kept_step f x xs None is none rest = rw is (rest none)

none_kept : {X Y : Type 0} (f : X → Option Y) (xs : List X) → list_any (λ x. is_some (f x)) xs ≡ false → filter_map f xs ≡ []
none_kept f [] none = refl
none_kept f (x ∷ xs) none = none_kept_step f x xs (f x) refl none (none_kept f xs)

pub no_topics : (H : History) → has_topics H ≡ false → filter_map (λ e. topics_in e.core.command) H ≡ []
no_topics H none = none_kept (λ (e : Entry). topics_in e.core.command) H none

abbrev unknown_among : List Topic → List TopicList → Option ℕ
unknown_among ts lists = reduce min (map (λ l. l.line) (filter (λ l. not (list_any (λ t. bytes_eq t.id l.topic) ts)) lists))

pub topics_known : (H : History) (lists : List TopicList) → has_topics H ≡ false → 0 < length lists → unknown_line H lists ≡ None → ⊥
topics_known H [] without some is = absurd (omega (arith, some))
topics_known H (l ∷ lists) without some is =
    let topics_are : topics H ≡ [] = ap (λ ts. unwrap_or (slice_get ts 0) []) (no_topics H without) in
    let told : unknown_among [] (l ∷ lists) ≡ None = subst (λ ts. unknown_among ts (l ∷ lists) ≡ None) topics_are is in
    cc told

-- What the address of a command says of it.

pub moment-of : (who : Caller) (number : Option ℕ) (c : Command) (moment : ℕ) → is_well_addressed who number (Act c) moment ≡ true → moment ≤ MAX_MOMENT
moment-of who number c moment is =
    let core = core_of who number moment c in
    let a = and_parts (may_give who.role c && has_spelling core) (nat_le (length (entry_bytes core)) MAX_ENTRY_BYTES) is in
    let b = and_parts (may_give who.role c) (has_spelling core) a.0 in
    let d = and_parts (is_name who.name && is_number number && nat_le moment MAX_MOMENT) (is_plain c) b.1 in
    let f = and_parts (is_name who.name && is_number number) (nat_le moment MAX_MOMENT) d.0 in
    leb-true _ _ f.1

-- the bytes of a command are among those of its entry
pub command-short : (who : Caller) (number : Option ℕ) (c : Command) (moment : ℕ)
    → is_well_addressed who number (Act c) moment ≡ true → length (command_bytes c) ≤ MAX_ENTRY_BYTES
command-short who number c moment is =
    let core = core_of who number moment c in
    let a = and_parts (may_give who.role c && has_spelling core) (nat_le (length (entry_bytes core)) MAX_ENTRY_BYTES) is in
    let front = short who.name ++ role_byte who.role ∷ number_bytes number ++ to_le_bytes w64 moment in
    omega (arith, leb-true (length (entry_bytes core)) MAX_ENTRY_BYTES a.1, length-append front (command_bytes c))

abbrev some_few : List TopicList → Bool
some_few lists = is_between 1 (2 ^ 32 - 1) (length lists)

abbrev plain_run : Text → List TopicList → Bool
plain_run name lists = is_name name && some_few lists && list_all is_plain_list lists

pub some_lists : (name : Text) (lists : List TopicList) → is_plain (command.Submit name lists) ≡ true → 0 < length lists
some_lists name lists is =
    let a = and_parts (plain_run name lists) (is_ascending (map (λ l. l.topic) lists)) is in
    let b = and_parts (is_name name && some_few lists) (list_all is_plain_list lists) a.0 in
    let c = and_parts (is_name name) (some_few lists) b.0 in
    let d = and_parts (nat_le 1 (length lists)) (nat_le (length lists) (2 ^ 32 - 1)) c.1 in
    omega (arith, leb-true 1 (length lists) d.0)

plain_docs : (lists : List TopicList) (topic : Text) → list_all is_plain_list lists ≡ true
    → (length (docs_on lists topic) ≤ max_docs) × (differ (docs_on lists topic) ≡ true)
plain_docs [] topic all = (omega arith, refl)
plain_docs (l ∷ lists) topic all = step (bytes_eq l.topic topic) (plain_docs lists topic (all_tail is_plain_list l lists all))
  where
    Plain : List Text → Type 0
    Plain docs = (length docs ≤ max_docs) × (differ docs ≡ true)

    here : Plain l.docs
    here =
        let front = is_name l.topic && nat_lt l.line (2 ^ 32) in
        let a = and_parts (front && is_between 1 max_docs (length l.docs) && list_all is_docno l.docs) (differ l.docs) (all_head is_plain_list l lists all) in
        let b = and_parts (front && is_between 1 max_docs (length l.docs)) (list_all is_docno l.docs) a.0 in
        let c = and_parts front (is_between 1 max_docs (length l.docs)) b.0 in
        let d = and_parts (nat_le 1 (length l.docs)) (nat_le (length l.docs) max_docs) c.1 in
        (leb-true _ _ d.1, a.1)

    step : (t : Bool) → Plain (docs_on lists topic) → Plain (option_map_or (λ l. l.docs) (cond t (Some l) (find (λ l. bytes_eq l.topic topic) lists)) [])
    step true rest = here
    step false rest = rest

-- a command that submits a run
pub submit-by : (c : Command) (run : Run) → run_in c ≡ Some run → c ≡ command.Submit run.name run.lists
submit-by (command.Submit name lists) run is =
    let same : (let r : Run = record { name = name; lists = lists } in r) ≡ run = cc is in
    ap (λ (r : Run). command.Submit r.name r.lists) same
submit-by _ run is = cc is

-- the documents of each list of a command are few, and differ
pub docs-plain : (c : Command) (topic : Text) → is_plain c ≡ true
    → (length (docs_on (lists_in c) topic) ≤ max_docs) × (differ (docs_on (lists_in c) topic) ≡ true)
docs-plain c topic is = step (run_in c) refl
  where
    of-lists : (lists : List TopicList) → Type 0
    of-lists lists = (length (docs_on lists topic) ≤ max_docs) × (differ (docs_on lists topic) ≡ true)

    step : (o : Option Run) → run_in c ≡ o → of-lists (lists_in c)
    step None none = subst of-lists (sym (ap (λ (o : Option Run). option_map_or (λ run. run.lists) o []) none)) (omega arith, refl)
    step (Some run) some =
        let a = and_parts (plain_run run.name run.lists) (is_ascending (map (λ l. l.topic) run.lists)) (ap is_plain (sym (submit-by c run some)) ∙ is) in
        let b = and_parts (is_name run.name && some_few run.lists) (list_all is_plain_list run.lists) a.0 in
        subst of-lists (sym (ap (λ (o : Option Run). option_map_or (λ run. run.lists) o []) some)) (plain_docs run.lists topic b.1)

-- the term of the rules is short
pub term-fits : (H : History) → IsLegal H → (rules_of H).term ≤ 2 ^ 40
term-fits [] legal = absurd legal
term-fits (first ∷ later) legal =
    let r : Rules = legal.0.0 in
    let d = is_between 1 max_depth r.depth in
    let t = is_between 1 max_term r.term in
    let h = is_between 1 max_hold r.hold in
    let g = is_between 1 max_top_grade r.top_grade in
    let l = is_between 1 r.top_grade r.level in
    let n = nat_le (length r.doubles) max_topics in
    let m = list_all is_name r.doubles in
    let a0 = and_parts (are_settings r) (are_levels r) legal.0.1 in
    let a1 = and_parts (d && t && h && g && l && n && m) (is_ascending r.doubles) a0.0 in
    let a2 = and_parts (d && t && h && g && l && n) m a1.0 in
    let a3 = and_parts (d && t && h && g && l) n a2.0 in
    let a4 = and_parts (d && t && h && g) l a3.0 in
    let a5 = and_parts (d && t && h) g a4.0 in
    let a6 = and_parts (d && t) h a5.0 in
    let a7 = and_parts d t a6.0 in
    let a8 = and_parts (nat_le 1 r.term) (nat_le r.term max_term) a7.1 in
    let same : (rules_of (first ∷ later)).term ≡ r.term = ap (λ (e : Entry). (rules_of (e ∷ later)).term) legal.0.2 in
    omega (arith, same, leb-true r.term max_term a8.1)
