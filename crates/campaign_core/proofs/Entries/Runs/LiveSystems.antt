-- The systems of a history by the entries that submit runs, and that they are sound.
use Rattle.std.proofs.Common.{◌≡◌, ◌<◌, ◌≤◌, ◌+◌, ◌-◌, ◌^◌, ℕ, suc, Bool, true, false, cond, not, List, [], ◌∷◌, ◌++◌, Option, None, Some, is_some, filter, get_or, length, map, take, refl, sym, ap, ◌∙◌, arith, le-leb}
use Rattle.std.specs.Prelude.{◌&&◌, if◌then◌else◌, nat_le, slice_index}
use Rattle.std.specs.List.{cons_option, filter_map, list_all, range_with_len}
use Rattle.std.specs.Option.{option_and_then}
use Rattle.std.proofs.lemmas.List.{append-nil, length-map, take_more, get_or_default}
use Rattle.std.proofs.lemmas.List.Elements.{filter_map-append}
use Rattle.std.proofs.lemmas.Bool.{and_from, and_parts}
use Rattle.decimal_rank.proofs.Lists.{length-filter_le, all_at}
use Rattle.measures.specs.Means.{IsProper, mean_by, means_in, summary_of, value_of}
use Rattle.measures.specs.declared.cells.Cell.{Cell}
use Rattle.measures.specs.declared.means.Measure.TheVariants.{Precision}
use Rattle.measures.specs.declared.means.Summary.{Summary}
use Rattle.trec_formats.specs.Names.{is_between, is_name}
use Rattle.rulebook.specs.declared.ask.Command.TheVariants as command
use Rattle.rulebook.specs.declared.entry.Entry.{Entry}
use Rattle.rulebook.specs.declared.systems.System.{System}
use Rattle.rulebook.specs.Campaign.{History, Run, is_withdrawn, may_give, run_in, runs}
use Rattle.rulebook.specs.Histories.Legal.{AreAccepted, IsAccepted, IsFounding, IsLegal}
use Rattle.rulebook.specs.Requests.Limits.{max_entry_bytes, max_moment}
use Rattle.rulebook.specs.Reports.Scores.{summary_on}
use Rattle.rulebook.specs.Spelling.{differ, entry_bytes, has_spelling, is_ascending, is_number, is_plain, is_plain_list}
use Rattle.rulebook.specs.Requests.Limits.{max_runs}
use Rattle.rulebook.specs.Reports.Systems.{are_means, are_sound_systems, is_mean, is_sound_system, runs_of, system_in, system_of, systems}
use Rattle.rulebook.specs.Words.{Text}
use Rattle.campaign_core.specs.Numbering.Submissions.{is_submission, submissions}
use Rattle.campaign_core.proofs.Entries.Runs.LiveRunLists.{live_of}
use Rattle.campaign_core.proofs.Lists.Elements.{all_cons, filter-map}
use Rattle.campaign_core.proofs.Numbers.RunPlaces.{no_run, run-there, some_entry}
use Rattle.campaign_core.proofs.PageTexts.Progress.{differ-filter}
use Rattle.campaign_core.proofs.Rulings.AcceptedEntries.{submit-by}

-- The systems are those of the entries that submit runs.

given-passed : {X Y : Type 0} (f : X → Option Y) (p : X → Bool) (xs : List X) → ((x : X) → p x ≡ false → f x ≡ None)
    → filter_map f (filter p xs) ≡ filter_map f xs
given-passed f p [] none = refl
given-passed {X} {Y} f p (x ∷ xs) none = step (p x) refl (given-passed f p xs none)
  where
    step : (t : Bool) → p x ≡ t → filter_map f (filter p xs) ≡ filter_map f xs
        → filter_map f (cond t (x ∷ filter p xs) (filter p xs)) ≡ cons_option (f x) (filter_map f xs)
    step true is rest = ap (cons_option (f x)) rest
    step false is rest = rest ∙ ap (λ (o : Option Y). cons_option o (filter_map f xs)) (sym (none x is))

-- the system of a caller's run, where it is live
abbrev live_system : History → Text → Run → Option System
live_system H group run = if is_withdrawn H run.name then None else Some (system_of H group run)

no-system : (H : History) (e : Entry) → is_submission e ≡ false → system_in H e ≡ None
no-system H e none = step (run_in e.core.command) none
  where
    step : (o : Option Run) → is_some o ≡ false → option_and_then (live_system H e.core.caller.name) o ≡ None
    step None none = refl
    step (Some run) none = cc none

pub systems-submitted : (H : History) → filter_map (system_in H) (submissions H) ≡ systems H
systems-submitted H = given-passed (system_in H) is_submission H (no-system H)

-- One more entry that submits a run.

-- the systems of the first entries that submit runs
abbrev pub systems_to : History → ℕ → List System
systems_to H n = filter_map (system_in H) (take n (submissions H))

system-is : (H : History) (e : Entry) (run : Run) (t : Bool) → run_in e.core.command ≡ Some run → is_withdrawn H run.name ≡ t
    → system_in H e ≡ (if t then None else Some (system_of H e.core.caller.name run))
system-is H e run t is away =
    ap (option_and_then (live_system H e.core.caller.name)) is
    ∙ ap (λ t. let o : Option System = if t then None else Some (system_of H e.core.caller.name run) in o) away

systems-more : (H : History) (n : ℕ) (e : Entry) (o : Option System) → n < length (submissions H) → e ≡ get_or (submissions H) n e
    → system_in H e ≡ o → systems_to H (n + 1) ≡ systems_to H n ++ cons_option o []
systems-more H n e o within is system =
    ap (filter_map (system_in H)) (take_more (submissions H) n e within)
    ∙ filter_map-append (system_in H) (take n (submissions H)) (get_or (submissions H) n e ∷ [])
    ∙ ap (λ (e : Entry). systems_to H n ++ filter_map (system_in H) (e ∷ [])) (sym is)
    ∙ ap (λ (o : Option System). systems_to H n ++ cons_option o []) system

pub system-passed : (H : History) (n : ℕ) → n < length (submissions H) → is_withdrawn H (get_or (runs H) n no_run).name ≡ true
    → systems_to H (n + 1) ≡ systems_to H n
system-passed H n within away =
    let e : Entry = get_or (submissions H) n some_entry in
    systems-more H n e None within (get_or_default (submissions H) n some_entry e within)
    (system-is H e (get_or (runs H) n no_run) true (run-there H n some_entry no_run within) away)
    ∙ append-nil (systems_to H n)

pub system-taken : (H : History) (n : ℕ) (e : Entry) (run : Run) → n < length (submissions H) → e ≡ get_or (submissions H) n e
    → run_in e.core.command ≡ Some run → is_withdrawn H run.name ≡ false → systems_to H (n + 1) ≡ systems_to H n ++ system_of H e.core.caller.name run ∷ []
system-taken H n e run within is submits stays =
    systems-more H n e (Some (system_of H e.core.caller.name run)) within is (system-is H e run false submits stays)

-- The names of the systems are those of the live runs.

names-among : (H E : History) → runs_of (filter_map (system_in H) E) ≡ map (λ run. run.name) (live_of H (runs E))
names-among H [] = refl
names-among H (e ∷ E) = step (run_in e.core.command) (names-among H E)
  where
    later : List System
    later = filter_map (system_in H) E

    step : (o : Option Run) → runs_of later ≡ map (λ (run : Run). run.name) (live_of H (runs E))
        → runs_of (cons_option (option_and_then (live_system H e.core.caller.name) o) later)
        ≡ map (λ (run : Run). run.name) (live_of H (cons_option o (runs E)))
    step None rest = rest
    step (Some run) rest = inner (is_withdrawn H run.name) rest
      where
        inner : (t : Bool) → runs_of later ≡ map (λ (run : Run). run.name) (live_of H (runs E))
            → runs_of (cons_option (if t then None else Some (system_of H e.core.caller.name run)) later)
            ≡ map (λ (run : Run). run.name) (cond (not t) (run ∷ live_of H (runs E)) (live_of H (runs E)))
        inner true rest = rest
        inner false rest = ap (λ names. run.name ∷ names) rest

names-are : (H : History) → runs_of (systems H) ≡ filter (λ name. not (is_withdrawn H name)) (map (λ run. run.name) (runs H))
names-are H = names-among H H ∙ filter-map (λ name. not (is_withdrawn H name)) (λ (run : Run). run.name) (runs H)

-- Names are names, by what their entries are spelled as.

abbrev is_spelled : Entry → Bool
is_spelled e = has_spelling e.core

accepted-spelled : (before : History) (e : Entry) → IsAccepted before e → is_spelled e ≡ true
accepted-spelled before e accepted =
    let allowed = may_give e.core.caller.role e.core.command in
    let front = and_parts (allowed && has_spelling e.core) (nat_le (length (entry_bytes e.core)) max_entry_bytes) accepted.addressed in
    (and_parts allowed (has_spelling e.core) front.0).1

later-spelled : (before later : History) → AreAccepted before later → list_all is_spelled later ≡ true
later-spelled before [] all = refl
later-spelled before (e ∷ later) all = all_cons is_spelled e later (accepted-spelled before e all.0) (later-spelled (before ++ e ∷ []) later all.1)

founded-spelled : (e : Entry) → IsFounding e → is_spelled e ≡ true
unfolding is_name
founded-spelled e is = rw (is.2) (is.1)

legal-spelled : (H : History) → IsLegal H → list_all is_spelled H ≡ true
legal-spelled [] legal = absurd legal
legal-spelled (first ∷ later) legal = all_cons is_spelled first later (founded-spelled first legal.0) (later-spelled (first ∷ []) later legal.1)

-- of the system of an entry's run: it is sound where its means are
pub system-sound : (H : History) (place : ℕ) (e : Entry) (run : Run) → IsLegal H → place < length H → e ≡ get_or H place e → run_in e.core.command ≡ Some run
    → are_means (summary_on H run) ≡ true → is_sound_system (system_of H e.core.caller.name run) ≡ true
system-sound H place e run legal within is submits means =
    let spelled : is_spelled e ≡ true = ap is_spelled is ∙ all_at is_spelled H place e within (legal-spelled H legal) in
    let name = is_name e.core.caller.name in
    let number = is_number e.core.number in
    let in_time = nat_le e.core.moment max_moment in
    let front = and_parts (name && number && in_time) (is_plain e.core.command) spelled in
    let named = and_parts name number (and_parts (name && number) in_time front.0).0 in
    let plain : is_plain (command.Submit run.name run.lists) ≡ true = ap is_plain (sym (submit-by e.core.command run submits)) ∙ front.1 in
    let some_few = is_between 1 (2 ^ 32 - 1) (length run.lists) in
    let listed = and_parts (is_name run.name && some_few && list_all is_plain_list run.lists) (is_ascending (map (λ l. l.topic) run.lists)) plain in
    let few = and_parts (is_name run.name && some_few) (list_all is_plain_list run.lists) listed.0 in
    let run_named = and_parts (is_name run.name) some_few few.0 in
    and_from (is_name run.name && name) (are_means (summary_on H run)) (and_from (is_name run.name) name run_named.0 named.0) means

-- Means

each-mean : (values : List ℕ) → ((i : ℕ) → i < length values → slice_index values i ≤ 10 ^ 15) → list_all is_mean values ≡ true
each-mean [] small = refl
each-mean (value ∷ values) small =
    all_cons is_mean value values (le-leb value (10 ^ 15) (small 0 (omega arith))) (each-mean values (λ i within. small (suc i) (omega (arith, within))))

abbrev precisions : List Cell → List ℕ
precisions cells = map (λ place. mean_by (value_of (Precision place)) cells) (range_with_len 0 9)

pub proper-means : (cells : List Cell) → IsProper (summary_of cells) → are_means (summary_of cells) ≡ true
unfolding summary_of
proper-means cells proper =
    let summary : Summary = summary_of cells in
    let long : length (precisions cells) ≡ 9 = refl in
    let all : length (means_in summary) ≡ 13 = refl in
    let map_is = le-leb summary.map (10 ^ 15) (proper 0 0 (omega (arith, all))) in
    let r_prec_is = le-leb summary.r_prec (10 ^ 15) (proper 1 0 (omega (arith, all))) in
    let bpref_is = le-leb summary.bpref (10 ^ 15) (proper 2 0 (omega (arith, all))) in
    let recip_is = le-leb summary.recip (10 ^ 15) (proper 3 0 (omega (arith, all))) in
    let first = is_mean summary.map && is_mean summary.r_prec in
    and_from (first && is_mean summary.bpref && is_mean summary.recip) (list_all is_mean summary.at)
    (and_from (first && is_mean summary.bpref) (is_mean summary.recip)
    (and_from first (is_mean summary.bpref) (and_from (is_mean summary.map) (is_mean summary.r_prec) map_is r_prec_is) bpref_is) recip_is)
    (each-mean (precisions cells) (λ i within. proper (suc (suc (suc (suc i)))) 0 (omega (arith, within, long, all))))

-- All systems are sound.

pub are-sound : (H : History) → length (runs H) ≤ max_runs → differ (map (λ (run : Run). run.name) (runs H)) ≡ true
    → list_all is_sound_system (systems H) ≡ true → are_sound_systems (systems H) ≡ true
are-sound H few names_differ each =
    let names = map (λ (run : Run). run.name) (runs H) in
    let passes : Text → Bool = λ name. not (is_withdrawn H name) in
    let same = ap length (names-are H) in
    let long = length-map (systems H) (λ (system : System). system.run) in
    let counted = length-map (runs H) (λ (run : Run). run.name) in
    let fits : length (systems H) ≤ max_runs = omega (arith, same, long, counted, length-filter_le passes names, few) in
    and_from (nat_le (length (systems H)) max_runs && list_all is_sound_system (systems H)) (differ (runs_of (systems H)))
    (and_from (nat_le (length (systems H)) max_runs) (list_all is_sound_system (systems H)) (le-leb (length (systems H)) max_runs fits) each)
    (ap differ (names-are H) ∙ differ-filter passes names names_differ)
