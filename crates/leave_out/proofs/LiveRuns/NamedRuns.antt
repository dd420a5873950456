-- The documents of submitted runs are among the names.
use Rattle.std.proofs.Common.{◌≡◌, ◌||◌, ◌∙◌, ℕ, zero, suc, Bool, true, false, cond, List, [], ◌∷◌, Some, None, ap, find, refl}
use Rattle.std.specs.Prelude.{if◌then◌else◌, slice_get}
use Rattle.std.specs.List.{flat_map}
use Rattle.std.specs.Option.{option_and_then, option_map_or}
use Rattle.std.specs.Str.{bytes_eq}
use Rattle.std.proofs.lemmas.List.Folds.{list_any-append}
use Rattle.std.proofs.lemmas.Bool.{or_left, or_right}
use Rattle.trec_formats.specs.declared.TopicList.{TopicList}
use Rattle.rulebook.specs.Campaign.{History, Run, docnos, docs_on, numbered_runs, runs, submitted_docnos}
use Rattle.rulebook.specs.Histories.Legal.{IsLegal}
use Rattle.rulebook.specs.Requests.PlainReplies.{EntriesArePlain}
use Rattle.rulebook.specs.Words.{Text, contains_text}
use Rattle.campaign_core.specs.Numbering.Numbers.{are_named, names_of}
use Rattle.campaign_core.specs.Assessments.RunScores.{unless_withdrawn}
use Rattle.rulebook.proofs.Elements.TextLists.{all-among}
use Rattle.campaign_core.proofs.Lists.Elements.{Each}
use Rattle.leave_out.specs.ReducedJudgements.{IsLive}
use Rattle.leave_out.proofs.Elements.{all-there}
use Rattle.leave_out.proofs.LiveRuns.NumberedRuns.{each-numbered}
use Rattle.leave_out.proofs.LiveRuns.PlainRuns.{run-once}

among-lists : (lists : List TopicList) (topic doc : Text) → contains_text (docs_on lists topic) doc ≡ true → contains_text (docnos lists) doc ≡ true
among-lists [] topic doc there = cc there
among-lists (l ∷ lists) topic doc there =
    list_any-append (bytes_eq doc) l.docs (docnos lists) ∙ step (bytes_eq l.topic topic) (among-lists lists topic doc) there
  where
    docs_of : TopicList → List Text
    docs_of l = l.docs

    step : (t : Bool) → (contains_text (docs_on lists topic) doc ≡ true → contains_text (docnos lists) doc ≡ true)
        → contains_text (option_map_or docs_of (cond t (Some l) (find (λ l. bytes_eq l.topic topic) lists)) []) doc ≡ true
        → (contains_text l.docs doc || contains_text (docnos lists) doc) ≡ true
    step true rest there = or_left (contains_text l.docs doc) (contains_text (docnos lists) doc) there
    step false rest there = or_right (contains_text l.docs doc) (contains_text (docnos lists) doc) (rest there)

abbrev docnos_in : Run → List Text
docnos_in run = docnos run.lists

among-runs : (rs : List Run) (n : ℕ) (run : Run) (doc : Text) → slice_get rs n ≡ Some run
    → contains_text (docnos run.lists) doc ≡ true → contains_text (flat_map docnos_in rs) doc ≡ true
among-runs [] n run doc is there = cc is
among-runs (r ∷ rs) zero run doc is there =
    let same : r ≡ run = cc is in
    list_any-append (bytes_eq doc) (docnos_in r) (flat_map docnos_in rs)
    ∙ or_left (contains_text (docnos_in r) doc) (contains_text (flat_map docnos_in rs) doc) (ap (λ (r : Run). contains_text (docnos r.lists) doc) same ∙ there)
among-runs (r ∷ rs) (suc n) run doc is there =
    list_any-append (bytes_eq doc) (docnos_in r) (flat_map docnos_in rs)
    ∙ or_right (contains_text (docnos_in r) doc) (contains_text (flat_map docnos_in rs) doc) (among-runs rs n run doc is there)

pub run-named : (H : History) (n : ℕ) (run : Run) (topic : Text) → slice_get (runs H) n ≡ Some run → are_named (names_of H) (docs_on run.lists topic) ≡ true
run-named H n run topic is =
    all-there (names_of H) (docs_on run.lists topic)
    (λ doc there. all-among [] (submitted_docnos H) doc (among-runs (runs H) n run doc is (among-lists run.lists topic doc there)))

-- the live runs by their numbers
pub each-live : (H : History) → EntriesArePlain → IsLegal H → Each (λ one. IsLive H (record { 0 = one.0 }) one) (numbered_runs H)
each-live H plain legal = each-numbered H (λ one. IsLive H (record { 0 = one.0 }) one)
    (λ n run is stays. record {
      number_is = refl;
      run_is = ap (option_and_then (unless_withdrawn H)) is ∙ ap (λ t. if t then None else Some run) stays;
      named = λ topic. run-named H n run topic is;
      once = λ topic. run-once H (plain H legal) n run topic is;
    })
