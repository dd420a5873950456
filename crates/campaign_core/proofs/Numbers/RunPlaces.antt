-- The runs of a history by the places of the entries that submit them.
use Rattle.std.proofs.Common.{◌≡◌, ◌||◌, ◌&&◌, ◌<◌, ◌+◌, ℕ, zero, suc, Bool, true, false, cond, List, [], ◌∷◌, ◌++◌, Option, None, Some, IsSome, is_some, length, map, drop, get_or, refl, sym, subst, ap, ◌∙◌, arith}
use Rattle.std.specs.Prelude.{slice_get}
use Rattle.std.specs.List.{list_any}
use Rattle.std.specs.Option.{option_map_or}
use Rattle.std.specs.Str.{bytes_eq}
use Rattle.std.proofs.lemmas.List.{append-nil, drop_more, length-map, map-append}
use Rattle.std.proofs.lemmas.List.Elements.{filter-append}
use Rattle.decimal_rank.proofs.Lists.{slice-there, slice-front, slice-last}
use Rattle.rulebook.specs.declared.ask.Command.TheVariants as command
use Rattle.rulebook.specs.declared.entry.Entry.{Entry}
use Rattle.rulebook.specs.declared.reply.Reply.TheVariants as reply
use Rattle.rulebook.specs.declared.rules.Role.TheVariants.{Organiser}
use Rattle.rulebook.specs.Campaign.{History, Run, run_in, runs}
use Rattle.rulebook.specs.Reports.Scores.{submits}
use Rattle.rulebook.specs.Words.{Text}
use Rattle.campaign_core.specs.Numbering.Submissions.{ArePlaces, AreSubmissions, any_at, entry_place, is_submission, is_submitted_by, submissions}
use Rattle.campaign_core.specs.declared.campaign.submissions.Submission.{Submission}
use Rattle.campaign_core.proofs.Lists.Elements.{get-map}

-- Values that are all there.

there-at : {X : Type 0} (os : List (Option X)) (xs : List X) (i : ℕ) (o : Option X) (x : X)
    → os ≡ map Some xs → i < length os → get_or os i o ≡ Some (get_or xs i x)
there-at [] xs i o x same within = absurd (omega (arith, within))
there-at (y ∷ os) [] i o x same within = cc same
there-at (y ∷ os) (z ∷ xs) zero o x same within = let head : y ≡ Some z = cc same in head
there-at (y ∷ os) (z ∷ xs) (suc i) o x same within = there-at os xs i o x (let tail : os ≡ map Some xs = cc same in tail) (omega (arith, within))

as-long : {X : Type 0} (f : ℕ → Option X) (places : List ℕ) (xs : List X) → map f places ≡ map Some xs → length places ≡ length xs
as-long f [] [] same = refl
as-long f [] (x ∷ xs) same = cc same
as-long f (p ∷ places) [] same = cc same
as-long f (p ∷ places) (x ∷ xs) same = ap suc (as-long f places xs (let tail : map f places ≡ map Some xs = cc same in tail))

pub some-within : {X : Type 0} (xs : List X) (i : ℕ) → IsSome (slice_get xs i) → i < length xs
some-within {X} xs i is = step (slice_get xs i) refl is
  where
    step : (o : Option X) → slice_get xs i ≡ o → IsSome o → i < length xs
    step None e is = cc is
    step (Some x) e is = (slice-there xs i x x e).0

-- The entries that submit runs, and their runs.

pub run-there : (H : History) (i : ℕ) (e : Entry) (r : Run) → i < length (submissions H)
    → run_in (get_or (submissions H) i e).core.command ≡ Some (get_or (runs H) i r)
run-there [] i e r within = absurd (omega (arith, within))
run-there (x ∷ H) i e r within = step (run_in x.core.command) refl i within (λ i within. run-there H i e r within)
  where
    step : (o : Option Run) → run_in x.core.command ≡ o → (i : ℕ) → i < length (submissions (x ∷ H))
        → ((i : ℕ) → i < length (submissions H) → run_in (get_or (submissions H) i e).core.command ≡ Some (get_or (runs H) i r))
        → run_in (get_or (submissions (x ∷ H)) i e).core.command ≡ Some (get_or (runs (x ∷ H)) i r)
    step None is i within rest = rw is (rest i (rw is at within))
    step (Some run) is zero within rest = rw is is
    step (Some run) is (suc i) within rest = rw is (rest i (omega (arith, rw is at within)))

pub runs-long : (H : History) → length (runs H) ≡ length (submissions H)
runs-long [] = refl
runs-long (x ∷ H) = step (run_in x.core.command) refl (runs-long H)
  where
    step : (o : Option Run) → run_in x.core.command ≡ o → length (runs H) ≡ length (submissions H) → length (runs (x ∷ H)) ≡ length (submissions (x ∷ H))
    step None is rest = rw is rest
    step (Some run) is rest = rw is (ap suc rest)

pub as-many : (H : History) (places : List ℕ) → ArePlaces H places → length places ≡ length (runs H)
as-many H places are = as-long (slice_get H) places (submissions H) are ∙ sym (runs-long H)

-- the entry at a place, and its run
pub record IsSubmission (H : History) (number : ℕ) (place : ℕ) (e : Entry) (r : Run) : Type 0 where
  pub within : place < length H
  pub there : slice_get H place ≡ Some (get_or H place e)
  pub entry_is : get_or H place e ≡ get_or (submissions H) number e
  pub run_is : run_in (get_or H place e).core.command ≡ Some (get_or (runs H) number r)

pub submission-at : (H : History) (places : List ℕ) (number : ℕ) (d : ℕ) (e : Entry) (r : Run) → ArePlaces H places
    → number < length places → IsSubmission H number (get_or places number d) e r
submission-at H places number d e r are within =
    let place : ℕ = get_or places number d in
    let long : length places ≡ length (submissions H) = as-long (slice_get H) places (submissions H) are in
    let there : slice_get H place ≡ Some (get_or (submissions H) number e) = sym (get-map (slice_get H) places number d)
    ∙ there-at (map (slice_get H) places) (submissions H) number (slice_get H d) e are (mapped (slice_get H) places within) in
    let at = slice-there H place e (get_or (submissions H) number e) there in
    record {
      within = at.0;
      there = there ∙ ap (λ (e : Entry). let o : Option Entry = Some e in o) (sym at.1);
      entry_is = at.1;
      run_is = ap (λ (e : Entry). run_in e.core.command) at.1 ∙ run-there H number e r (omega (arith, within, long));
    }
  where
    mapped : {X : Type 0} (f : ℕ → X) (xs : List ℕ) → number < length xs → number < length (map f xs)
    mapped f xs less = omega (arith, less, map-long f xs)
      where
        map-long : {X : Type 0} (f : ℕ → X) (xs : List ℕ) → length (map f xs) ≡ length xs
        map-long f [] = refl
        map-long f (x ∷ xs) = ap suc (map-long f xs)

abbrev pub no_run : Run
no_run = record { name = []; lists = [] }

abbrev no_submission : Submission
no_submission = record { place = 0; is_withdrawn = false }

abbrev pub some_entry : Entry
some_entry = record { core = record { caller = record { name = []; role = Organiser }; number = None; moment = 0; command = command.Open }; reply = reply.Done }

-- Tests of entries.

any-submissions : (f : Entry → Bool) (H : History) → ((e : Entry) → f e ≡ true → is_submission e ≡ true) → list_any f (submissions H) ≡ list_any f H
any-submissions f [] only = refl
any-submissions f (x ∷ H) only = step (is_submission x) refl (f x) refl (any-submissions f H only)
  where
    step : (s : Bool) → is_submission x ≡ s → (t : Bool) → f x ≡ t → list_any f (submissions H) ≡ list_any f H
        → list_any f (cond s (x ∷ submissions H) (submissions H)) ≡ (f x || list_any f H)
    step true is t test rest = ap (λ b. f x || b) rest
    step false is true test rest = let both : is_submission x ≡ true = only x test in cc (is, both)
    step false is false test rest = rest ∙ ap (λ b. b || list_any f H) (sym test)

any-there : {X : Type 0} (f : X → Bool) (os : List (Option X)) (xs : List X) → os ≡ map Some xs → list_any (λ o. option_map_or f o false) os ≡ list_any f xs
any-there f [] [] same = refl
any-there f [] (x ∷ xs) same = cc same
any-there f (o ∷ os) [] same = cc same
any-there f (o ∷ os) (x ∷ xs) same =
    let head : o ≡ Some x = cc same in
    let tail : os ≡ map Some xs = cc same in
    ap (λ o. option_map_or f o false || list_any (λ o. option_map_or f o false) os) head ∙ ap (λ b. f x || b) (any-there f os xs tail)

any-mapped : {X : Type 0} (p : X → Bool) (f : ℕ → X) (places : List ℕ) → list_any (λ place. p (f place)) places ≡ list_any p (map f places)
any-mapped p f [] = refl
any-mapped p f (x ∷ places) = ap (λ b. p (f x) || b) (any-mapped p f places)

-- a test that an entry passes only where it submits a run
pub any-entry : (f : Entry → Bool) (H : History) (places : List ℕ) → ArePlaces H places
    → ((e : Entry) → f e ≡ true → is_submission e ≡ true) → any_at f H places ≡ list_any f H
any-entry f H places are only =
    any-mapped (λ (o : Option Entry). option_map_or f o false) (slice_get H) places
    ∙ any-there f (map (slice_get H) places) (submissions H) are
    ∙ any-submissions f H only

-- from a place on
pub any-from : (f : Entry → Bool) (H : History) (places : List ℕ) (number : ℕ) (e : Entry) → ArePlaces H places → number < length places
    → any_at f H (drop number places) ≡ (f (get_or H (get_or places number 0) e) || any_at f H (drop (number + 1) places))
any-from f H places number e are within =
    let at = submission-at H places number 0 e no_run are within in
    ap (any_at f H) (drop_more places number 0 within) ∙ ap (λ (o : Option Entry). option_map_or f o false || any_at f H (drop (number + 1) places)) at.there

-- One more entry.

still-there : (H : History) (e : Entry) (places : List ℕ) (es : List Entry) → map (slice_get H) places ≡ map Some es
    → map (slice_get (H ++ e ∷ [])) places ≡ map Some es
still-there H e [] es same = same
still-there H e (p ∷ places) [] same = cc same
still-there H e (p ∷ places) (x ∷ es) same =
    let head : slice_get H p ≡ Some x = cc same in
    let tail : map (slice_get H) places ≡ map Some es = cc same in
    ap (λ (o : Option Entry). o ∷ map (slice_get (H ++ e ∷ [])) places) (slice-front H (e ∷ []) p x head)
    ∙ ap (λ (os : List (Option Entry)). Some x ∷ os) (still-there H e places es tail)

-- an entry that submits no run
pub places-stay : (H : History) (e : Entry) (places : List ℕ) → run_in e.core.command ≡ None → ArePlaces H places → ArePlaces (H ++ e ∷ []) places
places-stay H e places none are =
    let one : submissions (e ∷ []) ≡ [] = ap (λ (o : Option Run). cond (is_some o) (e ∷ []) []) none in
    let same : submissions (H ++ e ∷ []) ≡ submissions H =
    filter-append is_submission H (e ∷ []) ∙ ap (λ es. submissions H ++ es) one ∙ append-nil (submissions H) in
    still-there H e places (submissions H) are ∙ ap (map Some) (sym same)

-- an entry that submits one
pub places-grow : (H : History) (e : Entry) (places : List ℕ) (run : Run) → run_in e.core.command ≡ Some run
    → ArePlaces H places → ArePlaces (H ++ e ∷ []) (places ++ length H ∷ [])
places-grow H e places run some are =
    let one : submissions (e ∷ []) ≡ e ∷ [] = ap (λ (o : Option Run). cond (is_some o) (e ∷ []) []) some in
    let more : submissions (H ++ e ∷ []) ≡ submissions H ++ e ∷ [] = filter-append is_submission H (e ∷ []) ∙ ap (λ es. submissions H ++ es) one in
    let wrap : List Entry → List (Option Entry) = map (λ (e : Entry). let o : Option Entry = Some e in o) in
    map-append (slice_get (H ++ e ∷ [])) places (length H ∷ [])
    ∙ ap (λ (os : List (Option Entry)). os ++ slice_get (H ++ e ∷ []) (length H) ∷ []) (still-there H e places (submissions H) are)
    ∙ ap (λ (o : Option Entry). wrap (submissions H) ++ o ∷ []) (slice-last H e)
    ∙ sym (map-append (λ (e : Entry). let o : Option Entry = Some e in o) (submissions H) (e ∷ []))
    ∙ ap wrap (sym more)

-- the name that an entry's run has is the one that is looked for
pub named-run : (e : Entry) (run : Run) (name : Text) → run_in e.core.command ≡ Some run → submits name e ≡ bytes_eq run.name name
named-run e run name is = ap (λ (o : Option Run). option_map_or (λ run. bytes_eq run.name name) o false) is

pub submits-only : (caller name : Text) (e : Entry) → is_submitted_by caller name e ≡ true → is_submission e ≡ true
submits-only caller name e passes = step (run_in e.core.command) refl (bytes_eq e.core.caller.name caller) passes
  where
    step : (o : Option Run) → run_in e.core.command ≡ o → (t : Bool)
        → (option_map_or (λ (run : Run). bytes_eq run.name name) (run_in e.core.command) false && t) ≡ true → is_some (run_in e.core.command) ≡ true
    step None is t passes = cc (rw is at passes)
    step (Some run) is t passes = ap is_some is

-- The same of the entries that submit runs, as they are kept.

pub runs-many : (H : History) (all : List Submission) → AreSubmissions H all → length all ≡ length (runs H)
runs-many H all are = sym (length-map all entry_place) ∙ as-many H (map entry_place all) are.places_are

-- the entry at a place, and its run
pub entry-at : (H : History) (all : List Submission) (number : ℕ) (d : Submission) (e : Entry) (r : Run) → AreSubmissions H all
    → number < length all → IsSubmission H number (get_or all number d).place e r
entry-at H all number d e r are within =
    subst (λ place. IsSubmission H number place e r) (get-map entry_place all number d)
    (submission-at H (map entry_place all) number (entry_place d) e r are.places_are (omega (arith, within, length-map all entry_place)))

pub entry-within : (H : History) (all : List Submission) (number : ℕ) (d : Submission) → AreSubmissions H all
    → number < length all → (get_or all number d).place < length H
entry-within H all number d are within = (entry-at H all number d some_entry no_run are within).within

-- a test of the entries from one of them on, by what it says of that one
pub any-onwards : (f : Entry → Bool) (H : History) (all : List Submission) (number : ℕ) (e : Entry) (passes : Bool) → AreSubmissions H all → number < length all
    → e ≡ get_or H (get_or all number no_submission).place e → f e ≡ passes
    → any_at f H (drop number (map entry_place all)) ≡ (passes || any_at f H (drop (number + 1) (map entry_place all)))
any-onwards f H all number e passes are within is test =
    let rest : Bool = any_at f H (drop (number + 1) (map entry_place all)) in
    any-from f H (map entry_place all) number e are.places_are (omega (arith, within, length-map all entry_place))
    ∙ ap (λ (place : ℕ). f (get_or H place e) || rest) (get-map entry_place all number no_submission)
    ∙ ap (λ (e : Entry). f e || rest) (sym is)
    ∙ ap (λ (b : Bool). b || rest) test
