-- The fronts of a topic's runs, through each of its changes.
use Rattle.std.proofs.Common.{◌≡◌, ◌≢◌, ◌≤◌, ◌<◌, ℕ, suc, zero, Bool, true, false, cond, drop, not, List, [], ◌∷◌, ◌++◌, Option, Some, get_or, length, map, set, replicate, take, refl, sym, ap, subst, ◌∙◌, arith, eqb-true, find, ne_eqb, nat_lt, unwrap_or, ⊎_elim}
use Rattle.std.specs.Prelude.{◌==◌}
use Rattle.std.specs.List.{All, position}
use Rattle.std.specs.Str.{bytes_eq}
use Rattle.std.proofs.lemmas.Bool.{cases_eq, cases_lt}
use Rattle.std.proofs.lemmas.Bool.Decides.{nat_tests}
use Rattle.std.proofs.lemmas.List.Quantifiers.{position-Some}
use Rattle.std.specs.List.{swap_remove}
use Rattle.std.specs.Option.{is_some}
use Rattle.std.proofs.lemmas.Bool.{false≢true}
use Rattle.std.proofs.lemmas.List.Elements.{All-head, All-map, All-tail, All-weaker}
use Rattle.std.proofs.lemmas.List.Sorted.{All-permutation, IsPermutation-swap_remove}
use Rattle.std.proofs.lemmas.Slice.Eq.{bytes_eq-Decides}
use Rattle.std.proofs.lemmas.List.{append-nil, drop_all, get_or-set_other, get_or-set_same, length-map, length-set, take_all}
use Rattle.decimal_rank.specs.declared.naming.DocId.{DocId}
use Rattle.decimal_rank.proofs.Lists.{get_or-repeated}
use Rattle.depth_pool.specs.declared.runs.RunId.{RunId}
use Rattle.depth_pool.specs.Holdings.{Held, pool_docs, put_before, with_run, without_run}
use Rattle.labels.specs.LabelledDocuments.{LabelledDocument}
use Rattle.assessment.specs.Fronts.{AreDone, AreFronts, HasFronts, Own, front_restarted, is_done, whose}
use Rattle.assessment.proofs.DoneDocs.{done-for-all}

-- the fronts stay where the documents that are done stay so
pub fronts-stay : (need : ℕ) (marked later : List LabelledDocument) (runs : List Held) (all : List Own)
    → ((assessor : List ℕ) (doc : DocId) → is_done need marked assessor doc ≡ true → is_done need later assessor doc ≡ true)
    → AreFronts need marked runs all → AreFronts need later runs all
fronts-stay need marked later runs all stay were = λ i own h run k d within. stay (get_or all i own).assessor _ (were i own h run k d within)

-- ---- no front

past : (fronts : List ℕ) (place : ℕ) → length fronts ≤ place → get_or fronts place 0 ≡ 0
past [] place beyond = refl
past (front ∷ fronts) zero beyond = absurd (omega (arith, beyond))
past (front ∷ fronts) (suc place) beyond = past fronts place (omega (arith, beyond))

-- nothing is put past the last
put_past : (fronts : List ℕ) (place front : ℕ) → length fronts ≤ place → set fronts place front ≡ fronts
put_past [] place front beyond = refl
put_past (other ∷ fronts) zero front beyond = absurd (omega (arith, beyond))
put_past (other ∷ fronts) (suc place) front beyond = ap (λ later. other ∷ later) (put_past fronts place front (omega (arith, beyond)))

no-docs : (need : ℕ) (marked : List LabelledDocument) (assessor : List ℕ) (docs : List DocId) → docs ≡ [] → AreDone need marked assessor docs
no-docs need marked assessor docs none = subst (AreDone need marked assessor) (sym none) (λ k d within. absurd (omega (arith, within)))

none-done : (need : ℕ) (marked : List LabelledDocument) (assessor : List ℕ) (docs : List DocId) (front : ℕ)
    → front ≡ 0 → AreDone need marked assessor (take front docs)
none-done need marked assessor docs front none = no-docs need marked assessor (take front docs) (ap (λ n. take n docs) none)

pub no-fronts : (need : ℕ) (marked : List LabelledDocument) (assessor : List ℕ) (runs : List Held) (fronts : List ℕ)
    → fronts ≡ [] → HasFronts need marked assessor runs fronts
no-fronts need marked assessor runs fronts none =
    λ run. none-done need marked assessor (pool_docs runs run) (get_or fronts run.0 0) (ap (λ list. get_or list run.0 0) none)

-- ---- a front is put

-- zeros behind
pub padded : (fronts : List ℕ) (more place : ℕ) → get_or (fronts ++ replicate more 0) place 0 ≡ get_or fronts place 0
padded [] more place = get_or-repeated {X = ℕ} more place 0
padded (front ∷ fronts) more zero = refl
padded (front ∷ fronts) more (suc place) = padded fronts more place

pub front-put : (need : ℕ) (marked : List LabelledDocument) (assessor : List ℕ) (runs : List Held) (fronts later : List ℕ) (run : RunId) (front : ℕ)
    → HasFronts need marked assessor runs fronts
    → AreDone need marked assessor (take front (pool_docs runs run)) → (t : Bool) → get_or later run.0 0 ≡ cond t front (get_or fronts run.0 0)
    → ((other : ℕ) → other ≢ run.0 → get_or later other 0 ≡ get_or fronts other 0)
    → HasFronts need marked assessor runs later
front-put need marked assessor runs fronts later run front were here t put others = λ other.
    ⊎_elim
    (λ (same : other.0 ≡ run.0).
    let run_is : run ≡ other = ap (λ n. let r : RunId = record { 0 = n } in r) (sym same) in
    subst (λ (r : RunId). AreDone need marked assessor (take (get_or later r.0 0) (pool_docs runs r))) run_is
    (subst (λ (n : ℕ). AreDone need marked assessor (take n (pool_docs runs run))) (sym put) (chosen t)))
    (λ apart. subst (λ (n : ℕ). AreDone need marked assessor (take n (pool_docs runs other))) (sym (others other.0 apart)) (were other))
    (cases_eq other.0 run.0)
  where
    chosen : (t : Bool) → AreDone need marked assessor (take (cond t front (get_or fronts run.0 0)) (pool_docs runs run))
    chosen true = here
    chosen false = were run

-- ---- runs that come and go

docs-with : (passes : Held → Bool) (new : Held) (runs : List Held) (other : RunId) → (new.run.0 == other.0) ≡ false
    → pool_docs (put_before passes new runs) other ≡ pool_docs runs other
docs-with passes new [] other apart = ap (λ t. cond t new.docs []) apart
docs-with passes new (held ∷ later) other apart = step (passes held) (docs-with passes new later other apart)
  where
    step : (t : Bool) → pool_docs (put_before passes new later) other ≡ pool_docs later other
        → pool_docs (cond t (new ∷ held ∷ later) (held ∷ put_before passes new later)) other ≡ pool_docs (held ∷ later) other
    step true rest = ap (λ t. cond t new.docs (pool_docs (held ∷ later) other)) apart
    step false rest = ap (λ docs. cond (held.run.0 == other.0) held.docs docs) rest

docs-gone : (run other : RunId) (runs : List Held) → run.0 ≡ other.0 → pool_docs (without_run run runs) other ≡ []
docs-gone run other [] same = refl
docs-gone run other (held ∷ later) same = step (held.run.0 == run.0) (ap (λ n. held.run.0 == n) (sym same)) (docs-gone run other later same)
  where
    step : (t : Bool) → (held.run.0 == other.0) ≡ t → pool_docs (without_run run later) other ≡ []
        → pool_docs (cond (not t) (held ∷ without_run run later) (without_run run later)) other ≡ []
    step true test rest = rest
    step false test rest = ap (λ s. cond s held.docs (pool_docs (without_run run later) other)) test ∙ rest

docs-without : (run other : RunId) (runs : List Held) → run.0 ≢ other.0 → pool_docs (without_run run runs) other ≡ pool_docs runs other
docs-without run other [] apart = refl
docs-without run other (held ∷ later) apart = step (held.run.0 == run.0) refl (docs-without run other later apart)
  where
    step : (t : Bool) → (held.run.0 == run.0) ≡ t → pool_docs (without_run run later) other ≡ pool_docs later other
        → pool_docs (cond (not t) (held ∷ without_run run later) (without_run run later)) other ≡ pool_docs (held ∷ later) other
    step true is rest =
        rest ∙ sym (ap (λ t. cond t held.docs (pool_docs later other)) (ne_eqb held.run.0 other.0 (λ same. apart (sym (eqb-true held.run.0 run.0 is) ∙ same))))
    step false is rest = ap (λ docs. cond (held.run.0 == other.0) held.docs docs) rest

-- a run enters, with its fronts at its first document
pub fronts-enter : (need : ℕ) (marked : List LabelledDocument) (runs : List Held) (all : List Own) (new : Held)
    → AreFronts need marked runs all → AreFronts need marked (with_run new runs) (map (front_restarted new.run) all)
fronts-enter need marked runs all new were =
    let before : Own → Type 0 = λ own. HasFronts need marked own.assessor runs own.fronts in
    let after : Own → Type 0 = λ own. HasFronts need marked own.assessor (with_run new runs) own.fronts in
    All-map after (front_restarted new.run) all (All-weaker before (λ own. after (front_restarted new.run own)) own-enter all were)
  where
    own-enter : (own : Own) → HasFronts need marked own.assessor runs own.fronts
        → HasFronts need marked own.assessor (with_run new runs) (set own.fronts new.run.0 0)
    own-enter own were = λ other.
        ⊎_elim
        (λ (same : other.0 ≡ new.run.0). none-done need marked own.assessor (pool_docs (with_run new runs) other) _ (put_there own other same))
        (λ apart.
        subst (λ (n : ℕ). AreDone need marked own.assessor (take n (pool_docs (with_run new runs) other)))
        (sym (get_or-set_other own.fronts new.run.0 other.0 0 0 apart))
        (subst (λ (docs : List DocId). AreDone need marked own.assessor (take (get_or own.fronts other.0 0) docs))
        (sym (docs-with _ new runs other (ne_eqb new.run.0 other.0 (λ same. apart (sym same))))) (were other)))
        (cases_eq other.0 new.run.0)
      where
        put_there : (own : Own) (other : RunId) → other.0 ≡ new.run.0 → get_or (set own.fronts new.run.0 0) other.0 0 ≡ 0
        put_there own other same =
            ⊎_elim
            (λ (within : new.run.0 < length own.fronts). ap (λ n. get_or (set own.fronts new.run.0 0) n 0) same
            ∙ get_or-set_same own.fronts new.run.0 0 0 within)
            (λ (beyond : length own.fronts ≤ new.run.0). past (set own.fronts new.run.0 0) other.0
            (omega (arith, beyond, same, length-set own.fronts new.run.0 0)))
            (cases_lt new.run.0 (length own.fronts))

-- a run leaves
pub fronts-leave : (need : ℕ) (marked : List LabelledDocument) (runs : List Held) (all : List Own) (run : RunId)
    → AreFronts need marked runs all → AreFronts need marked (without_run run runs) all
fronts-leave need marked runs all run were =
    All-weaker (λ own. HasFronts need marked own.assessor runs own.fronts)
    (λ own. HasFronts need marked own.assessor (without_run run runs) own.fronts) own-leave all were
  where
    own-leave : (own : Own) → HasFronts need marked own.assessor runs own.fronts → HasFronts need marked own.assessor (without_run run runs) own.fronts
    own-leave own were = λ other.
        ⊎_elim
        (λ (same : run.0 ≡ other.0).
        no-docs need marked own.assessor _
        (ap (take (get_or own.fronts other.0 0)) (docs-gone run other runs same) ∙ take_all (get_or own.fronts other.0 0) [] (omega arith)))
        (λ apart. subst (λ (docs : List DocId). AreDone need marked own.assessor (take (get_or own.fronts other.0 0) docs))
        (sym (docs-without run other runs apart)) (were other))
        (cases_eq run.0 other.0)

-- a run's front is put back, where it has one
pub restarted-past : (run : RunId) (own : Own) → length own.fronts ≤ run.0 → own ≡ front_restarted run own
restarted-past run own beyond = let with_fronts : List ℕ → Own = λ fronts. record { assessor = own.assessor; fronts = fronts } in
    ap with_fronts (sym (put_past own.fronts run.0 0 beyond))

-- ---- the fronts of an assessor

-- those that stand at the name under which they are looked for
pub fronts-whose : (need : ℕ) (marked : List LabelledDocument) (assessor name : List ℕ) (runs : List Held) (fronts : List ℕ)
    → name ≡ whose need assessor → HasFronts need marked name runs fronts → HasFronts need marked assessor runs fronts
fronts-whose need marked assessor name runs fronts is has = step (nat_lt 1 need) refl (subst (λ n. HasFronts need marked n runs fronts) is has)
  where
    few : nat_lt 1 need ≡ false → need ≤ 1
    few e = grind (arith, nat_tests)

    step : (t : Bool) → nat_lt 1 need ≡ t → HasFronts need marked (cond t assessor []) runs fronts → HasFronts need marked assessor runs fronts
    step true e has = has
    step false e has = λ run k d within. done-for-all need marked [] assessor _ (few e) (has run k d within)

found : {X : Type 0} (p : X → Bool) (P : X → Type 0) (xs : List X) (x : X) → find p xs ≡ Some x → All P xs → P x × (p x ≡ true)
found p P [] x e all = absurd (false≢true (ap is_some e))
found {X} p P (y ∷ ys) x e all = step (p y) refl e (λ e. found p P ys x e (All-tail P y ys all))
  where
    step : (t : Bool) → p y ≡ t → cond t (Some y) (find p ys) ≡ Some x → (find p ys ≡ Some x → P x × (p x ≡ true)) → P x × (p x ≡ true)
    step true is e rest =
        let same : y ≡ x = ap (λ (one : Option X). unwrap_or one y) e in
        (subst P same (All-head P y ys all), ap p (sym same) ∙ is)
    step false is e rest = rest e

-- the fronts that are found
pub fronts-found : (need : ℕ) (marked : List LabelledDocument) (assessor name : List ℕ) (runs : List Held) (all : List Own) (own : Own)
    → find (λ one. bytes_eq one.assessor name) all ≡ Some own → name ≡ whose need assessor
    → AreFronts need marked runs all → HasFronts need marked assessor runs own.fronts
fronts-found need marked assessor name runs all own is name_is were =
    let there = found (λ (one : Own). bytes_eq one.assessor name) (λ one. HasFronts need marked one.assessor runs one.fronts) all own is were in
    fronts-whose need marked assessor own.assessor runs own.fronts ((bytes_eq-Decides own.assessor name).0 there.1 ∙ name_is) there.0

-- fronts that are taken out
pub fronts-taken : (need : ℕ) (marked : List LabelledDocument) (runs : List Held) (all : List Own) (place : ℕ) (own : Own)
    → place < length all → own ≡ get_or all place own → AreFronts need marked runs all
    → HasFronts need marked own.assessor runs own.fronts × AreFronts need marked runs (swap_remove all place own)
fronts-taken need marked runs all place own within is were =
    let P : Own → Type 0 = λ one. HasFronts need marked one.assessor runs one.fronts in
    let left = swap_remove all place own in
    let both : All P (own ∷ left) = All-permutation P all (own ∷ left) (IsPermutation-swap_remove all place own within is) were in
    (All-head P own left both, All-tail P own left both)

pub place-within : (all slice : List Own) (name : List ℕ) (told : Option ℕ) (place : ℕ) → told ≡ position (λ (own : Own). bytes_eq own.assessor name) slice
    → slice ≡ all → told ≡ Some place → place < length all
place-within all slice name told place found same is =
    let at : position (λ (own : Own). bytes_eq own.assessor name) all ≡ Some place =
    sym (found ∙ ap (position (λ (own : Own). bytes_eq own.assessor name)) same) ∙ is in
    (position-Some (λ (own : Own). bytes_eq own.assessor name) all place (record { assessor = []; fronts = [] }) at).0

-- the loop that restarts all
pub all-changed : (f : Own → Own) (old items whole : List Own) (at len : ℕ) → items ≡ map f (take at old) ++ drop at old
    → length old ≤ at → old ≡ whole → len ≡ length whole → take len (items ++ drop (length items) whole) ≡ map f whole
all-changed f old items whole at len is end same count =
    let done : items ≡ map f whole = is ∙ ap (λ list. map f (take at old) ++ list) (drop_all at old end)
    ∙ append-nil (map f (take at old)) ∙ ap (map f) (take_all at old end ∙ same) in
    let long : length items ≡ length whole = ap length done ∙ length-map whole f in
    ap (λ list. take len (items ++ list)) (drop_all (length items) whole (omega (arith, long)))
    ∙ ap (take len) (append-nil items) ∙ take_all len items (omega (arith, long, count)) ∙ done
