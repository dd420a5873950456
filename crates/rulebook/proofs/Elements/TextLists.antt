-- Texts that join a list, each once: which are in it then, and which change nothing.
use Rattle.std.proofs.Common.{◌≡◌, ◌||◌, Bool, true, false, List, [], ◌∷◌, ◌++◌, refl, sym, ap, ◌∙◌, filter}
use Rattle.std.specs.Prelude.{if◌then◌else◌}
use Rattle.std.specs.List.{fold, list_any}
use Rattle.std.specs.Str.{bytes_eq}
use Rattle.std.proofs.lemmas.Cmp.{nat_list_eq_equiv}
use Rattle.std.proofs.lemmas.List.Folds.{list_any-append}
use Rattle.std.proofs.lemmas.Bool.{or_right}
use Rattle.decimal_rank.specs.Names.{with_name}
use Rattle.decimal_rank.proofs.TruthValues.{bytes_eq-same}
use Rattle.rulebook.specs.Words.{Text, contains_text}

among-step : (names : List Text) (name doc : Text) (t : Bool) → contains_text names doc ≡ true
    → contains_text (if t then names else names ++ name ∷ []) doc ≡ true
among-step names name doc true there = there
among-step names name doc false there = list_any-append (bytes_eq doc) names (name ∷ []) ∙ ap (λ t. t || list_any (bytes_eq doc) (name ∷ [])) there

stays-among : (names : List Text) (name doc : Text) → contains_text names doc ≡ true → contains_text (with_name names name) doc ≡ true
stays-among names name doc = among-step names name doc (contains_text names name)

new-step : (names : List Text) (name : Text) (t : Bool) → contains_text names name ≡ t → contains_text (if t then names else names ++ name ∷ []) name ≡ true
new-step names name true is = is
new-step names name false is =
    list_any-append (bytes_eq name) names (name ∷ [])
    ∙ or_right (contains_text names name) (bytes_eq name name || false) (ap (λ t. t || false) (nat_list_eq_equiv.refl name))

pub new-among : (names : List Text) (name : Text) → contains_text (with_name names name) name ≡ true
new-among names name = new-step names name (contains_text names name) refl

pub all-stay-among : (names docs : List Text) (doc : Text) → contains_text names doc ≡ true → contains_text (fold with_name names docs) doc ≡ true
all-stay-among names [] doc there = there
all-stay-among names (first ∷ docs) doc there = all-stay-among (with_name names first) docs doc (stays-among names first doc there)

differ-step : (a b : Text) (t : Bool) → bytes_eq b a ≡ t → bytes_eq a b ≡ false → t ≡ false
differ-step a b true same differ =
    let is : b ≡ a = bytes_eq-same b a same in
    let both : bytes_eq a b ≡ true = ap (λ (c : Text). bytes_eq a c) is ∙ nat_list_eq_equiv.refl a in
    cc (both, differ)
differ-step a b false same differ = refl

pub differ-sym : (a b : Text) → bytes_eq a b ≡ false → bytes_eq b a ≡ false
differ-sym a b differ = differ-step a b (bytes_eq b a) refl differ

head-among : (doc : Text) (docs : List Text) → contains_text (doc ∷ docs) doc ≡ true
head-among doc docs = ap (λ t. t || contains_text docs doc) (nat_list_eq_equiv.refl doc)

pub filter-same : {X : Type 0} (p q : X → Bool) (xs : List X) → ((x : X) → p x ≡ q x) → filter p xs ≡ filter q xs
filter-same p q [] same = refl
filter-same p q (x ∷ xs) same = ap (λ t. if t then x ∷ filter p xs else filter p xs) (same x) ∙ ap (λ ys. if q x then x ∷ ys else ys) (filter-same p q xs same)

first-passes : (p : Text → Bool) (x : Text) (xs : List Text) (t : Bool) → p x ≡ t → filter p (x ∷ xs) ≡ (if t then x ∷ filter p xs else filter p xs)
first-passes p x xs true is = rw is refl
first-passes p x xs false is = rw is refl

pub passes-among : (p : Text → Bool) (xs : List Text) (doc : Text) → contains_text xs doc ≡ true → p doc ≡ true → contains_text (filter p xs) doc ≡ true
passes-among p [] doc there passes = cc there
passes-among p (x ∷ xs) doc there passes = step (bytes_eq doc x) refl there (passes-among p xs doc)
  where
    later : (t : Bool) → p x ≡ t → contains_text (filter p xs) doc ≡ true → contains_text (filter p (x ∷ xs)) doc ≡ true
    later true is rest = ap (λ ys. contains_text ys doc) (first-passes p x xs true is) ∙ or_right (bytes_eq doc x) (contains_text (filter p xs) doc) rest
    later false is rest = ap (λ ys. contains_text ys doc) (first-passes p x xs false is) ∙ rest

    step : (t : Bool) → bytes_eq doc x ≡ t → (t || contains_text xs doc) ≡ true
        → (contains_text xs doc ≡ true → p doc ≡ true → contains_text (filter p xs) doc ≡ true) → contains_text (filter p (x ∷ xs)) doc ≡ true
    step true same found rest =
        let is : doc ≡ x = bytes_eq-same doc x same in
        ap (λ ys. contains_text ys doc) (first-passes p x xs true (sym (ap p is) ∙ passes)) ∙ ap (λ t. t || contains_text (filter p xs) doc) same
    step false same found rest = later (p x) refl (rest found passes)

-- the texts that pass, where each of them is among the names already
pub absorbed : (names : List Text) (p : Text → Bool) (docs : List Text)
    → ((doc : Text) → contains_text docs doc ≡ true → p doc ≡ true → contains_text names doc ≡ true)
    → fold with_name names (filter p docs) ≡ names
absorbed names p [] among = refl
absorbed names p (doc ∷ docs) among =
    step (p doc) refl (absorbed names p docs (λ other there. among other (or_right (bytes_eq other doc) (contains_text docs other) there)))
  where
    step : (t : Bool) → p doc ≡ t → fold with_name names (filter p docs) ≡ names → fold with_name names (filter p (doc ∷ docs)) ≡ names
    step true passes rest =
        let first : with_name names doc ≡ names = ap (λ t. if t then names else names ++ doc ∷ []) (among doc (head-among doc docs) passes) in
        ap (fold with_name names) (first-passes p doc docs true passes) ∙ ap (λ ns. fold with_name ns (filter p docs)) first ∙ rest
    step false passes rest = ap (fold with_name names) (first-passes p doc docs false passes) ∙ rest

-- the same, where one document alone may not be among the names
pub one-new : (names : List Text) (p : Text → Bool) (docs : List Text) (doc : Text) → contains_text docs doc ≡ true
    → ((other : Text) → contains_text docs other ≡ true → bytes_eq other doc ≡ false → p other ≡ true → contains_text names other ≡ true)
    → fold with_name names (filter p docs) ≡ (if p doc then with_name names doc else names)
one-new names p [] doc there among = cc there
one-new names p (x ∷ docs) doc there among =
    let tail : (other : Text) → contains_text docs other ≡ true → bytes_eq other doc ≡ false → p other ≡ true → contains_text names other ≡ true =
    λ other found. among other (or_right (bytes_eq other x) (contains_text docs other) found) in
    step (bytes_eq doc x) refl (p x) refl there tail (λ found. one-new names p docs doc found tail)
  where
    known : (other : Text) → (t : Bool) → bytes_eq other doc ≡ t → contains_text (with_name names doc) doc ≡ true
        → (bytes_eq other doc ≡ false → contains_text (with_name names doc) other ≡ true) → contains_text (with_name names doc) other ≡ true
    known other true same new rest = ap (contains_text (with_name names doc)) (bytes_eq-same other doc same) ∙ new
    known other false same new rest = rest same

    not-doc : (other : Text) (t : Bool) → bytes_eq other doc ≡ t → p doc ≡ false → p other ≡ true
        → (bytes_eq other doc ≡ false → contains_text names other ≡ true) → contains_text names other ≡ true
    not-doc other true same lacks has rest = let is : other ≡ doc = bytes_eq-same other doc same in
        let both : p doc ≡ true = sym (ap p is) ∙ has in cc (lacks, both)
    not-doc other false same lacks has rest = rest same

    step : (t : Bool) → bytes_eq doc x ≡ t → (u : Bool) → p x ≡ u → (t || contains_text docs doc) ≡ true
        → ((other : Text) → contains_text docs other ≡ true → bytes_eq other doc ≡ false → p other ≡ true → contains_text names other ≡ true)
        → (contains_text docs doc ≡ true → fold with_name names (filter p docs) ≡ (if p doc then with_name names doc else names))
        → fold with_name names (filter p (x ∷ docs)) ≡ (if p doc then with_name names doc else names)
    step true same true passes found tail rest =
        let is : doc ≡ x = bytes_eq-same doc x same in
        let yes : p doc ≡ true = ap p is ∙ passes in
        ap (fold with_name names) (first-passes p x docs true passes)
        ∙ ap (λ y. fold with_name (with_name names y) (filter p docs)) (sym is)
        ∙ absorbed (with_name names doc) p docs
        (λ other there yes. known other (bytes_eq other doc) refl (new-among names doc) (λ differ. stays-among names doc other (tail other there differ yes)))
        ∙ ap (λ t. if t then with_name names doc else names) (sym yes)
    step true same false passes found tail rest =
        let is : doc ≡ x = bytes_eq-same doc x same in
        let lacks : p doc ≡ false = ap p is ∙ passes in
        ap (fold with_name names) (first-passes p x docs false passes)
        ∙ absorbed names p docs (λ other there yes. not-doc other (bytes_eq other doc) refl lacks yes (λ differ. tail other there differ yes))
        ∙ ap (λ t. if t then with_name names doc else names) (sym lacks)
    step false same true passes found tail rest =
        let differ : bytes_eq x doc ≡ false = differ-sym doc x same in
        let here : contains_text names x ≡ true = among x (head-among x docs) differ passes in
        ap (fold with_name names) (first-passes p x docs true passes)
        ∙ ap (λ t. fold with_name (if t then names else names ++ x ∷ []) (filter p docs)) here
        ∙ rest found
    step false same false passes found tail rest = ap (fold with_name names) (first-passes p x docs false passes) ∙ rest found

pub all-among : (names docs : List Text) (doc : Text) → contains_text docs doc ≡ true → contains_text (fold with_name names docs) doc ≡ true
all-among names [] doc there = cc there
all-among names (first ∷ docs) doc there = step (bytes_eq doc first) refl there (all-among (with_name names first) docs doc)
  where
    step : (t : Bool) → bytes_eq doc first ≡ t → (t || contains_text docs doc) ≡ true
        → (contains_text docs doc ≡ true → contains_text (fold with_name (with_name names first) docs) doc ≡ true)
        → contains_text (fold with_name (with_name names first) docs) doc ≡ true
    step true same found rest =
        let is : doc ≡ first = bytes_eq-same doc first same in
        all-stay-among (with_name names first) docs doc (ap (contains_text (with_name names first)) is ∙ new-among names first)
    step false same found rest = rest found

pub with-name-inverse : (names : List Text) (name doc : Text) → bytes_eq doc name ≡ false
    → contains_text (with_name names name) doc ≡ true → contains_text names doc ≡ true
with-name-inverse names name doc differ there = step (contains_text names name) there
  where
    or-none : (s t : Bool) → t ≡ false → (s || (t || false)) ≡ true → s ≡ true
    or-none true t lacks any = refl
    or-none false true lacks any = cc lacks
    or-none false false lacks any = any

    step : (t : Bool) → contains_text (if t then names else names ++ name ∷ []) doc ≡ true → contains_text names doc ≡ true
    step true found = found
    step false found = or-none (contains_text names doc) (bytes_eq doc name) differ (sym (list_any-append (bytes_eq doc) names (name ∷ [])) ∙ found)
