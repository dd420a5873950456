-- Docnos and their numbers.
use Rattle.std.proofs.Common.{◌≡◌, ◌≢◌, ◌||◌, ◌<◌, ◌+◌, ℕ, Bool, true, false, not, cond, List, [], ◌∷◌, ◌++◌, length, map, drop, refl, sym, ap, ◌∙◌, arith, lt-ltb, Some}
use Rattle.std.specs.Prelude.{All, if◌then◌else◌}
use Rattle.std.specs.List.{list_any, position_or_len, fold}
use Rattle.std.specs.Str.{bytes_eq}
use Rattle.std.proofs.lemmas.List.{take-append-drop}
use Rattle.std.proofs.lemmas.List.Sums.{passes_at_first}
use Rattle.std.proofs.lemmas.Slice.Eq.{bytes_eq-Decides}
use Rattle.std.proofs.lemmas.Bool.{or_parts, not-true, and_parts}
use Rattle.std.proofs.lemmas.List.Elements.{All-cons}
use Rattle.std.proofs.lemmas.List.Kept.{AllPairs-cons}
use Rattle.decimal_rank.specs.Names.{docno_of, number_of, with_name}
use Rattle.decimal_rank.specs.declared.naming.DocId.{DocId}
use Rattle.decimal_rank.specs.Rankings.Places.{AreDistinct}
use Rattle.decimal_rank.proofs.Lists.{all_head, all_tail, place_within}
use Rattle.rulebook.specs.Spelling.{differ}
use Rattle.rulebook.specs.Words.{Text, contains_text, each_once}
use Rattle.rulebook.proofs.Elements.TextLists.{all-stay-among, new-among}
use Rattle.campaign_core.specs.Growth.{BeginsWith}
use Rattle.campaign_core.specs.Numbering.Numbers.{are_named, doc_in, docs_in}
use Rattle.campaign_core.proofs.Lists.Elements.{all_cons}

first_stays : {X : Type 0} (p : X → Bool) (xs ys : List X) → list_any p xs ≡ true → position_or_len p (xs ++ ys) ≡ position_or_len p xs
first_stays p [] ys any = cc any
first_stays p (x ∷ xs) ys any = step (p x) any (first_stays p xs ys)
  where
    step : (t : Bool) → (t || list_any p xs) ≡ true → (list_any p xs ≡ true → position_or_len p (xs ++ ys) ≡ position_or_len p xs)
        → cond (not t) (1 + position_or_len p (xs ++ ys)) 0 ≡ cond (not t) (1 + position_or_len p xs) 0
    step true any rest = refl
    step false any rest = ap (λ n. 1 + n) (rest any)

pub number-within : (names : List Text) (doc : Text) → contains_text names doc ≡ true → (doc_in names doc).0 < length names
number-within names doc named = place_within (bytes_eq doc) names named

pub number-some : (names : List Text) (doc : Text) → contains_text names doc ≡ true → number_of names doc ≡ Some (doc_in names doc).0
number-some names doc named = rw (lt-ltb _ _ (number-within names doc named)) refl

pub number-stays : (names more : List Text) (doc : Text) → contains_text names doc ≡ true → doc_in (names ++ more) doc ≡ doc_in names doc
number-stays names more doc named = ap (λ (n : ℕ). let d : DocId = record { 0 = n } in d) (first_stays (bytes_eq doc) names more named)

-- the docno of a number is the one that was numbered
pub docno-back : (names : List Text) (doc : Text) → contains_text names doc ≡ true → docno_of names (doc_in names doc).0 ≡ doc
docno-back names doc named =
    sym ((bytes_eq-Decides doc _).0 (passes_at_first (bytes_eq doc) names [] (number-within names doc named)))

-- docnos with one number are one
pub number-exact : (names : List Text) (doc other : Text) → contains_text names doc ≡ true → contains_text names other ≡ true
    → (doc_in names doc).0 ≡ (doc_in names other).0 → doc ≡ other
number-exact names doc other named also same = sym (docno-back names doc named) ∙ ap (docno_of names) same ∙ docno-back names other also

docs-stay : (names more docs : List Text) → are_named names docs ≡ true → docs_in (names ++ more) docs ≡ docs_in names docs
docs-stay names more [] named = refl
docs-stay names more (doc ∷ docs) named =
    ap (λ d. d ∷ docs_in (names ++ more) docs) (number-stays names more doc (all_head (contains_text names) doc docs named))
    ∙ ap (λ ds. doc_in names doc ∷ ds) (docs-stay names more docs (all_tail (contains_text names) doc docs named))

-- documents keep their numbers where the names grow
pub docs-kept : (names later docs : List Text) → BeginsWith names later → are_named names docs ≡ true → docs_in later docs ≡ docs_in names docs
docs-kept names later docs begins named =
    let cut : later ≡ names ++ drop (length names) later =
    sym (take-append-drop (length names) later) ∙ ap (λ front. front ++ drop (length names) later) begins in
    ap (λ ns. docs_in ns docs) cut ∙ docs-stay names (drop (length names) later) docs named

pub docnos-back : (names docs : List Text) → are_named names docs ≡ true → map (λ doc. docno_of names doc.0) (docs_in names docs) ≡ docs
docnos-back names [] named = refl
docnos-back names (doc ∷ docs) named =
    ap (λ d. d ∷ map (λ doc. docno_of names doc.0) (docs_in names docs)) (docno-back names doc (all_head (contains_text names) doc docs named))
    ∙ ap (λ ds. doc ∷ ds) (docnos-back names docs (all_tail (contains_text names) doc docs named))

-- What each_once keeps.

pub all_named : (names docs : List Text) → are_named (fold with_name names docs) docs ≡ true
all_named names [] = refl
all_named names (doc ∷ docs) =
    all_cons (contains_text (fold with_name (with_name names doc) docs)) doc docs
    (all-stay-among (with_name names doc) docs doc (new-among names doc)) (all_named (with_name names doc) docs)

-- each docno is among all of them
pub each_named : (docs : List Text) → are_named (each_once docs) docs ≡ true
each_named docs = all_named [] docs

-- Documents that differ have numbers that differ.

apart : (names : List Text) (doc : Text) (docs : List Text) → contains_text docs doc ≡ false → contains_text names doc ≡ true
    → are_named names docs ≡ true → All (λ other. doc_in names doc ≢ other) (docs_in names docs)
apart names doc [] absent named all = λ k d within. absurd (omega (arith, within))
apart names doc (x ∷ docs) absent named all =
    let parts = or_parts (bytes_eq doc x) (contains_text docs doc) absent in
    All-cons (λ other. doc_in names doc ≢ other) (doc_in names x) (docs_in names docs)
    (λ same.
    let equal : doc ≡ x = number-exact names doc x named (all_head (contains_text names) x docs all) (ap (λ (d : DocId). d.0) same) in
    let yes : bytes_eq doc x ≡ true = (bytes_eq-Decides doc x).1 equal in
    let no : bytes_eq doc x ≡ false = parts.0 in
    cc (yes, no))
    (apart names doc docs parts.1 named (all_tail (contains_text names) x docs all))

pub numbers-differ : (names docs : List Text) → differ docs ≡ true → are_named names docs ≡ true → AreDistinct (docs_in names docs)
numbers-differ names [] all named = λ i j d less within. absurd (omega (arith, within))
numbers-differ names (doc ∷ docs) all named =
    let parts = and_parts (not (contains_text docs doc)) (differ docs) all in
    AllPairs-cons (λ a b. a ≢ b) (doc_in names doc) (docs_in names docs)
    (apart names doc docs (not-true _ parts.0) (all_head (contains_text names) doc docs named) (all_tail (contains_text names) doc docs named))
    (numbers-differ names docs parts.1 (all_tail (contains_text names) doc docs named))

pub numbers-within : (names docs : List Text) → are_named names docs ≡ true → All (λ doc. doc.0 < length names) (docs_in names docs)
numbers-within names [] named = λ k d within. absurd (omega (arith, within))
numbers-within names (doc ∷ docs) named =
    All-cons (λ d. d.0 < length names) (doc_in names doc) (docs_in names docs) (number-within names doc (all_head (contains_text names) doc docs named))
    (numbers-within names docs (all_tail (contains_text names) doc docs named))
