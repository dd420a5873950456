-- Documents by number and by docno: no name stands twice.
use Rattle.std.proofs.Common.{◌≡◌, ◌||◌, ◌&&◌, ◌<◌, ◌+◌, ℕ, zero, suc, Bool, true, false, not, cond, List, [], ◌∷◌, filter, length, map, refl, sym, ap, ◌∙◌, arith, eq-eqb}
use Rattle.std.specs.Prelude.{◌==◌, nat_lt}
use Rattle.std.specs.List.{list_all, position_or_len}
use Rattle.std.specs.Str.{bytes_eq}
use Rattle.std.specs.Cmp.{both_ways}
use Rattle.std.proofs.lemmas.Bool.{eqb-true, ltb-true, or_right, not-true, and_parts}
use Rattle.std.proofs.lemmas.Slice.Eq.{bytes_eq-Decides}
use Rattle.decimal_rank.specs.Names.{docno_of}
use Rattle.decimal_rank.specs.declared.naming.DocId.{DocId}
use Rattle.decimal_rank.proofs.Lists.{all_head, all_tail}
use Rattle.labels.specs.LabelledDocuments.{is_listed}
use Rattle.rulebook.specs.Spelling.{differ}
use Rattle.rulebook.specs.Words.{Text, contains_text}
use Rattle.rulebook.specs.Campaign.{History, submitted_docnos}
use Rattle.campaign_core.specs.Numbering.Numbers.{doc_in, names_of}
use Rattle.campaign_core.proofs.Lists.DistinctTexts.{differ-all}
use Rattle.campaign_core.proofs.Lists.Elements.{all_cons}
use Rattle.campaign_core.proofs.Numbers.DocNumbers.{docno-back}

pub names-differ : (H : History) → differ (names_of H) ≡ true
names-differ H = differ-all [] (submitted_docnos H) refl

-- the docno of a number is a name
pub docno-there : (names : List Text) (n : ℕ) → n < length names → contains_text names (docno_of names n) ≡ true
docno-there [] n within = absurd (omega (arith, within))
docno-there (x ∷ names) zero within = ap (λ t. t || contains_text names x) ((bytes_eq-Decides x x).1 refl)
docno-there (x ∷ names) (suc n) within =
    or_right (bytes_eq (docno_of names n) x) (contains_text names (docno_of names n)) (docno-there names n (omega (arith, within)))

pub first-place : (names : List Text) (n : ℕ) → differ names ≡ true → n < length names → position_or_len (bytes_eq (docno_of names n)) names ≡ n
first-place [] n differs within = absurd (omega (arith, within))
first-place (x ∷ names) zero differs within = rw ((bytes_eq-Decides x x).1 refl) refl
first-place (x ∷ names) (suc n) differs within =
    let parts = and_parts (not (contains_text names x)) (differ names) differs in
    let inner : n < length names = omega (arith, within) in
    step (bytes_eq (docno_of names n) x) refl (not-true (contains_text names x) parts.0) (docno-there names n inner) (first-place names n parts.1 inner)
  where
    step : (t : Bool) → bytes_eq (docno_of names n) x ≡ t → contains_text names x ≡ false → contains_text names (docno_of names n) ≡ true
        → position_or_len (bytes_eq (docno_of names n)) names ≡ n
        → cond (not (bytes_eq (docno_of names n) x)) (1 + position_or_len (bytes_eq (docno_of names n)) names) 0 ≡ suc n
    step true same absent there rest = let both : contains_text names x ≡ true =
        ap (contains_text names) (sym ((bytes_eq-Decides (docno_of names n) x).0 same)) ∙ there in cc (both, absent)
    step false same absent there rest = rw same (omega (arith, rest))

-- a name is the docno of a number where it has that number
pub name-number : (names : List Text) (doc : Text) (n : ℕ) → differ names ≡ true → contains_text names doc ≡ true
    → n < length names → bytes_eq doc (docno_of names n) ≡ ((doc_in names doc).0 == n)
name-number names doc n differs there within =
    both_ways (bytes_eq doc (docno_of names n)) ((doc_in names doc).0 == n)
    (λ same. eq-eqb (doc_in names doc).0 n
    (ap (λ (d : Text). position_or_len (bytes_eq d) names) ((bytes_eq-Decides doc (docno_of names n)).0 same) ∙ first-place names n differs within))
    (λ same. (bytes_eq-Decides doc (docno_of names n)).1 (sym (docno-back names doc there) ∙ ap (docno_of names) (eqb-true (doc_in names doc).0 n same)))

-- a test of all documents of a list
pub all-listed : (p : DocId → Bool) (docs : List DocId) → ((doc : DocId) → is_listed docs doc ≡ true → p doc ≡ true) → list_all p docs ≡ true
all-listed p [] each = refl
all-listed p (d ∷ docs) each =
    all_cons p d docs (each d (ap (λ t. t || is_listed docs d) (eq-eqb d.0 d.0 refl)))
    (all-listed p docs (λ doc there. each doc (or_right (doc.0 == d.0) (is_listed docs doc) there)))

abbrev pub docnos : List Text → List DocId → List Text
docnos names docs = map (λ doc. docno_of names doc.0) docs

abbrev pub within : List Text → DocId → Bool
within names doc = nat_lt doc.0 (length names)

-- a name is among the docnos of documents where its number is among them
pub named-listed : (names : List Text) (docs : List DocId) (doc : Text) → differ names ≡ true
    → contains_text names doc ≡ true → list_all (within names) docs ≡ true
    → contains_text (docnos names docs) doc ≡ is_listed docs (doc_in names doc)
named-listed names [] doc differs there all = refl
named-listed names (d ∷ docs) doc differs there all =
    ap (λ t. t || contains_text (docnos names docs) doc)
    (name-number names doc d.0 differs there (ltb-true d.0 (length names) (all_head (within names) d docs all)))
    ∙ ap (λ t. ((doc_in names doc).0 == d.0) || t) (named-listed names docs doc differs there (all_tail (within names) d docs all))

-- a text that isn't a name is no docno
pub unnamed-listed : (names : List Text) (docs : List DocId) (doc : Text) → contains_text names doc ≡ false
    → list_all (within names) docs ≡ true → contains_text (docnos names docs) doc ≡ false
unnamed-listed names [] doc absent all = refl
unnamed-listed names (d ∷ docs) doc absent all =
    ap (λ t. t || contains_text (docnos names docs) doc) (other (bytes_eq doc (docno_of names d.0)) refl)
    ∙ unnamed-listed names docs doc absent (all_tail (within names) d docs all)
  where
    there : contains_text names (docno_of names d.0) ≡ true
    there = docno-there names d.0 (ltb-true d.0 (length names) (all_head (within names) d docs all))

    other : (t : Bool) → bytes_eq doc (docno_of names d.0) ≡ t → t ≡ false
    other true same = let both : contains_text names doc ≡ true = ap (contains_text names) ((bytes_eq-Decides doc (docno_of names d.0)).0 same) ∙ there in
        cc (both, absent)
    other false same = refl

-- the texts of a list that pass a test
pub passing : (p : Text → Bool) (xs : List Text) (doc : Text) → contains_text (filter p xs) doc ≡ (p doc && contains_text xs doc)
passing p [] doc = none (p doc)
  where
    none : (t : Bool) → false ≡ (t && false)
    none true = refl
    none false = refl
passing p (x ∷ xs) doc = step (p x) refl (passing p xs doc)
  where
    skip : (s t u : Bool) → s ≡ false → (s && t) ≡ (s && (u || t))
    skip true t u is = cc is
    skip false t u is = refl

    same-here : (t : Bool) → bytes_eq doc x ≡ t → p x ≡ true → contains_text (filter p xs) doc ≡ (p doc && contains_text xs doc)
        → (t || contains_text (filter p xs) doc) ≡ (p doc && (t || contains_text xs doc))
    same-here true same passes rest = let yes : p doc ≡ true = ap p ((bytes_eq-Decides doc x).0 same) ∙ passes in rw yes refl
    same-here false same passes rest = rest

    other-here : (t : Bool) → bytes_eq doc x ≡ t → p x ≡ false → contains_text (filter p xs) doc ≡ (p doc && contains_text xs doc)
        → contains_text (filter p xs) doc ≡ (p doc && (t || contains_text xs doc))
    other-here true same fails rest = let no_pass : p doc ≡ false = ap p ((bytes_eq-Decides doc x).0 same) ∙ fails in
        rest ∙ skip (p doc) (contains_text xs doc) true no_pass
    other-here false same fails rest = rest

    step : (t : Bool) → p x ≡ t → contains_text (filter p xs) doc ≡ (p doc && contains_text xs doc)
        → contains_text (cond t (x ∷ filter p xs) (filter p xs)) doc ≡ (p doc && (bytes_eq doc x || contains_text xs doc))
    step true is rest = same-here (bytes_eq doc x) refl is rest
    step false is rest = other-here (bytes_eq doc x) refl is rest
