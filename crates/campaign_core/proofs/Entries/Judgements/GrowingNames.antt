-- The labels and the leases where an entry gives none, and documents join the names.
use Rattle.std.proofs.Common.{◌≡◌, ◌||◌, ◌<◌, ◌≤◌, ◌+◌, ℕ, suc, Bool, true, false, cond, not, List, [], ◌∷◌, ◌++◌, drop, length, length-append, map, subst, refl, sym, ap, ◌∙◌, arith}
use Rattle.std.specs.List.{list_all, list_any, position_or_len}
use Rattle.std.specs.Str.{bytes_eq}
use Rattle.std.proofs.lemmas.List.{take-append-drop}
use Rattle.std.proofs.lemmas.List.Folds.{list_any-append}
use Rattle.std.proofs.lemmas.Bool.{and_parts, and_from}
use Rattle.decimal_rank.specs.declared.naming.DocId.{DocId}
use Rattle.decimal_rank.proofs.Lists.{all_head, all_tail}
use Rattle.labels.specs.LabelledDocuments.{given_at, ruling_at}
use Rattle.lease_desk.specs.declared.leases.Lease.{Lease as DeskLease}
use Rattle.qrels_view.specs.declared.grades.Graded.{Graded}
use Rattle.rulebook.specs.Words.{Text, contains_text}
use Rattle.rulebook.specs.Campaign.{History}
use Rattle.rulebook.specs.Histories.Entries.{AreKept}
use Rattle.rulebook.specs.Judgements.Grades.{effective, labelled_documents, labels_on, last_ruling, trail}
use Rattle.rulebook.specs.Judgements.LeaseEntries.{EndsAreThere, end_of}
use Rattle.rulebook.specs.Judgements.Leases.{Lease, leases}
use Rattle.campaign_core.specs.Growth.{BeginsWith}
use Rattle.campaign_core.specs.Assessments.TopicLabelling.{IsLabelled, graded_in}
use Rattle.campaign_core.specs.Assessments.DeskLeases.{IsLeased, is_known, lease_known}
use Rattle.campaign_core.specs.Numbering.Numbers.{are_named, doc_in, docs_in, names_of}
use Rattle.campaign_core.specs.Assessments.Topics.{LabelledTopic, topic_ids}
use Rattle.campaign_core.proofs.Entries.Judgements.QuietEntries.{known-stays}
use Rattle.campaign_core.proofs.Numbers.DocNumbers.{number-stays}

-- Names that grow.

grown-by : (names later : List Text) → BeginsWith names later → later ≡ names ++ drop (length names) later
grown-by names later begins = sym (take-append-drop (length names) later) ∙ ap (λ front. front ++ drop (length names) later) begins

-- a document keeps its number
number-kept : (names later : List Text) (doc : Text) → BeginsWith names later → contains_text names doc ≡ true → doc_in later doc ≡ doc_in names doc
number-kept names later doc begins named = ap (λ ns. doc_in ns doc) (grown-by names later begins) ∙ number-stays names (drop (length names) later) doc named

past-all : {X : Type 0} (p : X → Bool) (xs ys : List X) → list_any p xs ≡ false → length xs ≤ position_or_len p (xs ++ ys)
past-all p [] ys none = omega arith
past-all p (x ∷ xs) ys none = step (p x) none (past-all p xs ys)
  where
    step : (t : Bool) → (t || list_any p xs) ≡ false → (list_any p xs ≡ false → length xs ≤ position_or_len p (xs ++ ys))
        → suc (length xs) ≤ cond (not t) (1 + position_or_len p (xs ++ ys)) 0
    step true none rest = cc none
    step false none rest = omega (arith, rest none)

-- a document that joins the names has a number past those that were there
number-past : (names later : List Text) (doc : Text) → BeginsWith names later → contains_text names doc ≡ false → length names ≤ (doc_in later doc).0
number-past names later doc begins absent = rw (grown-by names later begins) (past-all (bytes_eq doc) names (drop (length names) later) absent)

still-named : (names later : List Text) (doc : Text) → BeginsWith names later → contains_text names doc ≡ true → contains_text later doc ≡ true
still-named names later doc begins named =
    ap (λ ns. contains_text ns doc) (grown-by names later begins) ∙ list_any-append (bytes_eq doc) names (drop (length names) later)
    ∙ ap (λ t. t || list_any (bytes_eq doc) (drop (length names) later)) named

still-absent : (names later : List Text) (doc : Text) → BeginsWith names later → contains_text later doc ≡ false → contains_text names doc ≡ false
still-absent names later doc begins absent = step (contains_text names doc) refl
  where
    step : (t : Bool) → contains_text names doc ≡ t → t ≡ false
    step true named = let there : contains_text later doc ≡ true = still-named names later doc begins named in cc (there, absent)
    step false named = refl

all-named : (names later docs : List Text) → BeginsWith names later → are_named names docs ≡ true → are_named later docs ≡ true
all-named names later [] begins named = refl
all-named names later (doc ∷ docs) begins named =
    and_from _ _ (still-named names later doc begins (all_head (contains_text names) doc docs named))
    (all-named names later docs begins (all_tail (contains_text names) doc docs named))

-- The labels, the rulings and the grades of a topic.

module _ (H J : History) (t : LabelledTopic) (keeps : AreKept H J) (grown : BeginsWith (names_of H) (names_of J)) (was : IsLabelled H (names_of H) t) where
  abbrev before : List Text
  before = names_of H

  abbrev now : List Text
  now = names_of J

  given-then : (doc : Text) → given_at t.marked (doc_in now doc) ≡ labels_on J t.id doc
  given-then doc = step (contains_text before doc) refl ∙ sym (keeps.labels_are t.id doc)
    where
      step : (b : Bool) → contains_text before doc ≡ b → given_at t.marked (doc_in now doc) ≡ labels_on H t.id doc
      step true named = ap (given_at t.marked) (number-kept before now doc grown named) ∙ was.given_are doc named
      step false absent = was.given_named (doc_in now doc) (number-past before now doc grown absent) ∙ sym (was.labels_named doc absent)

  ruled-then : (doc : Text) → ruling_at t.marked (doc_in now doc) ≡ last_ruling J t.id doc
  ruled-then doc = step (contains_text before doc) refl ∙ sym (keeps.rulings_are t.id doc)
    where
      step : (b : Bool) → contains_text before doc ≡ b → ruling_at t.marked (doc_in now doc) ≡ last_ruling H t.id doc
      step true named = ap (ruling_at t.marked) (number-kept before now doc grown named) ∙ was.rulings_are doc named
      step false absent = was.ruled_named (doc_in now doc) (number-past before now doc grown absent) ∙ sym (was.rulings_named doc absent)

  longer : length before ≤ length now
  longer = rw (grown-by before now grown) (omega (arith, length-append before (drop (length before) now)))

  graded-then : (docs : List Text) → are_named before docs ≡ true → map (graded_in H before t.id) docs ≡ map (graded_in J now t.id) docs
  graded-then [] named = refl
  graded-then (doc ∷ docs) named =
      let same : graded_in H before t.id doc ≡ graded_in J now t.id doc =
      ap (λ (d : DocId). let g : Graded = record { doc = d; grade = effective H t.id doc } in g)
      (sym (number-kept before now doc grown (all_head (contains_text before) doc docs named)))
      ∙ ap (λ grade. let g : Graded = record { doc = doc_in now doc; grade = grade } in g) (sym (keeps.effective_is t.id doc)) in
      ap (λ g. g ∷ map (graded_in H before t.id) docs) same
      ∙ ap (λ gs. graded_in J now t.id doc ∷ gs) (graded-then docs (all_tail (contains_text before) doc docs named))

  docs-then : (docs : List Text) → are_named before docs ≡ true → docs_in before docs ≡ docs_in now docs
  docs-then [] named = refl
  docs-then (doc ∷ docs) named =
      ap (λ d. d ∷ docs_in before docs) (sym (number-kept before now doc grown (all_head (contains_text before) doc docs named)))
      ∙ ap (λ ds. doc_in now doc ∷ ds) (docs-then docs (all_tail (contains_text before) doc docs named))

  pub labelled-grows : IsLabelled J (names_of J) t
  labelled-grows = record {
    given_are = λ doc named. given-then doc;
    rulings_are = λ doc named. ruled-then doc;
    given_named = λ doc past. was.given_named doc (omega (arith, past, longer));
    labels_named = λ doc absent. keeps.labels_are t.id doc ∙ was.labels_named doc (still-absent before now doc grown absent);
    ruled_named = λ doc past. was.ruled_named doc (omega (arith, past, longer));
    rulings_named = λ doc absent. keeps.rulings_are t.id doc ∙ was.rulings_named doc (still-absent before now doc grown absent);
    marked_are = was.marked_are ∙ docs-then (labelled_documents H t.id) was.labelled_named ∙ ap (docs_in now) (sym (keeps.labelled_are t.id));
    labelled_named = ap (are_named now) (keeps.labelled_are t.id) ∙ all-named before now (labelled_documents H t.id) grown was.labelled_named;
    graded_are = was.graded_are ∙ graded-then (trail H t.id) was.trail_named ∙ ap (map (graded_in J now t.id)) (sym (keeps.trail_is t.id));
    trail_named = ap (are_named now) (keeps.trail_is t.id) ∙ all-named before now (trail H t.id) grown was.trail_named;
  }

-- The leases.

module _ (ends_there : EndsAreThere) (H J : History) (ends_are : (number : ℕ) → end_of J number ≡ end_of H number)
    (ids_are : topic_ids J ≡ topic_ids H) (grown : BeginsWith (names_of H) (names_of J)) where
  known-grows : (l : Lease) → contains_text (names_of H) l.doc ≡ true → lease_known J (names_of J) l ≡ lease_known H (names_of H) l
  known-grows l named = known-stays ends_there H J l (ends_are l.number) ids_are (number-kept (names_of H) (names_of J) l.doc grown named)

  all-known : (ls : List Lease) → list_all (is_known H (names_of H)) ls ≡ true → map (lease_known J (names_of J)) ls ≡ map (lease_known H (names_of H)) ls
  all-known [] named = refl
  all-known (l ∷ ls) named =
      let first = and_parts _ _ (all_head (is_known H (names_of H)) l ls named) in
      ap (λ k. k ∷ map (lease_known J (names_of J)) ls) (known-grows l first.0)
      ∙ ap (λ ks. lease_known H (names_of H) l ∷ ks) (all-known ls (all_tail (is_known H (names_of H)) l ls named))

  all-listed : (ls : List Lease) → list_all (is_known H (names_of H)) ls ≡ true → list_all (is_known J (names_of J)) ls ≡ true
  all-listed [] named = refl
  all-listed (l ∷ ls) named =
      let first = and_parts _ _ (all_head (is_known H (names_of H)) l ls named) in
      and_from _ _ (and_from _ _ (still-named (names_of H) (names_of J) l.doc grown first.0) (ap (λ ids. contains_text ids l.topic) ids_are ∙ first.1))
      (all-listed ls (all_tail (is_known H (names_of H)) l ls named))

pub leased-grows : EndsAreThere → (H J : History) (desk : List DeskLease) → leases J ≡ leases H → ((number : ℕ) → end_of J number ≡ end_of H number)
    → topic_ids J ≡ topic_ids H → BeginsWith (names_of H) (names_of J) → IsLeased H (names_of H) desk → IsLeased J (names_of J) desk
leased-grows ends_there H J desk leases_are ends_are ids_are grown leased = record {
  leases_are = leased.leases_are ∙ sym (all-known ends_there H J ends_are ids_are grown (leases H) leased.are_known)
      ∙ ap (map (lease_known J (names_of J))) (sym leases_are);
  are_known = ap (list_all (is_known J (names_of J))) leases_are ∙ all-listed ends_there H J ends_are ids_are grown (leases H) leased.are_known;
  ends_granted = λ number beyond. ends_are number ∙ leased.ends_granted number (subst (λ ls. length ls < number) leases_are beyond);
}
