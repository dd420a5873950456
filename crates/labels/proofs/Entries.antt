-- What a map from documents to labels tells of the documents.
use Rattle.std.proofs.Common.{◌≡◌, ℕ, zero, suc, ◌<◌, ◌≤◌, Bool, true, false, cond, ◌||◌, eqb, nat_lt, List, [], ◌∷◌, length, get_or, map, Option, Some, None, Bor, IfSome, MatchOption, is_some, refl, sym, ap, ◌∙◌, arith, subst}
use Rattle.std.specs.List.{IsDistinct, find}
use Rattle.std.specs.Map.{keys_of, lookup, set_value}
use Rattle.std.specs.Option.{option_copied, option_map}
use Rattle.std.specs.Str.{bytes_eq}
use Rattle.std.proofs.lemmas.Bool.{false≢true, eq-eqb}
use Rattle.std.proofs.lemmas.Map.Keys.{apart_from_distinct}
use Rattle.indexmap.specs.IndexMap.{insert_entry}
use Rattle.decimal_rank.specs.Rankings.Places.{AreDistinct}
use Rattle.decimal_rank.specs.declared.naming.DocId.{DocId}
use Rattle.labels.specs.declared.given.Given.{Given}
use Rattle.labels.specs.Grades.{effective_grade}
use Rattle.labels.specs.DocumentLabels.{Labelled, grades_of, has_label, label_grade, with_label}
use Rattle.labels.specs.LabelledDocuments.{LabelledDocument, effective_at, given_at, is_labelled_document, labelled_docs, ruling_at, with_label_at, with_ruling_at}
use Rattle.labels.specs.TopicLabelViews.{LabelHasRoom, documents_of, room_at}

abbrev pub Entry : Type 0
Entry = ℕ × Labelled

-- ---- look-ups

abbrev pub given_found : Option Labelled → List Given
given_found None = []
given_found (Some labels) = labels.given

abbrev pub ruling_found : Option Labelled → Option ℕ
ruling_found None = None
ruling_found (Some labels) = labels.ruling

pub given_looked_up : (doc : DocId) (entries : List Entry) → given_found (lookup (eqb doc.0) entries) ≡ given_at (documents_of entries) doc
given_looked_up doc [] = refl
given_looked_up doc (entry ∷ entries) = step (eqb doc.0 entry.0) (given_looked_up doc entries)
  where
    step : (t : Bool) → given_found (lookup (eqb doc.0) entries) ≡ given_at (documents_of entries) doc
        → given_found (cond t (Some entry.1) (lookup (eqb doc.0) entries)) ≡ cond t entry.1.given (given_at (documents_of entries) doc)
    step true rest = refl
    step false rest = rest

pub ruling_looked_up : (doc : DocId) (entries : List Entry) → ruling_found (lookup (eqb doc.0) entries) ≡ ruling_at (documents_of entries) doc
ruling_looked_up doc [] = refl
ruling_looked_up doc (entry ∷ entries) = step (eqb doc.0 entry.0) (ruling_looked_up doc entries)
  where
    step : (t : Bool) → ruling_found (lookup (eqb doc.0) entries) ≡ ruling_at (documents_of entries) doc
        → ruling_found (cond t (Some entry.1) (lookup (eqb doc.0) entries)) ≡ cond t entry.1.ruling (ruling_at (documents_of entries) doc)
    step true rest = refl
    step false rest = rest

pub room_looked_up : (doc : DocId) (entries : List Entry) → room_at entries doc ≡ option_map (λ labels. labels.spare) (lookup (eqb doc.0) entries)
room_looked_up doc [] = refl
room_looked_up doc (entry ∷ entries) = step (eqb doc.0 entry.0) (room_looked_up doc entries)
  where
    step : (t : Bool) → room_at entries doc ≡ option_map (λ (labels : Labelled). labels.spare) (lookup (eqb doc.0) entries)
        → cond t (Some entry.1.spare) (room_at entries doc)
        ≡ option_map (λ (labels : Labelled). labels.spare) (cond t (Some entry.1) (lookup (eqb doc.0) entries))
    step true rest = refl
    step false rest = rest

pub marked_looked_up : (doc : DocId) (entries : List Entry) → is_labelled_document (documents_of entries) doc ≡ is_some (lookup (eqb doc.0) entries)
marked_looked_up doc [] = refl
marked_looked_up doc (entry ∷ entries) = step (eqb doc.0 entry.0) (marked_looked_up doc entries)
  where
    step : (t : Bool) → is_labelled_document (documents_of entries) doc ≡ is_some (lookup (eqb doc.0) entries)
        → (t || is_labelled_document (documents_of entries) doc) ≡ is_some (cond t (Some entry.1) (lookup (eqb doc.0) entries))
    step true rest = refl
    step false rest = rest

not_empty : {X : Type 0} (xs : List X) → true ≡ nat_lt 0 (length xs) → 0 < length xs
not_empty [] e = absurd (cc)
not_empty (x ∷ xs) e = omega arith

-- the labels that are lent of a document
module _ (doc : DocId) (entries : List Entry) where
  pub given_lent : (found : Option (Bor Labelled)) → option_copied found ≡ lookup (eqb doc.0) entries
      → MatchOption found (given_at (documents_of entries) doc ≡ []) (λ labels. labels.now.given ≡ given_at (documents_of entries) doc)
  given_lent None e = sym (ap given_found e ∙ given_looked_up doc entries)
  given_lent (Some labels) e = ap given_found e ∙ given_looked_up doc entries

  pub ruling_lent : (found : Option (Bor Labelled)) → option_copied found ≡ lookup (eqb doc.0) entries
      → IfSome found (λ labels. labels.now.ruling ≡ ruling_at (documents_of entries) doc)
  ruling_lent None e = tt
  ruling_lent (Some labels) e = ap ruling_found e ∙ ruling_looked_up doc entries

  pub some_lent : (found : Option (Bor Labelled)) → option_copied found ≡ lookup (eqb doc.0) entries
      → is_labelled_document (documents_of entries) doc ≡ nat_lt 0 (length (given_at (documents_of entries) doc))
      → IfSome found (λ labels. 0 < length labels.now.given)
  some_lent None e each = tt
  some_lent (Some labels) e each =
      let there : is_labelled_document (documents_of entries) doc ≡ true = marked_looked_up doc entries ∙ ap is_some (sym e) in
      let some : 0 < length (given_at (documents_of entries) doc) = not_empty _ (sym there ∙ each) in
      subst (λ given. 0 < length given) (sym (given_lent (Some labels) e)) some

-- the room of a document that is there
pub old_room : (doc : DocId) (labels : Labelled) (entries : List Entry) (slots fresh : ℕ) → Some labels ≡ lookup (eqb doc.0) entries
    → LabelHasRoom (room_at entries doc) slots fresh → 1 ≤ labels.spare
old_room doc labels entries slots fresh found =
    subst (λ room. LabelHasRoom room slots fresh) (room_looked_up doc entries ∙ ap (option_map (λ (l : Labelled). l.spare)) (sym found))

-- the room for a new document
pub new_room : (doc : DocId) (entries : List Entry) (slots fresh : ℕ) → None ≡ lookup (eqb doc.0) entries
    → LabelHasRoom (room_at entries doc) slots fresh → (1 ≤ slots) × (1 ≤ fresh)
new_room doc entries slots fresh none =
    subst (λ room. LabelHasRoom room slots fresh) (room_looked_up doc entries ∙ ap (option_map (λ (l : Labelled). l.spare)) (sym none))

abbrev pub effective_found : ℕ → Option Labelled → Option ℕ
effective_found need found = effective_grade need (grades_of (given_found found)) (ruling_found found)

pub effective_looked_up : (need : ℕ) (doc : DocId) (entries : List Entry)
    → effective_found need (lookup (eqb doc.0) entries) ≡ effective_at need (documents_of entries) doc
effective_looked_up need doc entries =
    ap (λ given. effective_grade need (grades_of given) (ruling_found (lookup (eqb doc.0) entries))) (given_looked_up doc entries)
    ∙ ap (effective_grade need (grades_of (given_at (documents_of entries) doc))) (ruling_looked_up doc entries)

-- an assessor who has a label has a grade
pub has_one : (assessor : List ℕ) (given : List Given) → is_some (label_grade assessor given) ≡ has_label assessor given
has_one assessor [] = refl
has_one assessor (label ∷ given) = step (bytes_eq label.assessor assessor) (has_one assessor given)
  where
    step : (t : Bool) → is_some (label_grade assessor given) ≡ has_label assessor given
        → is_some (option_map (λ (l : Given). l.grade) (cond t (Some label) (find (λ (l : Given). bytes_eq l.assessor assessor) given)))
        ≡ (t || has_label assessor given)
    step true rest = refl
    step false rest = rest

-- ---- writes

-- labels in the place of those of a document
module _ (test : ℕ → Bool) (was now : Labelled) where
  pub map_unchanged : {X : Type 0} (f : Entry → X) → ((number : ℕ) → f (number, now) ≡ f (number, was))
      → (entries : List Entry) → lookup test entries ≡ Some was
      → map f (set_value test entries now) ≡ map f entries
  map_unchanged f same [] found = refl
  map_unchanged {X} f same (entry ∷ entries) found = step (test entry.0) (map_unchanged f same entries) found
    where
      step : (t : Bool) → (lookup test entries ≡ Some was → map f (set_value test entries now) ≡ map f entries)
          → cond t (Some entry.1) (lookup test entries) ≡ Some was
          → map f (cond t ((entry.0, now) ∷ entries) (entry ∷ set_value test entries now)) ≡ map f (entry ∷ entries)
      step true rest h =
          let is : was ≡ entry.1 = cc in
          ap (λ x. x ∷ map f entries) (same entry.0 ∙ ap (λ labels. f (entry.0, labels)) is)
      step false rest h = ap (λ more. f entry ∷ more) (rest h)

  pub found_again : (entries : List Entry) → lookup test entries ≡ Some was → lookup test (set_value test entries now) ≡ Some now
  found_again [] found = absurd (cc)
  found_again (entry ∷ entries) found = step (test entry.0) refl (found_again entries) found
    where
      step : (t : Bool) → test entry.0 ≡ t → (lookup test entries ≡ Some was → lookup test (set_value test entries now) ≡ Some now)
          → cond t (Some entry.1) (lookup test entries) ≡ Some was
          → lookup test (cond t ((entry.0, now) ∷ entries) (entry ∷ set_value test entries now)) ≡ Some now
      step true e rest h = ap (λ t. cond t (Some now) (lookup test entries)) e
      step false e rest h = ap (λ t. cond t (Some entry.1) (lookup test (set_value test entries now))) e ∙ rest h

  pub marked_unchanged : (entries : List Entry) → lookup test entries ≡ Some was → now.given ≡ was.given → now.ruling ≡ was.ruling
      → documents_of (set_value test entries now) ≡ documents_of entries
  marked_unchanged entries found given ruling =
      map_unchanged (λ entry. made entry.0 entry.1.given entry.1.ruling)
      (λ number. ap (λ g. made number g now.ruling) given ∙ ap (λ r. made number was.given r) ruling) entries found
    where
      made : ℕ → List Given → Option ℕ → LabelledDocument
      made number labels last = record { doc = record { 0 = number }; given = labels; ruling = last }

module _ (doc : DocId) (assessor : List ℕ) (grade : ℕ) where
  pub label_set : (was now : Labelled) (entries : List Entry) → lookup (eqb doc.0) entries ≡ Some was
      → now.given ≡ with_label assessor grade was.given → now.ruling ≡ was.ruling
      → documents_of (set_value (eqb doc.0) entries now) ≡ with_label_at doc assessor grade (documents_of entries)
  label_set was now [] found given ruling = absurd (cc)
  label_set was now (entry ∷ entries) found given ruling = step (eqb doc.0 entry.0) (λ h. label_set was now entries h given ruling) found
    where
      made : List Given → Option ℕ → LabelledDocument
      made labels last = record { doc = record { 0 = entry.0 }; given = labels; ruling = last }

      step : (t : Bool)
          → (lookup (eqb doc.0) entries ≡ Some was → documents_of (set_value (eqb doc.0) entries now) ≡ with_label_at doc assessor grade (documents_of entries))
          → cond t (Some entry.1) (lookup (eqb doc.0) entries) ≡ Some was
          → documents_of (cond t ((entry.0, now) ∷ entries) (entry ∷ set_value (eqb doc.0) entries now))
          ≡ cond t (made (with_label assessor grade entry.1.given) entry.1.ruling ∷ documents_of entries)
          (made entry.1.given entry.1.ruling ∷ with_label_at doc assessor grade (documents_of entries))
      step true rest h =
          let is : was ≡ entry.1 = cc in
          let labels = given ∙ ap (λ (l : Labelled). with_label assessor grade l.given) is in
          let last = ruling ∙ ap (λ (l : Labelled). l.ruling) is in
          ap (λ g. made g now.ruling ∷ documents_of entries) labels ∙ ap (λ r. made (with_label assessor grade entry.1.given) r ∷ documents_of entries) last
      step false rest h = ap (λ more. made entry.1.given entry.1.ruling ∷ more) (rest h)

  pub label_inserted : (new : Labelled) (entries : List Entry) → lookup (eqb doc.0) entries ≡ None
      → new.given ≡ with_label assessor grade [] → new.ruling ≡ None
      → documents_of (insert_entry eqb entries doc.0 new) ≡ with_label_at doc assessor grade (documents_of entries)
  label_inserted new [] none given ruling =
      ap (λ (g : List Given). record { doc = doc; given = g; ruling = new.ruling } ∷ []) given
      ∙ ap (λ (r : Option ℕ). record { doc = doc; given = with_label assessor grade []; ruling = r } ∷ []) ruling
  label_inserted new (entry ∷ entries) none given ruling = step (eqb doc.0 entry.0) (λ h. label_inserted new entries h given ruling) none
    where
      made : List Given → Option ℕ → LabelledDocument
      made labels last = record { doc = record { 0 = entry.0 }; given = labels; ruling = last }

      step : (t : Bool)
          → (lookup (eqb doc.0) entries ≡ None → documents_of (insert_entry eqb entries doc.0 new) ≡ with_label_at doc assessor grade (documents_of entries))
          → cond t (Some entry.1) (lookup (eqb doc.0) entries) ≡ None
          → documents_of (cond t ((entry.0, new) ∷ entries) (entry ∷ insert_entry eqb entries doc.0 new))
          ≡ cond t (made (with_label assessor grade entry.1.given) entry.1.ruling ∷ documents_of entries)
          (made entry.1.given entry.1.ruling ∷ with_label_at doc assessor grade (documents_of entries))
      step true rest h = absurd (cc)
      step false rest h = ap (λ more. made entry.1.given entry.1.ruling ∷ more) (rest h)

pub ruling_set : (doc : DocId) (grade : ℕ) (was now : Labelled) (entries : List Entry)
    → lookup (eqb doc.0) entries ≡ Some was → now.given ≡ was.given → now.ruling ≡ Some grade
    → documents_of (set_value (eqb doc.0) entries now) ≡ with_ruling_at doc grade (documents_of entries)
ruling_set doc grade was now [] found given ruling = absurd (cc)
ruling_set doc grade was now (entry ∷ entries) found given ruling = step (eqb doc.0 entry.0) (λ h. ruling_set doc grade was now entries h given ruling) found
  where
    made : List Given → Option ℕ → LabelledDocument
    made labels last = record { doc = record { 0 = entry.0 }; given = labels; ruling = last }

    step : (t : Bool)
        → (lookup (eqb doc.0) entries ≡ Some was → documents_of (set_value (eqb doc.0) entries now) ≡ with_ruling_at doc grade (documents_of entries))
        → cond t (Some entry.1) (lookup (eqb doc.0) entries) ≡ Some was
        → documents_of (cond t ((entry.0, now) ∷ entries) (entry ∷ set_value (eqb doc.0) entries now))
        ≡ cond t (made entry.1.given (Some grade) ∷ documents_of entries) (made entry.1.given entry.1.ruling ∷ with_ruling_at doc grade (documents_of entries))
    step true rest h =
        let is : was ≡ entry.1 = cc in
        let labels = given ∙ ap (λ (l : Labelled). l.given) is in
        ap (λ g. made g now.ruling ∷ documents_of entries) labels ∙ ap (λ r. made entry.1.given r ∷ documents_of entries) ruling
    step false rest h = ap (λ more. made entry.1.given entry.1.ruling ∷ more) (rest h)

-- ---- each document once

number_at : (entries : List Entry) (i : ℕ) (d : DocId) → (get_or (labelled_docs (documents_of entries)) i d).0 ≡ get_or (keys_of entries) i d.0
number_at [] i d = refl
number_at (entry ∷ entries) zero d = refl
number_at (entry ∷ entries) (suc i) d = number_at entries i d

as_many : (entries : List Entry) → length (labelled_docs (documents_of entries)) ≡ length (keys_of entries)
as_many [] = refl
as_many (entry ∷ entries) = ap suc (as_many entries)

pub each_once : (entries : List Entry) → IsDistinct eqb (keys_of entries) → AreDistinct (labelled_docs (documents_of entries))
each_once entries distinct i j d h lt e =
    let within : j < length (keys_of entries) = omega (arith, as_many entries) in
    let same : get_or (keys_of entries) i d.0 ≡ get_or (keys_of entries) j d.0 =
    sym (number_at entries i d) ∙ ap (λ (doc : DocId). doc.0) e ∙ number_at entries j d in
    false≢true (sym (apart_from_distinct eqb (keys_of entries) i j d.0 distinct h within) ∙ eq-eqb _ _ same)
