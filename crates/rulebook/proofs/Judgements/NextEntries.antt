-- What one more entry does to rulings, and what one changes that gives a label, a ruling or neither.
use Rattle.std.proofs.Common.{◌≡◌, ℕ, Bool, true, false, List, [], ◌∷◌, ◌++◌, Option, None, Some, refl, sym, ap, ◌∙◌}
use Rattle.std.specs.Prelude.{◌&&◌, if◌then◌else◌}
use Rattle.std.specs.List.{filter_map, last_or}
use Rattle.std.specs.Option.{option_or}
use Rattle.std.specs.Str.{bytes_eq}
use Rattle.std.proofs.lemmas.Cmp.{nat_list_eq_equiv}
use Rattle.std.proofs.lemmas.List.{append-nil}
use Rattle.std.proofs.lemmas.List.Elements.{filter_map-append}
use Rattle.std.proofs.lemmas.Bool.{and_right}
use Rattle.decimal_rank.specs.Names.{with_name}
use Rattle.labels.specs.declared.given.Given.{Given}
use Rattle.labels.specs.Grades.{effective_grade}
use Rattle.labels.specs.DocumentLabels.{grades_of, with_label}
use Rattle.rulebook.specs.Words.{Text, contains_text, last_given}
use Rattle.rulebook.specs.Campaign.{History, need, needed_labels, rules_of}
use Rattle.rulebook.specs.Histories.Entries.{LabelsJoin, QuietEntriesKeepGrades, RulingsJoin}
use Rattle.rulebook.specs.declared.rules.Rules.{Rules}
use Rattle.rulebook.specs.Judgements.Grades.{Label, effective, is_label_on, is_labelled, labelled_documents, labels_on, last_ruling, ruling_in}
use Rattle.rulebook.specs.declared.entry.Entry.{Entry}
use Rattle.rulebook.proofs.Elements.TextLists.{differ-sym}
use Rattle.rulebook.proofs.Judgements.ListedDocuments.{listed-labelled}
use Rattle.rulebook.proofs.Judgements.NextLabels.{label-joins, label-labels, labelled-kept, labels-stay}
use Rattle.rulebook.proofs.Judgements.Trails.{trail-follows, trail-stays}

-- Rulings

last-push : (o : Option ℕ) (xs : List ℕ) (x : ℕ) → last_or o (xs ++ x ∷ []) ≡ Some x
last-push o [] x = refl
last-push o (y ∷ ys) x = last-push (Some y) ys x

ruling-step : (given : List ℕ) (o : Option ℕ) → last_or None (given ++ filter_map (λ (x : Option ℕ). x) (o ∷ [])) ≡ option_or o (last_or None given)
ruling-step given None = ap (last_or None) (append-nil given)
ruling-step given (Some grade) = last-push None given grade

-- the last of what f gives, with one more entry
pub last-given-pushed : (f : Entry → Option ℕ) (H : History) (e : Entry) → last_given f (H ++ e ∷ []) ≡ option_or (f e) (last_given f H)
last-given-pushed f H e = ap (last_or None) (filter_map-append f H (e ∷ [])) ∙ ruling-step (filter_map f H) (f e)

pub rulings-follow : (H : History) (e : Entry) (topic doc : Text)
    → last_ruling (H ++ e ∷ []) topic doc ≡ option_or (ruling_in topic doc e.core.command) (last_ruling H topic doc)
rulings-follow H e topic doc = last-given-pushed (λ e. ruling_in topic doc e.core.command) H e

-- What the two kinds of entries change.

need-stays : (H J : History) (topic : Text) → rules_of J ≡ rules_of H → need J topic ≡ need H topic
need-stays H J topic same = ap (λ (rules : Rules). needed_labels rules topic) same

ruling-stays : (H : History) (e : Entry) (topic doc : Text) → ruling_in topic doc e.core.command ≡ None
    → last_ruling (H ++ e ∷ []) topic doc ≡ last_ruling H topic doc
ruling-stays H e topic doc none = rulings-follow H e topic doc ∙ ap (λ (o : Option ℕ). option_or o (last_ruling H topic doc)) none

effective-stays : (H J : History) (topic doc : Text) → need J topic ≡ need H topic → labels_on J topic doc ≡ labels_on H topic doc
    → last_ruling J topic doc ≡ last_ruling H topic doc → effective J topic doc ≡ effective H topic doc
effective-stays H J topic doc needs labels rulings =
    ap (λ n. effective_grade n (grades_of (labels_on J topic doc)) (last_ruling J topic doc)) needs
    ∙ ap (λ (ls : List Given). effective_grade (need H topic) (grades_of ls) (last_ruling J topic doc)) labels
    ∙ ap (effective_grade (need H topic) (grades_of (labels_on H topic doc))) rulings

pub quiet-kept : QuietEntriesKeepGrades
quiet-kept H e rules_are quiet =
    let J : History = H ++ e ∷ [] in
    let labels : (topic doc : Text) → labels_on J topic doc ≡ labels_on H topic doc = λ topic doc. labels-stay H e topic doc quiet.no_label in
    let rulings : (topic doc : Text) → last_ruling J topic doc ≡ last_ruling H topic doc =
    λ topic doc. ruling-stays H e topic doc (quiet.no_ruling topic doc) in
    let grades : (topic doc : Text) → effective J topic doc ≡ effective H topic doc =
    λ topic doc. effective-stays H J topic doc (need-stays H J topic rules_are) (labels topic doc) (rulings topic doc) in
    record {
      labels_are = labels;
      rulings_are = rulings;
      effective_is = grades;
      labelled_are = λ topic. labelled-kept H e topic quiet.no_label;
      trail_is = λ topic. trail-stays H e topic (labelled-kept H e topic quiet.no_label) (grades topic);
    }

not-on : (topic doc : Text) (label : Label) → bytes_eq label.topic topic ≡ false → is_label_on topic doc label ≡ false
not-on topic doc label differ = ap (λ t. t && bytes_eq label.doc doc) differ

pub label-joined : LabelsJoin
label-joined H e label rules_are gives =
    let J : History = H ++ e ∷ [] in
    let labels = λ (topic doc : Text). label-joins H e label topic doc gives.label_is in
    let rulings : (topic doc : Text) → last_ruling J topic doc ≡ last_ruling H topic doc =
    λ topic doc. ruling-stays H e topic doc (gives.no_ruling topic doc) in
    let others : (topic doc : Text) → is_label_on topic doc label ≡ false → effective J topic doc ≡ effective H topic doc =
    λ topic doc differ. effective-stays H J topic doc (need-stays H J topic rules_are)
    (labels topic doc ∙ ap (λ t. if t then with_label label.assessor label.grade (labels_on H topic doc) else labels_on H topic doc) differ)
    (rulings topic doc) in
    let joins : labelled_documents J label.topic ≡ with_name (labelled_documents H label.topic) label.doc =
    label-labels H e label label.topic gives.label_is
    ∙ ap (λ t. if t then with_name (labelled_documents H label.topic) label.doc else labelled_documents H label.topic) (nat_list_eq_equiv.refl label.topic) in
    let stays : (topic : Text) → bytes_eq label.topic topic ≡ false → labelled_documents J topic ≡ labelled_documents H topic =
    λ topic differ. label-labels H e label topic gives.label_is
    ∙ ap (λ t. if t then with_name (labelled_documents H topic) label.doc else labelled_documents H topic) differ in
    record {
      labels_are = labels;
      rulings_are = rulings;
      effective_is = others;
      labelled_are = joins;
      other_labelled = stays;
      trail_is = trail-follows H e label.topic label.doc joins
          (λ other differ. others label.topic other
          (and_right (bytes_eq label.topic label.topic) (bytes_eq label.doc other) (differ-sym other label.doc differ)));
      other_trails = λ topic differ. trail-stays H e topic (stays topic differ) (λ doc. others topic doc (not-on topic doc label differ));
    }

-- A ruling

-- a document with a label is among those with one
has-label-listed : (H : History) (topic doc : Text) → is_labelled H topic doc ≡ true → contains_text (labelled_documents H topic) doc ≡ true
has-label-listed H topic doc some = listed-labelled H topic doc ∙ some

ruled-step : (b : Bool) (grade : ℕ) (r : Option ℕ) → option_or (if b then Some grade else None) r ≡ (if b then Some grade else r)
ruled-step true grade r = refl
ruled-step false grade r = refl

pub ruling-joined : RulingsJoin
ruling-joined H e topic doc grade rules_are gives some =
    let J : History = H ++ e ∷ [] in
    let labels : (t d : Text) → labels_on J t d ≡ labels_on H t d = λ t d. labels-stay H e t d gives.no_label in
    let rulings : (t d : Text) → last_ruling J t d ≡ (if bytes_eq topic t && bytes_eq doc d then Some grade else last_ruling H t d) = λ t d.
    rulings-follow H e t d ∙ ap (λ c. option_or (ruling_in t d c) (last_ruling H t d)) gives.command_is
    ∙ ruled-step (bytes_eq topic t && bytes_eq doc d) grade (last_ruling H t d) in
    let others : (t d : Text) → (bytes_eq topic t && bytes_eq doc d) ≡ false → effective J t d ≡ effective H t d = λ t d off.
    effective-stays H J t d (need-stays H J t rules_are) (labels t d) (rulings t d ∙ ap (λ b. if b then Some grade else last_ruling H t d) off) in
    let same_labelled : (t : Text) → labelled_documents J t ≡ labelled_documents H t = λ t. labelled-kept H e t gives.no_label in
    let there : with_name (labelled_documents H topic) doc ≡ labelled_documents H topic =
    ap (λ t. if t then labelled_documents H topic else labelled_documents H topic ++ doc ∷ []) (has-label-listed H topic doc some) in
    record {
      labels_are = labels;
      rulings_are = rulings;
      effective_is = others;
      labelled_are = same_labelled;
      trail_is = trail-follows H e topic doc (same_labelled topic ∙ sym there)
          (λ other differ. others topic other (and_right (bytes_eq topic topic) (bytes_eq doc other) (differ-sym other doc differ)));
      other_trails = λ t differ. trail-stays H e t (same_labelled t) (λ d. others t d (ap (λ b. b && bytes_eq doc d) differ));
    }
