-- The trail after one more entry.
use Rattle.std.proofs.Common.{◌≡◌, ℕ, Bool, true, false, List, [], ◌∷◌, ◌++◌, Option, map, refl, sym, ap, ◌∙◌, filter, is_some}
use Rattle.std.specs.Prelude.{if◌then◌else◌}
use Rattle.std.specs.List.{flat_map, fold}
use Rattle.std.specs.Str.{bytes_eq}
use Rattle.std.proofs.lemmas.Grind.{flat_map-append}
use Rattle.std.proofs.lemmas.List.{append-nil, map-append}
use Rattle.std.proofs.lemmas.List.Sums.{fold-append}
use Rattle.decimal_rank.specs.Names.{with_name}
use Rattle.rulebook.specs.Words.{Text, contains_text, each_once, prefixes}
use Rattle.rulebook.specs.Campaign.{History}
use Rattle.rulebook.specs.Judgements.Grades.{effective, graded_documents, labelled_documents, trail}
use Rattle.rulebook.specs.declared.entry.Entry.{Entry}
use Rattle.rulebook.proofs.Elements.TextLists.{absorbed, all-among, filter-same, new-among, one-new, passes-among, with-name-inverse}

pub prefixes-push : {X : Type 0} (xs : List X) (x : X) → prefixes (xs ++ x ∷ []) ≡ prefixes xs ++ (xs ++ x ∷ []) ∷ []
prefixes-push [] x = refl
prefixes-push (y ∷ ys) x =
    ap (λ parts. [] ∷ map (λ part. y ∷ part) parts) (prefixes-push ys x)
    ∙ ap (λ parts. [] ∷ parts) (map-append (λ part. y ∷ part) (prefixes ys) ((ys ++ x ∷ []) ∷ []))

trail-grows : (H : History) (e : Entry) (topic : Text) → trail (H ++ e ∷ []) topic ≡ fold with_name (trail H topic) (graded_documents (H ++ e ∷ []) topic)
trail-grows H e topic =
    let docs : History → List Text = λ part. graded_documents part topic in
    ap (λ parts. each_once (flat_map docs parts)) (prefixes-push H e)
    ∙ ap each_once (flat_map-append docs (prefixes H) ((H ++ e ∷ []) ∷ []))
    ∙ ap (λ ds. each_once (flat_map docs (prefixes H) ++ ds)) (append-nil (docs (H ++ e ∷ [])))
    ∙ fold-append with_name [] (flat_map docs (prefixes H)) (docs (H ++ e ∷ []))

last-prefix : {X : Type 0} (xs : List X) → (front : List (List X)) × (prefixes xs ≡ front ++ xs ∷ [])
last-prefix [] = ([], refl)
last-prefix (x ∷ xs) =
    let rest = last-prefix xs in (
      [] ∷ map (λ part. x ∷ part) rest.0,
      ap (λ parts. [] ∷ map (λ part. x ∷ part) parts) rest.1 ∙ ap (λ parts. [] ∷ parts) (map-append (λ part. x ∷ part) rest.0 (xs ∷ [])),
    )

-- each document with an effective grade is in the trail
pub graded-on-trail : (H : History) (topic doc : Text) → contains_text (graded_documents H topic) doc ≡ true → contains_text (trail H topic) doc ≡ true
graded-on-trail H topic doc there =
    let docs : History → List Text = λ part. graded_documents part topic in
    let last = last-prefix H in
    let parts : flat_map docs (prefixes H) ≡ flat_map docs last.0 ++ graded_documents H topic =
    ap (flat_map docs) last.1 ∙ flat_map-append docs last.0 (H ∷ []) ∙ ap (λ ds. flat_map docs last.0 ++ ds) (append-nil (graded_documents H topic)) in
    ap (λ ds. contains_text (each_once ds) doc) parts
    ∙ ap (λ ns. contains_text ns doc) (fold-append with_name [] (flat_map docs last.0) (graded_documents H topic))
    ∙ all-among (fold with_name [] (flat_map docs last.0)) (graded_documents H topic) doc there

-- the trail after an entry that changes the grade of no document of the topic
pub trail-stays : (H : History) (e : Entry) (topic : Text) → labelled_documents (H ++ e ∷ []) topic ≡ labelled_documents H topic
    → ((doc : Text) → effective (H ++ e ∷ []) topic doc ≡ effective H topic doc) → trail (H ++ e ∷ []) topic ≡ trail H topic
trail-stays H e topic labelled_stay effective_stay =
    let J : History = H ++ e ∷ [] in
    let has_grade : Text → Bool = λ doc. is_some (effective H topic doc) in
    trail-grows H e topic
    ∙ ap (λ docs. fold with_name (trail H topic) (filter (λ doc. is_some (effective J topic doc)) docs)) labelled_stay
    ∙ ap (fold with_name (trail H topic))
    (filter-same (λ doc. is_some (effective J topic doc)) has_grade (labelled_documents H topic) (λ doc. ap (λ (o : Option ℕ). is_some o) (effective_stay doc)))
    ∙ absorbed (trail H topic) has_grade (labelled_documents H topic)
    (λ doc there yes. graded-on-trail H topic doc (passes-among has_grade (labelled_documents H topic) doc there yes))

-- the trail after an entry that may change the grade of one labelled document of the topic alone
pub trail-follows : (H : History) (e : Entry) (topic doc : Text) → labelled_documents (H ++ e ∷ []) topic ≡ with_name (labelled_documents H topic) doc
    → ((other : Text) → bytes_eq other doc ≡ false → effective (H ++ e ∷ []) topic other ≡ effective H topic other)
    → trail (H ++ e ∷ []) topic ≡ (if is_some (effective (H ++ e ∷ []) topic doc) then with_name (trail H topic) doc else trail H topic)
trail-follows H e topic doc labelled_follow effective_stay =
    let J : History = H ++ e ∷ [] in
    let has_grade : Text → Bool = λ doc. is_some (effective J topic doc) in
    let had_grade : Text → Bool = λ doc. is_some (effective H topic doc) in
    trail-grows H e topic
    ∙ ap (λ docs. fold with_name (trail H topic) (filter has_grade docs)) labelled_follow
    ∙ one-new (trail H topic) has_grade (with_name (labelled_documents H topic) doc) doc (new-among (labelled_documents H topic) doc)
    (λ other there differ yes.
    let before : had_grade other ≡ true = sym (ap (λ (o : Option ℕ). is_some o) (effective_stay other differ)) ∙ yes in
    graded-on-trail H topic other
    (passes-among had_grade (labelled_documents H topic) other (with-name-inverse (labelled_documents H topic) doc other differ there) before))
