-- A run repeats no document of a topic where the lines of each topic have different documents.
use Rattle.std.proofs.Common.{◌≡◌, ◌≢◌, ◌<◌, ◌+◌, ℕ, zero, suc, Bool, true, false, List, [], ◌∷◌, ◌++◌, length, filter, take, drop, get_or, refl, sym, ◌∙◌, ap, subst, arith, bytes_eq}
use Rattle.std.specs.Prelude.{All, AllPairs}
use Rattle.std.specs.List.{position_or_len}
use Rattle.std.proofs.lemmas.Bool.{false_from_ne_true}
use Rattle.std.proofs.lemmas.List.{get_or-take, get_or_append_left, get_or_at, length-take-le, length-append, take-append-drop, drop_more}
use Rattle.std.proofs.lemmas.List.Elements.{All-filter, filter_passes, All-head, All-tail, All-same}
use Rattle.std.proofs.lemmas.List.Folds.{list_any_at, find_at}
use Rattle.std.proofs.lemmas.List.Sums.{passes_at_first}
use Rattle.std.proofs.lemmas.Option.{slice_get_within}
use Rattle.std.proofs.lemmas.Cmp.{nat_list_eq_equiv}
use Rattle.std.proofs.lemmas.Slice.Eq.{bytes_eq-Decides}
use Rattle.std.proofs.lemmas.List.Kept.{AllPairs-cons}
use Rattle.decimal_rank.proofs.Lists.{pairs_head, pairs_tail}
use Rattle.trec_formats.specs.declared.runs.RunLine.{RunLine}
use Rattle.trec_formats.specs.Faults.{IsDistinct}
use Rattle.trec_formats.specs.RunFormat.Groups.{DocsDiffer}
use Rattle.trec_formats.specs.RunFormat.Lists.{same_run_document, lines_on}
use Rattle.trec_formats.proofs.RepeatedDocuments.Repeats.{find_some}

module _ {L : Type 0} (same : L → L → Bool) where
  -- no line is the same as a later one
  abbrev pub Apart : List L → Type 0
  Apart lines = AllPairs (λ x y. same y x ≡ false) lines

  pub apart_from_distinct : (lines : List L) → IsDistinct same lines → Apart lines
  apart_from_distinct lines distinct i j d below within =
      false_from_ne_true (same (get_or lines j d) (get_or lines i d)) (λ is.
      let again = get_or lines j d in
      let short : i < length (take j lines) = omega (arith, below, within, length-take-le j lines (omega (arith, within))) in
      let here : same again (get_or (take j lines) i d) ≡ true = rw (get_or-take j lines i d below) is in
      let first = find_some (same again) (take j lines) (list_any_at (same again) (take j lines) i d short here) in
      distinct first.0 again (record {
        before = take j lines;
        after = drop (j + 1) lines;
        cut = sym (take-append-drop j lines) ∙ ap (λ rest. take j lines ++ rest) (drop_more lines j d within);
        earlier = first.1;
      }))

  pub distinct_from_apart : (lines : List L) → Apart lines → IsDistinct same lines
  distinct_from_apart lines apart first again w =
      let at = sym (find_at (same again) w.before) ∙ w.earlier in
      let i : ℕ = position_or_len (same again) w.before in
      let within : i < length w.before = slice_get_within w.before i first at in
      let is : same again (get_or w.before i again) ≡ true = passes_at_first (same again) w.before again within in
      let long : length lines ≡ length w.before + suc (length w.after) = ap length w.cut ∙ length-append w.before (again ∷ w.after) in
      let earlier : get_or lines i again ≡ get_or w.before i again = rw w.cut (get_or_append_left w.before (again ∷ w.after) again i within) in
      let later : get_or lines (length w.before) again ≡ again = rw w.cut (get_or_at w.before again w.after again (length w.before) refl) in
      let no = apart i (length w.before) again within (omega (arith, long)) in
      let none : same again (get_or w.before i again) ≡ false = rw (← earlier) (rw later at no) in
      cc (is, none)

-- what passes and fails the test of equal documents
other_doc : (x y : RunLine) (topic : List ℕ) → same_run_document y x ≡ false → x.topic ≡ topic → y.topic ≡ topic → x.doc ≢ y.doc
other_doc x y topic apart first second same =
    let topics : bytes_eq y.topic x.topic ≡ true = (bytes_eq-Decides _ _).1 (second ∙ sym first) in
    let docs : bytes_eq y.doc x.doc ≡ true = (bytes_eq-Decides _ _).1 (sym same) in
    let both : same_run_document y x ≡ true = rw (topics, docs) refl in
    cc (both, apart)

differ_step : (topic : List ℕ) (x : RunLine) (xs : List RunLine) (t : Bool) → bytes_eq x.topic topic ≡ t
    → All (λ y. same_run_document y x ≡ false) xs → DocsDiffer (lines_on topic xs) → DocsDiffer (lines_on topic (x ∷ xs))
differ_step topic x xs true is first rest =
    let kept = All-filter (λ line. bytes_eq line.topic topic) (λ y. same_run_document y x ≡ false) xs first in
    let pass = filter_passes (λ line. bytes_eq line.topic topic) xs in
    rw is (AllPairs-cons (λ a b. a.doc ≢ b.doc) x (lines_on topic xs)
    (λ k d within. other_doc x (get_or (lines_on topic xs) k d) topic (kept k d within)
    ((bytes_eq-Decides _ _).0 is) ((bytes_eq-Decides _ _).0 (pass k d within))) rest)
differ_step topic x xs false is first rest = rw is rest

differ_from_apart : (topic : List ℕ) (lines : List RunLine) → Apart same_run_document lines → DocsDiffer (lines_on topic lines)
differ_from_apart topic [] apart = λ i j d below within. absurd (omega (arith, within))
differ_from_apart topic (x ∷ xs) apart =
    differ_step topic x xs (bytes_eq x.topic topic) refl (pairs_head (λ a b. same_run_document b a ≡ false) x xs apart)
    (differ_from_apart topic xs (pairs_tail (λ a b. same_run_document b a ≡ false) x xs apart))

-- the lines of each topic of distinct lines have different documents
pub differ_from_distinct : (topic : List ℕ) (lines : List RunLine) → IsDistinct same_run_document lines → DocsDiffer (lines_on topic lines)
differ_from_distinct topic lines distinct = differ_from_apart topic lines (apart_from_distinct same_run_document lines distinct)

unkept_step : {X : Type 0} (p : X → Bool) (P : X → Type 0) (x : X) (xs : List X) (t : Bool) → p x ≡ t
    → All P (filter p (x ∷ xs)) → (p x ≡ true → P x) × All P (filter p xs)
unkept_step p P x xs true is all = let whole = rw is at all in (λ _. All-head P x (filter p xs) whole, All-tail P x (filter p xs) whole)
unkept_step p P x xs false is all = let whole = rw is at all in (λ pass. absurd (let e : true ≡ false = sym pass ∙ is in cc e), whole)

-- what holds of the elements that pass
pub unkept : {X : Type 0} (p : X → Bool) (P : X → Type 0) (xs : List X) → All P (filter p xs) → All (λ x. p x ≡ true → P x) xs
unkept p P [] all k d within = absurd (omega arith)
unkept p P (x ∷ xs) all zero d within = (unkept_step p P x xs (p x) refl all).0
unkept p P (x ∷ xs) all (suc k) d within = unkept p P xs (unkept_step p P x xs (p x) refl all).1 k d (omega arith)

other_step : (x y : RunLine) (t : Bool) → bytes_eq y.topic x.topic ≡ t → (bytes_eq y.topic x.topic ≡ true → x.doc ≢ y.doc) → same_run_document y x ≡ false
other_step x y true is differ =
    false_from_ne_true (same_run_document y x)
    (λ same. let docs : bytes_eq y.doc x.doc ≡ true = rw is at same in differ is (sym ((bytes_eq-Decides _ _).0 docs)))
other_step x y false is differ = rw is refl

tail_step : (topic : List ℕ) (x : RunLine) (xs : List RunLine) (t : Bool) → bytes_eq x.topic topic ≡ t
    → DocsDiffer (lines_on topic (x ∷ xs)) → DocsDiffer (lines_on topic xs)
tail_step topic x xs true is differ = pairs_tail (λ a b. a.doc ≢ b.doc) x (lines_on topic xs) (rw is at differ)
tail_step topic x xs false is differ = rw is at differ

apart_from_differ : (lines : List RunLine) → ((topic : List ℕ) → DocsDiffer (lines_on topic lines)) → Apart same_run_document lines
apart_from_differ [] differ = λ i j d below within. absurd (omega (arith, within))
apart_from_differ (x ∷ xs) differ =
    let own : bytes_eq x.topic x.topic ≡ true = nat_list_eq_equiv.refl x.topic in
    let whole : DocsDiffer (x ∷ lines_on x.topic xs) = rw own at (differ x.topic) in
    let first = unkept (λ line. bytes_eq line.topic x.topic) (λ y. x.doc ≢ y.doc) xs (pairs_head (λ a b. a.doc ≢ b.doc) x (lines_on x.topic xs) whole) in
    AllPairs-cons (λ a b. same_run_document b a ≡ false) x xs
    (λ k d within. other_step x (get_or xs k d) (bytes_eq (get_or xs k d).topic x.topic) refl (first k d within))
    (apart_from_differ xs (λ topic. tail_step topic x xs (bytes_eq x.topic topic) refl (differ topic)))

-- where the lines of each topic have different documents, no line repeats a document of its topic
pub distinct_from_differ : (lines : List RunLine) → ((topic : List ℕ) → DocsDiffer (lines_on topic lines)) → IsDistinct same_run_document lines
distinct_from_differ lines differ = distinct_from_apart same_run_document lines (apart_from_differ lines differ)

differ_nil : DocsDiffer []
differ_nil i j d below within = absurd (omega (arith, within))

of_topic : (topic : List ℕ) (lines on : List RunLine) → on ≡ lines_on topic lines → All (λ line. DocsDiffer (lines_on line.topic lines)) lines → DocsDiffer on
of_topic topic lines [] is all = differ_nil
of_topic topic lines (first ∷ more) is all =
    let kept = All-same (λ line. DocsDiffer (lines_on line.topic lines)) (first ∷ more) (lines_on topic lines) is
    (All-filter (λ line. bytes_eq line.topic topic) (λ line. DocsDiffer (lines_on line.topic lines)) lines all) in
    let pass = All-same (λ line. bytes_eq line.topic topic ≡ true) (first ∷ more) (lines_on topic lines) is
    (filter_passes (λ line. bytes_eq line.topic topic) lines) in
    let some : 0 < length (first ∷ more) = omega arith in
    let same : first.topic ≡ topic = (bytes_eq-Decides _ _).0 (pass 0 first some) in
    let P : List RunLine → Type 0 = λ on. DocsDiffer on in
    subst P (ap (λ t. lines_on t lines) same ∙ sym is) (kept 0 first some)

-- the same, of the topics that stand on lines
pub distinct_by_topic : (lines : List RunLine) → All (λ line. DocsDiffer (lines_on line.topic lines)) lines → IsDistinct same_run_document lines
distinct_by_topic lines all = distinct_from_differ lines (λ topic. of_topic topic lines (lines_on topic lines) refl all)
