-- Documents that differ are judged by lines that differ.
use Rattle.std.proofs.Common.{◌≡◌, ◌≢◌, ◌≤◌, ◌+◌, ℕ, suc, ◌&&◌, Bool, true, false, cond, List, [], ◌∷◌, Option, Some, None, length, map, refl, sym, ap, ◌∙◌, arith}
use Rattle.std.specs.Prelude.{All, AllPairs, bytes_eq}
use Rattle.std.specs.List.{count_by}
use Rattle.std.proofs.lemmas.Bool.{false_from_ne_true}
use Rattle.std.proofs.lemmas.Slice.Eq.{bytes_eq-Decides}
use Rattle.decimal_rank.proofs.Lists.{count_by-cons}
use Rattle.trec_formats.specs.declared.qrels.QrelLine.{QrelLine}
use Rattle.trec_formats.specs.declared.runs.lists.TopicList.{TopicList}
use Rattle.trec_formats.specs.QrelsFormat.Qrels.{grade_on}
use Rattle.eval.specs.Evaluations.{run_docs_on}
use Rattle.eval.specs.Tables.{AreRankedLists}
use Rattle.eval.proofs.ListsByTopic.{docs_on-all}
use Rattle.eval.proofs.TopicLines.{count-filter, grade_in, grades_in, lines_on}

grade_in-cons : (line : QrelLine) (lines : List QrelLine) (doc : List ℕ) (t : Bool) → bytes_eq line.doc doc ≡ t
    → grade_in (line ∷ lines) doc ≡ cond t (Some line.grade) (grade_in lines doc)
grade_in-cons line lines doc true is = rw is refl
grade_in-cons line lines doc false is = rw is refl

module _ (p : Option ℕ → Bool) (q : ℕ → Bool) (at_some : (grade : ℕ) → p (Some grade) ≡ q grade) (at_none : p None ≡ false) where
  nothing_judged : (docs : List (List ℕ)) → count_by p (map (grade_in []) docs) ≡ 0
  nothing_judged [] = refl
  nothing_judged (doc ∷ docs) =
      let first : p (grade_in [] doc) ≡ false = at_none in
      let rest : count_by p (map (grade_in []) docs) ≡ 0 = nothing_judged docs in
      count_by-cons p (grade_in [] doc) (map (grade_in []) docs) ∙ rw (first, rest) refl

  module _ (line : QrelLine) (lines : List QrelLine) where
    abbrev now : List ℕ → Option ℕ
    now = grade_in (line ∷ lines)

    abbrev was : List ℕ → Option ℕ
    was = grade_in lines

    passed_over : (docs : List (List ℕ)) → All (λ doc. bytes_eq line.doc doc ≡ false) docs → count_by p (map now docs) ≡ count_by p (map was docs)
    passed_over [] all = refl
    passed_over (doc ∷ docs) all =
        let first : now doc ≡ was doc = grade_in-cons line lines doc false (all 0 doc (omega arith)) in
        count_by-cons p _ (map now docs)
        ∙ ap (λ g. cond (p g) 1 0 + count_by p (map now docs)) first
        ∙ ap (λ n. cond (p (was doc)) 1 0 + n) (passed_over docs (λ k d within. all (suc k) d (omega arith)))
        ∙ sym (count_by-cons p (was doc) (map was docs))

    others : (doc : List ℕ) (docs : List (List ℕ)) → AllPairs (λ a b. a ≢ b) (doc ∷ docs)
        → bytes_eq line.doc doc ≡ true → All (λ d. bytes_eq line.doc d ≡ false) docs
    others doc docs differ here k d within =
        false_from_ne_true _ (λ again. differ 0 (suc k) d (omega arith) (omega arith) (sym ((bytes_eq-Decides _ _).0 here) ∙ (bytes_eq-Decides _ _).0 again))

    one_more : (docs : List (List ℕ)) → AllPairs (λ a b. a ≢ b) docs → count_by p (map now docs) ≤ cond (q line.grade) 1 0 + count_by p (map was docs)
    one_more [] differ = omega arith
    one_more (doc ∷ docs) differ = by (bytes_eq line.doc doc) refl (one_more docs (λ i j d less within. differ (suc i) (suc j) d (omega arith) (omega arith)))
      where
        by : (t : Bool) → bytes_eq line.doc doc ≡ t
            → count_by p (map now docs) ≤ cond (q line.grade) 1 0 + count_by p (map was docs)
            → count_by p (map now (doc ∷ docs)) ≤ cond (q line.grade) 1 0 + count_by p (map was (doc ∷ docs))
        by true here rest_le =
            let first : p (now doc) ≡ q line.grade = ap p (grade_in-cons line lines doc true here) ∙ at_some line.grade in
            let rest : count_by p (map now docs) ≡ count_by p (map was docs) = passed_over docs (others doc docs differ here) in
            let more : count_by p (map now (doc ∷ docs)) ≡ cond (q line.grade) 1 0 + count_by p (map was docs) =
            count_by-cons p (now doc) (map now docs) ∙ ap (λ t. cond t 1 0 + count_by p (map now docs)) first ∙ ap (λ n. cond (q line.grade) 1 0 + n) rest in
            omega (arith, more, count_by-cons p (was doc) (map was docs))
        by false here rest_le =
            let first : now doc ≡ was doc = grade_in-cons line lines doc false here in
            let more : count_by p (map now (doc ∷ docs)) ≡ cond (p (was doc)) 1 0 + count_by p (map now docs) =
            count_by-cons p (now doc) (map now docs) ∙ ap (λ g. cond (p g) 1 0 + count_by p (map now docs)) first in
            omega (arith, more, count_by-cons p (was doc) (map was docs), rest_le)

  -- among documents that differ no more have a property than there are lines that give it
  judged_le : (lines : List QrelLine) (docs : List (List ℕ)) → AllPairs (λ a b. a ≢ b) docs
      → count_by p (map (grade_in lines) docs) ≤ count_by (λ line. q line.grade) lines
  judged_le [] docs differ = omega (arith, nothing_judged docs)
  judged_le (line ∷ lines) docs differ =
      let more : count_by p (map (grade_in (line ∷ lines)) docs) ≤ cond (q line.grade) 1 0 + count_by p (map (grade_in lines) docs) =
      one_more line lines docs differ in
      omega (arith, more, judged_le lines docs differ, count_by-cons (λ (l : QrelLine). q l.grade) line lines)

  -- among documents of a topic that differ no more have a property than there are lines of the topic that give it
  pub judged_on_le : (qrels : List QrelLine) (topic : List ℕ) (docs : List (List ℕ)) → AllPairs (λ a b. a ≢ b) docs
      → count_by p (map (grade_on qrels topic) docs) ≤ count_by (λ line. bytes_eq line.topic topic && q line.grade) qrels
  judged_on_le qrels topic docs differ =
      omega (
        arith,
        ap (count_by p) (grades_in qrels topic docs),
        judged_le (lines_on topic qrels) docs differ,
        count-filter (λ (line : QrelLine). bytes_eq line.topic topic) (λ line. q line.grade) qrels,
      )

-- a topic's documents differ
pub docs_differ : (lists : List TopicList) (topic : List ℕ) → AreRankedLists lists → AllPairs (λ a b. a ≢ b) (run_docs_on lists topic)
docs_differ lists topic w = docs_on-all (AllPairs (λ a b. a ≢ b)) (λ i j d less within. absurd (omega (arith, within))) lists topic w.once

-- a topic has at most 1,000 documents
pub docs_short : (lists : List TopicList) (topic : List ℕ) → AreRankedLists lists → length (run_docs_on lists topic) ≤ 1000
docs_short lists topic w = docs_on-all (λ docs. length docs ≤ 1000) (omega arith) lists topic w.short
