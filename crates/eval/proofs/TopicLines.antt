-- The lines of a topic among all lines.
use Rattle.std.proofs.Common.{◌≡◌, ◌+◌, ℕ, ◌&&◌, Bool, true, false, cond, Option, List, [], ◌∷◌, map, filter, refl, zero-add, ap, ◌∙◌, sym, bytes_eq}
use Rattle.std.specs.Prelude.{count_by, find}
use Rattle.std.specs.Option.{option_map}
use Rattle.std.proofs.lemmas.List.Sums.{sum_by-cons}
use Rattle.trec_formats.specs.declared.qrels.QrelLine.{QrelLine}
use Rattle.trec_formats.specs.QrelsFormat.Qrels.{grade_on}

module _ {X : Type 0} (f g : X → Bool) where
  -- what passes two tests passes the second among what passes the first
  pub count-filter : (xs : List X) → count_by (λ x. f x && g x) xs ≡ count_by g (filter f xs)
  count-filter [] = refl
  count-filter (x ∷ xs) = sum_by-cons (λ y. cond (f y && g y) 1 0) x xs ∙ by (f x) refl (count-filter xs)
    where
      by : (t : Bool) → f x ≡ t → count_by (λ x. f x && g x) xs ≡ count_by g (filter f xs)
          → cond (f x && g x) 1 0 + count_by (λ x. f x && g x) xs ≡ count_by g (filter f (x ∷ xs))
      by true is rest = rw (is, rest) (sym (sum_by-cons (λ y. cond (g y) 1 0) x (filter f xs)))
      by false is rest = rw is (zero-add _ ∙ rest)

  pub find-filter : (xs : List X) → find (λ x. f x && g x) xs ≡ find g (filter f xs)
  find-filter [] = refl
  find-filter (x ∷ xs) = by (f x) refl (g x) refl (find-filter xs)
    where
      by : (t : Bool) → f x ≡ t → (u : Bool) → g x ≡ u → find (λ x. f x && g x) xs ≡ find g (filter f xs)
          → find (λ x. f x && g x) (x ∷ xs) ≡ find g (filter f (x ∷ xs))
      by true is true are rest = rw (is, are) refl
      by true is false are rest = rw (is, are) rest
      by false is u are rest = rw is rest

-- the lines of a topic
abbrev pub lines_on : List ℕ → List QrelLine → List QrelLine
lines_on topic qrels = filter (λ line. bytes_eq line.topic topic) qrels

-- the grade of a document in the lines of its topic, of which the first counts
abbrev pub grade_in : List QrelLine → List ℕ → Option ℕ
grade_in lines doc = option_map (λ line. line.grade) (find (λ line. bytes_eq line.doc doc) lines)

pub grades_in : (qrels : List QrelLine) (topic : List ℕ) (docs : List (List ℕ)) → map (grade_on qrels topic) docs ≡ map (grade_in (lines_on topic qrels)) docs
grades_in qrels topic [] = refl
grades_in qrels topic (doc ∷ docs) =
    ap (λ o. option_map (λ (line : QrelLine). line.grade) o ∷ map (grade_on qrels topic) docs)
    (find-filter (λ (line : QrelLine). bytes_eq line.topic topic) (λ line. bytes_eq line.doc doc) qrels)
    ∙ ap (λ gs. grade_in (lines_on topic qrels) doc ∷ gs) (grades_in qrels topic docs)
