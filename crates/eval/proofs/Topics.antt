-- The topics of qrels, one line after another.
use Rattle.std.proofs.Common.{◌≡◌, ◌<◌, ◌≤◌, ◌+◌, ℕ, Bool, true, false, List, [], ◌∷◌, ◌++◌, Some, length, map, take, get_or, refl, sym, ap, ◌∙◌, arith, length-append}
use Rattle.std.specs.List.{fold, list_any}
use Rattle.std.specs.Str.{bytes_eq}
use Rattle.std.proofs.lemmas.List.{take_more, map-append, length-take-le, length-map}
use Rattle.std.proofs.lemmas.List.Folds.{list_any_at}
use Rattle.std.proofs.lemmas.List.Quantifiers.{position-Some}
use Rattle.std.proofs.lemmas.List.Sums.{fold-append}
use Rattle.decimal_rank.specs.Names.{number_of, with_name}
use Rattle.trec_formats.specs.declared.qrels.QrelLine.{QrelLine}
use Rattle.eval.specs.Evaluations.{topics_of}

-- the topics after one more line
pub topics_of-more : (qrels : List QrelLine) (i : ℕ) (line : QrelLine) → i < length qrels → line ≡ get_or qrels i line
    → topics_of (take (i + 1) qrels) ≡ with_name (topics_of (take i qrels)) line.topic
topics_of-more qrels i line lt is =
    ap topics_of (take_more qrels i line lt ∙ ap (λ l. take i qrels ++ l ∷ []) (sym is))
    ∙ ap (fold with_name []) (map-append (λ line. line.topic) (take i qrels) (line ∷ []))
    ∙ fold-append with_name [] (map (λ line. line.topic) (take i qrels)) (line.topic ∷ [])

length-with_name-le : (names : List (List ℕ)) (name : List ℕ) (t : Bool) → list_any (bytes_eq name) names ≡ t → length (with_name names name) ≤ length names + 1
length-with_name-le names name true e = rw e (omega arith)
length-with_name-le names name false e = rw e (omega (arith, length-append names (name ∷ [])))

length-fold-le : (texts names : List (List ℕ)) → length (fold with_name names texts) ≤ length names + length texts
length-fold-le [] names = omega arith
length-fold-le (text ∷ texts) names =
    omega (arith, length-fold-le texts (with_name names text), length-with_name-le names text (list_any (bytes_eq text) names) refl)

-- there are no more topics than lines
pub length-topics_of-le : (qrels : List QrelLine) (i : ℕ) → i ≤ length qrels → length (topics_of (take i qrels)) ≤ i
length-topics_of-le qrels i le =
    omega (
      arith,
      length-fold-le (map (λ (line : QrelLine). line.topic) (take i qrels)) [],
      length-map (take i qrels) (λ (line : QrelLine). line.topic),
      length-take-le i qrels le,
    )

pub all_topics_of-le : (qrels : List QrelLine) → length (topics_of qrels) ≤ length qrels
all_topics_of-le qrels = omega (arith, length-fold-le (map (λ (line : QrelLine). line.topic) qrels) [], length-map qrels (λ (line : QrelLine). line.topic))

-- a topic that has a number is among the topics
pub is_among : (names : List (List ℕ)) (name : List ℕ) (i : ℕ) → number_of names name ≡ Some i → list_any (bytes_eq name) names ≡ true
is_among names name i is = let at = position-Some (bytes_eq name) names i name is in list_any_at (bytes_eq name) names i name at.0 at.1
