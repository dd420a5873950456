-- The messages of a generated campaign can be sent.
use Rattle.std.proofs.Common.{◌≡◌, ◌+◌, ◌*◌, ◌/◌, ◌%◌, ◌<◌, ◌≤◌, ◌^◌, ◌&&◌, ℕ, zero, suc, true, IsTrue, List, [], ◌++◌, codes, decimal, length, refl, arith, length-append, suc-mul, ◌∙◌}
use Rattle.std.specs.List.{list_all}
use Rattle.std.proofs.lemmas.Bool.{and_from}
use Rattle.std.proofs.lemmas.Fmt.{length-decimal-le}
use Rattle.std.proofs.lemmas.List.Folds.{list_all-append}
use Rattle.routes.specs.Limits.{most_body}
use Rattle.drill.specs.Figures.{are_numbers, drill_grade, most_runs, run_name, score_of, three_digits}
use Rattle.drill.specs.Messages.{IsSendable, IsWord, assessor_key, grade_message, group_key, is_visible, lease_message, open_message, organiser_key, publish_message, run_message, topics_message}
use Rattle.drill.specs.Texts.{line, list_text, run_text, score_text, texts_to, topic_text, topics_text}
use Rattle.drill.specs.declared.numbers.DrillNumbers.{DrillNumbers}
use Rattle.drill.proofs.Ranges.{few-docs, few-topics}
use Rattle.drill.proofs.VisibleTexts.{decimal_visible, visible}

-- Words

organiser : IsWord organiser_key
organiser = record { some = omega arith; few = omega arith; visible = refl }

group : IsWord group_key
group = record { some = omega arith; few = omega arith; visible = refl }

assessor : IsWord assessor_key
assessor = record { some = omega arith; few = omega arith; visible = refl }

digit-shown : (n : ℕ) → is_visible (48 + n % 10) ≡ true
digit-shown n = visible (48 + n % 10) (omega arith) (omega arith)

digits-shown : (n : ℕ) (rest : List ℕ) → list_all is_visible rest ≡ true → list_all is_visible (three_digits n ++ rest) ≡ true
digits-shown n rest all =
    let front = is_visible (48 + n / 10 % 10) in
    let last = is_visible (48 + n % 10) in
    and_from (is_visible (48 + n / 100 % 10)) (front && (last && list_all is_visible rest)) (digit-shown (n / 100))
    (and_from front (last && list_all is_visible rest) (digit-shown (n / 10)) (and_from last (list_all is_visible rest) (digit-shown n) all))

run-path : (r : ℕ) → IsWord (codes "/runs/" ++ run_name r)
run-path r = record { some = omega arith; few = omega arith; visible = digits-shown r [] refl }

lease-path : (t : ℕ) → IsWord ((lease_message t 0).path)
lease-path t = record { some = omega arith; few = omega arith; visible = digits-shown t (codes "/lease") refl }

grade-path : (lease : ℕ) → lease < 2 ^ 32 → IsWord ((grade_message lease 0 0).path)
grade-path lease small =
    let short = length-decimal-le 10 lease (omega arith) (omega (arith, small)) (omega (arith, small)) in
    record {
      some = omega arith;
      few = omega (arith, short, length-append (decimal lease) (codes "/grade"));
      visible = list_all-append is_visible (decimal lease) (codes "/grade")
          ∙ and_from (list_all is_visible (decimal lease)) (list_all is_visible (codes "/grade")) (decimal_visible lease (omega (arith, small))) refl;
    }

-- Lengths of bodies

texts-short : (n each : ℕ) (text : ℕ → List ℕ) → ((k : ℕ) → length (text k) ≤ each) → length (texts_to n text) ≤ n * each
texts-short zero each text short = omega arith
texts-short (suc n) each text short =
    omega (arith, texts-short n each text short, short (suc n), length-append (texts_to n text) (text (suc n)), suc-mul n each)

score-short : (score r : ℕ) → score < 1000 → length (score_text score r) ≤ 9
score-short score r small =
    omega (
      arith,
      length-decimal-le 3 score (omega arith) (omega (arith, small)) (omega (arith, small)),
      length-append (decimal score ++ codes " " ++ run_name r) (codes "\n"),
      length-append (decimal score ++ codes " ") (run_name r),
      length-append (decimal score) (codes " "),
    )

left-over : (n : ℕ) → n % 101 < 1000
left-over n = omega arith

line-short : (numbers : DrillNumbers) (r t d : ℕ) → length (line numbers r t d) ≤ 25
line-short numbers r t d =
    let short = score-short (score_of numbers r t d) r (left-over (31 * numbers.seed + 17 * r + 13 * t + d * (r + 6))) in
    omega (arith, short)

module _ (numbers : DrillNumbers) (are : IsTrue (are_numbers numbers)) where
  list-short : (r t : ℕ) → length (list_text numbers r t) ≤ 25000
  list-short r t = omega (arith, texts-short numbers.docs 25 (line numbers r t) (line-short numbers r t), few-docs numbers are)

  run-short : (r : ℕ) → length (run_text numbers r) ≤ most_body
  run-short r = omega (arith, texts-short numbers.topics 25000 (list_text numbers r) (list-short r), few-topics numbers are)

  topics-short : length (topics_text numbers) ≤ most_body
  topics-short = omega (arith, texts-short numbers.topics 37 topic_text (λ t. omega arith), few-topics numbers are)

  pub topics-sendable : IsSendable (topics_message numbers)
  topics-sendable = record {
    key = organiser;
    path = record { some = omega arith; few = omega arith; visible = refl };
    number = omega arith;
    body = topics-short;
  }

  pub run-sendable : (r : ℕ) → r ≤ most_runs → IsSendable (run_message numbers r)
  run-sendable r few = record { key = group; path = run-path r; number = omega (arith, few); body = run-short r }

pub open-sendable : IsSendable open_message
open-sendable = record { key = organiser; path = record { some = omega arith; few = omega arith; visible = refl }; number = omega arith; body = omega arith }

pub publish-sendable : IsSendable publish_message
publish-sendable = record { key = organiser; path = record { some = omega arith; few = omega arith; visible = refl }; number = omega arith; body = omega arith }

pub lease-sendable : (t number : ℕ) → number < 2 ^ 32 → IsSendable (lease_message t number)
lease-sendable t number small = record { key = assessor; path = lease-path t; number = small; body = omega arith }

pub grade-sendable : (numbers : DrillNumbers) (t d lease number : ℕ) → lease < 2 ^ 32 → number < 2 ^ 32
    → IsSendable (grade_message lease number (drill_grade numbers t d))
grade-sendable numbers t d lease number few small =
    let grade : ℕ = drill_grade numbers t d in
    let least : grade < 10 = left-grade (numbers.seed + 5 * t + 3 * d) in
    let short = length-decimal-le 1 grade (omega arith) (omega (arith, least)) (omega (arith, least)) in
    record { key = assessor; path = grade-path lease few; number = small; body = omega (arith, short, length-append (decimal grade) (codes "}")) }
  where
    left-grade : (n : ℕ) → n % 4 < 10
    left-grade n = omega arith
