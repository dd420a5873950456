-- The names, the scores and the grades of a generated campaign. Its topics, its runs and their documents count from 1.
use Rattle.std.specs.Prelude.{◌≡◌, ℕ, ◌+◌, ◌*◌, ◌/◌, ◌%◌, Bool, ◌&&◌, List, [], ◌∷◌, ◌++◌, codes, map, nat_le}
use Rattle.std.proofs.Common.{refl}
use Rattle.decimal_rank.specs.Bytes.{zero_digit}
use Rattle.measures.specs.ScoreLines.{four_digits}
use Rattle.drill.specs.declared.numbers.DrillNumbers.{DrillNumbers}

-- 2^31 - 1
abbrev pub most_seed : ℕ
most_seed = 2147483647

abbrev pub most_runs : ℕ
most_runs = 256

abbrev pub most_topics : ℕ
most_topics = 250

abbrev pub most_docs : ℕ
most_docs = 1000

-- of all runs together
abbrev pub most_lines : ℕ
most_lines = 8000000

-- a seed up to the greatest, and runs of topics with documents: from 1 to the most of each, and at most so many lines in all
abbrev pub are_numbers : DrillNumbers → Bool
are_numbers numbers =
    nat_le numbers.seed most_seed
    && (nat_le 1 numbers.runs && nat_le numbers.runs most_runs)
    && (nat_le 1 numbers.topics && nat_le numbers.topics most_topics)
    && (nat_le 1 numbers.docs && nat_le numbers.docs most_docs)
    && nat_le (numbers.runs * numbers.topics * numbers.docs) most_lines

-- the three lowest digits of n
abbrev pub three_digits : ℕ → List ℕ
three_digits n = (zero_digit + n / 100 % 10) ∷ (zero_digit + n / 10 % 10) ∷ (zero_digit + n % 10) ∷ []

abbrev pub topic_name : ℕ → List ℕ
topic_name t = codes "T" ++ three_digits t

abbrev pub run_name : ℕ → List ℕ
run_name r = codes "R" ++ three_digits r

abbrev pub doc_name : ℕ → List ℕ
doc_name d = codes "D" ++ four_digits d

-- the score of a document in a run on a topic
abbrev pub score_of : DrillNumbers → ℕ → ℕ → ℕ → ℕ
score_of numbers r t d = (31 * numbers.seed + 17 * r + 13 * t + d * (r + 6)) % 101

-- the grade of a document of a topic
abbrev pub drill_grade : DrillNumbers → ℕ → ℕ → ℕ
drill_grade numbers t d = (numbers.seed + 5 * t + 3 * d) % 4

-- The worked example: two runs of three documents on one topic.

abbrev example : DrillNumbers
example = record { seed = 1; runs = 2; topics = 1; docs = 3 }

grades : map (drill_grade example 1) (1 ∷ 2 ∷ 3 ∷ []) ≡ 1 ∷ 0 ∷ 3 ∷ []
grades = refl

scores_of_the_first : map (score_of example 1 1) (1 ∷ 2 ∷ 3 ∷ []) ≡ 68 ∷ 75 ∷ 82 ∷ []
scores_of_the_first = refl

scores_of_the_second : map (score_of example 2 1) (1 ∷ 2 ∷ 3 ∷ []) ≡ 86 ∷ 94 ∷ 1 ∷ []
scores_of_the_second = refl
