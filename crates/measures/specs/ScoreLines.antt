-- The printed form of scores: four fields to a line, joined by tabs. A count is a whole number, and each other value
-- has four decimals.
use Rattle.std.specs.Prelude.{ℕ, ◌+◌, ◌*◌, ◌/◌, ◌%◌, ◌^◌, List, [], ◌∷◌, ◌++◌, codes, decimal, flat_map, zip}
use Rattle.decimal_rank.specs.Bytes.{zero_digit}
use Rattle.measures.specs.declared.cells.Cell.{Cell}
use Rattle.measures.specs.declared.means.Summary.{Summary}
use Rattle.measures.specs.Means.{means_in, values_of}

-- the four lowest digits of n
abbrev pub four_digits : ℕ → List ℕ
four_digits n = (zero_digit + n / 1000 % 10) ∷ (zero_digit + n / 100 % 10) ∷ (zero_digit + n / 10 % 10) ∷ (zero_digit + n % 10) ∷ []

-- a value in units of 10^-15, rounded half upwards to units of 10^-4
abbrev pub ten_thousandths : ℕ → ℕ
ten_thousandths value = (value + 5 * 10 ^ 10) / 10 ^ 11

abbrev pub four_decimals : ℕ → List ℕ
four_decimals value = decimal (ten_thousandths value / 10 ^ 4) ++ codes "." ++ four_digits (ten_thousandths value)

-- what stands before the value of a line
abbrev pub line_start : List ℕ → List ℕ → List ℕ → List ℕ
line_start run topic measure = run ++ codes "\t" ++ topic ++ codes "\t" ++ measure ++ codes "\t"

abbrev pub count_line : List ℕ → List ℕ → List ℕ → ℕ → List ℕ
count_line run topic measure count = line_start run topic measure ++ decimal count ++ codes "\n"

abbrev pub value_line : List ℕ → List ℕ → List ℕ → ℕ → List ℕ
value_line run topic measure value = line_start run topic measure ++ four_decimals value ++ codes "\n"

-- the counts: the documents retrieved, the relevant ones, and the relevant ones retrieved
unfoldable pub count_lines : List ℕ → List ℕ → ℕ → ℕ → ℕ → List ℕ
count_lines run topic ret rel rel_ret =
    count_line run topic (codes "num_ret") ret
    ++ count_line run topic (codes "num_rel") rel
    ++ count_line run topic (codes "num_rel_ret") rel_ret

-- the names of the measures, in the order of these
abbrev pub measure_names : List (List ℕ)
measure_names =
    codes "map" ∷ codes "Rprec" ∷ codes "bpref" ∷ codes "recip_rank" ∷ codes "P_5" ∷ codes "P_10" ∷ codes "P_15" ∷ codes "P_20" ∷ codes "P_30"
    ∷ codes "P_100" ∷ codes "P_200" ∷ codes "P_500" ∷ codes "P_1000" ∷ []

-- a line for each name and its value
abbrev pub value_lines : List ℕ → List ℕ → List (List ℕ) → List ℕ → List ℕ
value_lines run topic names values = flat_map (λ row. value_line run topic row.0 row.1) (zip names values)

-- the 16 lines of a cell
unfoldable pub cell_text : List ℕ → List ℕ → Cell → List ℕ
cell_text run topic cell =
    count_lines run topic cell.ret cell.rel cell.rel_ret ++ value_lines run topic measure_names (values_of cell)

-- the 17 lines of a summary, whose topic is `all`: the number of topics goes before the lines that a cell has
unfoldable pub summary_text : List ℕ → Summary → List ℕ
summary_text run summary =
    count_line run (codes "all") (codes "num_q") summary.topics
    ++ count_lines run (codes "all") summary.ret summary.rel summary.rel_ret
    ++ value_lines run (codes "all") measure_names (means_in summary)
