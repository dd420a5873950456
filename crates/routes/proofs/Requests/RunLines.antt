-- The lines of a run: their topics are names, their documents docnos, and they are no longer than the text.
use Rattle.std.proofs.Common.{◌≡◌, ◌≢◌, ℕ, suc, ◌+◌, ◌<◌, ◌≤◌, ◌&&◌, List, [], ◌∷◌, Ok, Err, Bool, true, false, length, map, refl, sym, ap, ◌∙◌, arith, le-leb}
use Rattle.std.specs.Prelude.{Result, ◌==◌, cond, if◌then◌else◌, nat_le}
use Rattle.std.specs.List.{list_all, filter, sum_by, slice_split, onto_first, enumerate_from}
use Rattle.std.proofs.lemmas.Bool.{and_parts, and_from, cond_both}
use Rattle.std.proofs.lemmas.List.Sums.{sum_by-cons}
use Rattle.decimal_rank.specs.Decimals.Decimal.{DecimalValue}
use Rattle.decimal_rank.specs.Decimals.DecimalText.{decimal_of}
use Rattle.decimal_rank.specs.declared.decimals.DecimalFault.{DecimalFault}
use Rattle.trec_formats.specs.declared.faults.Kind.{Kind}
use Rattle.trec_formats.specs.declared.faults.Kind.TheVariants.{Topic, Docno}
use Rattle.trec_formats.specs.Faults.{Stand}
use Rattle.trec_formats.specs.Lines.{Row, is_white_space, is_filled, lines_of, fields_of, rows_from, rows_of}
use Rattle.trec_formats.specs.Names.{is_name, is_docno}
use Rattle.trec_formats.specs.RunFormat.Runs.{run_of, scored, IsRun}
use Rattle.trec_formats.specs.declared.runs.RunLine.{RunLine}

-- a text with the byte that ends it
abbrev pub size_of : List ℕ → ℕ
size_of text = length text + 1

abbrev pub sizes : List (List ℕ) → ℕ
sizes texts = sum_by size_of texts

-- the least size of a line: its topic, its document, four other fields of a byte or more, and what ends each field
abbrev pub line_size : RunLine → ℕ
line_size line = length line.topic + length line.doc + 10

abbrev pub is_good : RunLine → Bool
is_good line = is_name line.topic && is_docno line.doc

-- whether a line's number is one of the first
abbrev pub is_up_to : ℕ → RunLine → Bool
is_up_to most line = nat_le line.line most

pub record AreGood (text : List ℕ) (lines : List RunLine) : Type 0 where
  pub some : 0 < length lines
  pub each : list_all is_good lines ≡ true
  pub numbered : list_all (is_up_to (length text + 1)) lines ≡ true
  pub short : sum_by line_size lines ≤ length text + 1

-- the sum over what passes a test is no greater
pub sum_by-filter-le : {X : Type 0} (f : X → ℕ) (p : X → Bool) (xs : List X) → sum_by f (filter p xs) ≤ sum_by f xs
sum_by-filter-le f p [] = omega arith
sum_by-filter-le {X} f p (x ∷ xs) =
    let rest = sum_by-filter-le f p xs in
    cond_both (p x) (x ∷ filter p xs) (filter p xs) (λ (kept : List X). sum_by f kept ≤ sum_by f (x ∷ xs))
    (λ passes. omega (arith, rest, sum_by-cons f x (filter p xs), sum_by-cons f x xs))
    (λ fails. omega (arith, rest, sum_by-cons f x xs))

pub all_kept : {X : Type 0} (q p : X → Bool) (xs : List X) → list_all q xs ≡ true → list_all q (filter p xs) ≡ true
all_kept q p [] all = refl
all_kept {X} q p (x ∷ xs) all =
    let parts = and_parts (q x) (list_all q xs) all in
    let rest = all_kept q p xs parts.1 in
    cond_both (p x) (x ∷ filter p xs) (filter p xs) (λ (kept : List X). list_all q kept ≡ true)
    (λ passes. and_from (q x) (list_all q (filter p xs)) parts.0 rest) (λ fails. rest)

pass_one : {X : Type 0} (p : X → Bool) (x : X) (xs : List X) (test : Bool) → p x ≡ test → list_all p xs ≡ true → list_all p (cond test (x ∷ xs) xs) ≡ true
pass_one p x xs true passes rest = and_from (p x) (list_all p xs) passes rest
pass_one p x xs false fails rest = rest

pub all_pass : {X : Type 0} (p : X → Bool) (xs : List X) → list_all p (filter p xs) ≡ true
all_pass p [] = refl
all_pass p (x ∷ xs) = pass_one p x (filter p xs) (p x) refl (all_pass p xs)

split_onto : (b n : ℕ) (parts : List (List ℕ)) → sizes parts ≡ n + 1 → sizes (onto_first b parts) ≡ n + 2
split_onto b n [] is = absurd (omega (arith, is))
split_onto b n (part ∷ parts) is = omega (arith, is, sum_by-cons size_of part parts, sum_by-cons size_of (b ∷ part) parts)

split_sizes : (p : ℕ → Bool) (text : List ℕ) → sizes (slice_split p text) ≡ length text + 1
split_sizes p [] = refl
split_sizes p (b ∷ text) =
    let rest = split_sizes p text in
    cond_both (p b) ([] ∷ slice_split p text) (onto_first b (slice_split p text)) (λ (parts : List (List ℕ)). sizes parts ≡ length (b ∷ text) + 1)
    (λ cut. omega (arith, rest, sum_by-cons size_of [] (slice_split p text)))
    (λ kept. omega (arith, split_onto b (length text) (slice_split p text) rest))

fields_sizes : (line : List ℕ) → sizes (fields_of line) ≤ length line + 1
unfolding fields_of
fields_sizes line = omega (arith, sum_by-filter-le size_of is_filled (slice_split is_white_space line), split_sizes is_white_space line)

fields_filled : (line : List ℕ) → list_all is_filled (fields_of line) ≡ true
unfolding fields_of
fields_filled line = all_pass is_filled (slice_split is_white_space line)

lines_onto : (b n : ℕ) (lines : List (List ℕ)) → sizes lines ≤ n + 1 → sizes (onto_first b lines) ≤ n + 2
lines_onto b n [] is = omega arith
lines_onto b n (line ∷ lines) is = omega (arith, is, sum_by-cons size_of line lines, sum_by-cons size_of (b ∷ line) lines)

pub lines_sizes : (text : List ℕ) → sizes (lines_of text) ≤ length text + 1
unfolding lines_of
lines_sizes [] = omega arith
lines_sizes (b ∷ text) =
    let rest = lines_sizes text in
    cond_both (b == 10) ([] ∷ lines_of text) (onto_first b (lines_of text)) (λ (lines : List (List ℕ)). sizes lines ≤ length (b ∷ text) + 1)
    (λ cut. omega (arith, rest, sum_by-cons size_of [] (lines_of text)))
    (λ kept. omega (arith, lines_onto b (length text) (lines_of text) rest))

-- Rows

abbrev row_size : Row → ℕ
row_size row = sizes row.1

abbrev is_filled_row : Row → Bool
is_filled_row row = list_all is_filled row.1

numbered_sizes : (number : ℕ) (lines : List (List ℕ)) → sum_by row_size (enumerate_from number (map fields_of lines)) ≤ sizes lines
numbered_sizes number [] = omega arith
numbered_sizes number (line ∷ lines) =
    omega (
      arith,
      numbered_sizes (number + 1) lines,
      fields_sizes line,
      sum_by-cons size_of line lines,
      sum_by-cons row_size (number, fields_of line) (enumerate_from (number + 1) (map fields_of lines)),
    )

numbered_filled : (number : ℕ) (lines : List (List ℕ)) → list_all is_filled_row (enumerate_from number (map fields_of lines)) ≡ true
numbered_filled number [] = refl
numbered_filled number (line ∷ lines) =
    and_from (list_all is_filled (fields_of line)) (list_all is_filled_row (enumerate_from (number + 1) (map fields_of lines)))
    (fields_filled line) (numbered_filled (number + 1) lines)

rows_sizes : (text : List ℕ) → sum_by row_size (rows_of text) ≤ length text + 1
unfolding rows_from
rows_sizes text =
    omega (
      arith,
      lines_sizes text,
      numbered_sizes 1 (lines_of text),
      sum_by-filter-le row_size (λ row. is_filled row.1) (enumerate_from 1 (map fields_of (lines_of text))),
    )

rows_filled : (text : List ℕ) → list_all is_filled_row (rows_of text) ≡ true
unfolding rows_from
rows_filled text = all_kept is_filled_row (λ row. is_filled row.1) (enumerate_from 1 (map fields_of (lines_of text))) (numbered_filled 1 (lines_of text))

abbrev is_row_up_to : ℕ → Row → Bool
is_row_up_to most row = nat_le row.0 most

numbered_up_to : (most number : ℕ) (lines : List (List ℕ)) → number + length lines ≤ most + 1
    → list_all (is_row_up_to most) (enumerate_from number (map fields_of lines)) ≡ true
numbered_up_to most number [] few = refl
numbered_up_to most number (line ∷ lines) few =
    and_from (nat_le number most) (list_all (is_row_up_to most) (enumerate_from (number + 1) (map fields_of lines)))
    (le-leb number most (omega (arith, few))) (numbered_up_to most (number + 1) lines (omega (arith, few)))

lines_few : (lines : List (List ℕ)) → length lines ≤ sizes lines
lines_few [] = omega arith
lines_few (line ∷ lines) = omega (arith, lines_few lines, sum_by-cons size_of line lines)

rows_numbered : (text : List ℕ) → list_all (is_row_up_to (length text + 1)) (rows_of text) ≡ true
unfolding rows_from
rows_numbered text =
    all_kept (is_row_up_to (length text + 1)) (λ row. is_filled row.1) (enumerate_from 1 (map fields_of (lines_of text)))
    (numbered_up_to (length text + 1) 1 (lines_of text) (omega (arith, lines_few (lines_of text), lines_sizes text)))

-- One line

record IsGoodLine (number : ℕ) (fields : List (List ℕ)) (line : RunLine) : Type 0 where
  numbered : line.line ≡ number
  good : is_good line ≡ true
  short : line_size line ≤ sizes fields

filled_some : (field : List ℕ) → is_filled field ≡ true → 1 ≤ length field
filled_some [] filled = cc
filled_some (b ∷ field) filled = omega arith

six_sizes : (a b c d e f : List ℕ) → list_all is_filled (a ∷ b ∷ c ∷ d ∷ e ∷ f ∷ []) ≡ true → length a + length c + 10 ≤ sizes (a ∷ b ∷ c ∷ d ∷ e ∷ f ∷ [])
six_sizes a b c d e f filled =
    let at_a = and_parts (is_filled a) (list_all is_filled (b ∷ c ∷ d ∷ e ∷ f ∷ [])) filled in
    let at_b = and_parts (is_filled b) (list_all is_filled (c ∷ d ∷ e ∷ f ∷ [])) at_a.1 in
    let at_c = and_parts (is_filled c) (list_all is_filled (d ∷ e ∷ f ∷ [])) at_b.1 in
    let at_d = and_parts (is_filled d) (list_all is_filled (e ∷ f ∷ [])) at_c.1 in
    let at_e = and_parts (is_filled e) (list_all is_filled (f ∷ [])) at_d.1 in
    let at_f = and_parts (is_filled f) true at_e.1 in
    omega (arith, filled_some b at_b.0, filled_some d at_d.0, filled_some e at_e.0, filled_some f at_f.0)

line_of_scored : (number : ℕ) (topic doc : List ℕ) (score : Result DecimalValue DecimalFault) (line : RunLine)
    → scored number topic doc score ≡ Ok line → (line.topic ≡ topic) × (line.doc ≡ doc) × (line.line ≡ number)
line_of_scored number topic doc (Ok score) line is =
    let same : record { line = number; topic = topic; doc = doc; score = score } ≡ line = cc in
    (ap (λ (l : RunLine). l.topic) (sym same), ap (λ (l : RunLine). l.doc) (sym same), ap (λ (l : RunLine). l.line) (sym same))
line_of_scored number topic doc (Err cause) line is = cc

err_not_ok : {kind : Kind} {line : RunLine} → ◌≡◌ {A = Result RunLine Kind} (Err kind) (Ok line) → ⊥
err_not_ok is = cc

good_line : (number : ℕ) (fields : List (List ℕ)) (line : RunLine) → run_of (number, fields) ≡ Ok line
    → list_all is_filled fields ≡ true → IsGoodLine number fields line
unfolding run_of
good_line number (topic ∷ a ∷ doc ∷ b ∷ score ∷ c ∷ []) line is filled =
    cond_both (is_name topic) (if is_docno doc then scored number topic doc (decimal_of score) else Err Docno) (Err Topic)
    (λ (r : Result RunLine Kind). r ≡ Ok line → IsGoodLine number (topic ∷ a ∷ doc ∷ b ∷ score ∷ c ∷ []) line)
    (λ named rest.
    cond_both (is_docno doc) (scored number topic doc (decimal_of score)) (Err Docno)
    (λ (r : Result RunLine Kind). r ≡ Ok line → IsGoodLine number (topic ∷ a ∷ doc ∷ b ∷ score ∷ c ∷ []) line)
    (λ docno ends.
    let parts = line_of_scored number topic doc (decimal_of score) line ends in
    record {
      numbered = parts.2;
      good = rw (parts.0, parts.1) (and_from (is_name topic) (is_docno doc) named docno);
      short = rw (parts.0, parts.1) (six_sizes topic a doc b score c filled);
    })
    (λ other wrong. absurd (err_not_ok wrong)) rest)
    (λ other wrong. absurd (err_not_ok wrong)) is
good_line number _ line is filled = absurd (err_not_ok is)

-- All lines

record AreLinesOf (most : ℕ) (rows : List Row) (lines : List RunLine) : Type 0 where
  same : length lines ≡ length rows
  each : list_all is_good lines ≡ true
  numbered : list_all (is_up_to most) lines ≡ true
  short : sum_by line_size lines ≤ sum_by row_size rows

nil_not_cons : {X : Type 0} {x : X} {xs : List X} → ◌≡◌ {A = List X} [] (x ∷ xs) → ⊥
nil_not_cons is = cc

lines_of_rows : (most : ℕ) (rows : List Row) (lines : List RunLine) → Stand run_of rows lines → list_all is_filled_row rows ≡ true
    → list_all (is_row_up_to most) rows ≡ true → AreLinesOf most rows lines
lines_of_rows most [] [] stand filled numbered = record { same = refl; each = refl; numbered = refl; short = omega arith }
lines_of_rows most [] (line ∷ lines) stand filled numbered = absurd (nil_not_cons stand)
lines_of_rows most (row ∷ rows) [] stand filled numbered = absurd (nil_not_cons (sym stand))
lines_of_rows most ((number, fields) ∷ rows) (line ∷ lines) stand filled numbered =
    let first : run_of (number, fields) ≡ Ok line = cc in
    let later : map run_of rows ≡ map (λ line. Ok line) lines = cc in
    let parts = and_parts (list_all is_filled fields) (list_all is_filled_row rows) filled in
    let numbers = and_parts (nat_le number most) (list_all (is_row_up_to most) rows) numbered in
    let one = good_line number fields line first parts.0 in
    let rest = lines_of_rows most rows lines later parts.1 numbers.1 in
    record {
      same = ap suc rest.same;
      each = and_from (is_good line) (list_all is_good lines) one.good rest.each;
      numbered = and_from (is_up_to most line) (list_all (is_up_to most) lines) (ap (λ n. nat_le n most) one.numbered ∙ numbers.0) rest.numbered;
      short = omega (arith, one.short, rest.short, sum_by-cons line_size line lines, sum_by-cons row_size (number, fields) rows);
    }

pub good_lines : (text : List ℕ) (lines : List RunLine) → IsRun text lines → AreGood text lines
good_lines text lines (some, are) =
    let w = lines_of_rows (length text + 1) (rows_of text) lines are.each (rows_filled text) (rows_numbered text) in
    record {
      some = omega (arith, w.same, filled_rows (rows_of text) some);
      each = w.each;
      numbered = w.numbered;
      short = omega (arith, w.short, rows_sizes text);
    }
  where
    filled_rows : (rows : List Row) → rows ≢ [] → 0 < length rows
    filled_rows [] some = absurd (some refl)
    filled_rows (row ∷ rows) some = omega arith
