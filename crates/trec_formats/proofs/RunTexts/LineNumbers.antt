-- The lines of a run keep the ascending numbers of their rows.
use Rattle.std.proofs.Common.{◌≡◌, ◌≤◌, ◌+◌, ℕ, zero, suc, Bool, true, false, List, [], ◌∷◌, map, refl, sym, ap, subst, arith, Ok, Err, Result}
use Rattle.std.specs.Prelude.{if◌then◌else◌}
use Rattle.std.specs.List.Sorted.{IsStrictlyIncreasing}
use Rattle.decimal_rank.specs.Decimals.Decimal.{DecimalValue}
use Rattle.decimal_rank.specs.Decimals.DecimalText.{decimal_of}
use Rattle.decimal_rank.specs.declared.decimals.DecimalFault.{DecimalFault}
use Rattle.trec_formats.specs.declared.runs.RunLine.{RunLine}
use Rattle.trec_formats.specs.declared.faults.Kind.{Kind}
use Rattle.trec_formats.specs.declared.faults.Kind.TheVariants.{Topic, Docno}
use Rattle.trec_formats.specs.Faults.{Stand}
use Rattle.trec_formats.specs.Lines.{Row, fields_of, is_filled, lines_of, rows_from, rows_of}
use Rattle.trec_formats.specs.Names.{is_name, is_docno}
use Rattle.trec_formats.specs.RunFormat.Runs.{IsRun, run_of, scored}

-- each number is at least n, and above the one before it
abbrev Ascends : ℕ → List ℕ → Type 0
Ascends n [] = Unit {0}
Ascends n (x ∷ xs) = (n ≤ x) × Ascends (x + 1) xs

ascends_from : (n m : ℕ) (xs : List ℕ) → n ≤ m → Ascends m xs → Ascends n xs
ascends_from n m [] low up = tt
ascends_from n m (x ∷ xs) low up = (omega (arith, low, up.0), up.1)

increasing : (n : ℕ) (xs : List ℕ) → Ascends n xs → IsStrictlyIncreasing xs
increasing n [] up k within = absurd (omega arith)
increasing n (x ∷ []) up k within = absurd (omega arith)
increasing n (x ∷ y ∷ xs) up zero within = omega (arith, up.1.0)
increasing n (x ∷ y ∷ xs) up (suc k) within =
    let next : suc k + 1 ≡ suc (k + 1) = omega arith in
    rw next (increasing (x + 1) (y ∷ xs) up.1 k (omega (arith, within)))

numbers_step : (n : ℕ) (line : List ℕ) (lines : List (List ℕ)) (t : Bool) → is_filled (fields_of line) ≡ t
    → Ascends (n + 1) (map (λ row. row.0) (rows_from (n + 1) lines)) → Ascends n (map (λ row. row.0) (rows_from n (line ∷ lines)))
unfolding rows_from
numbers_step n line lines true is up = rw is (omega arith, up)
numbers_step n line lines false is up = rw is (ascends_from n (n + 1) _ (omega arith) up)

numbers_ascend : (n : ℕ) (lines : List (List ℕ)) → Ascends n (map (λ row. row.0) (rows_from n lines))
unfolding rows_from
numbers_ascend n [] = tt
numbers_ascend n (line ∷ lines) = numbers_step n line lines (is_filled (fields_of line)) refl (numbers_ascend (n + 1) lines)

scored_number : (n : ℕ) (topic doc : List ℕ) (score : Result DecimalValue DecimalFault) (line : RunLine) → scored n topic doc score ≡ Ok line → line.line ≡ n
scored_number n topic doc (Ok score) line is = let same : ◌≡◌ {A = RunLine} (record { line = n; topic = topic; doc = doc; score = score }) line = cc is in
    sym (ap (λ (l : RunLine). l.line) same)
scored_number n topic doc (Err cause) line is = cc is

six_number : (n : ℕ) (topic doc score : List ℕ) (line : RunLine) (named numbered : Bool)
    → (let r : Result RunLine Kind = if named then (if numbered then scored n topic doc (decimal_of score) else Err Docno) else Err Topic in r) ≡ Ok line
    → line.line ≡ n
six_number n topic doc score line true true is = scored_number n topic doc (decimal_of score) line is
six_number n topic doc score line true false is = cc is
six_number n topic doc score line false numbered is = cc is

run_number : (row : Row) (line : RunLine) → run_of row ≡ Ok line → line.line ≡ row.0
unfolding run_of
run_number (n, []) line is = cc is
run_number (n, a ∷ []) line is = cc is
run_number (n, a ∷ b ∷ []) line is = cc is
run_number (n, a ∷ b ∷ c ∷ []) line is = cc is
run_number (n, a ∷ b ∷ c ∷ d ∷ []) line is = cc is
run_number (n, a ∷ b ∷ c ∷ d ∷ e ∷ []) line is = cc is
run_number (n, a ∷ b ∷ c ∷ d ∷ e ∷ f ∷ []) line is = six_number n a c e line (is_name a) (is_docno c) is
run_number (n, a ∷ b ∷ c ∷ d ∷ e ∷ f ∷ g ∷ more) line is = cc is

stand_numbers : (rows : List Row) (lines : List RunLine) → Stand run_of rows lines → map (λ (line : RunLine). line.line) lines ≡ map (λ row. row.0) rows
stand_numbers [] [] stand = refl
stand_numbers [] (line ∷ lines) stand = cc stand
stand_numbers (row ∷ rows) [] stand = cc stand
stand_numbers (row ∷ rows) (line ∷ lines) stand =
    let first : run_of row ≡ Ok line = cc stand in
    let more : Stand run_of rows lines = cc stand in
    rw (run_number row line first, stand_numbers rows lines more) refl

-- the lines of a run stand by ascending numbers
pub run_ascends : (text : List ℕ) (lines : List RunLine) → IsRun text lines → IsStrictlyIncreasing (map (λ line. line.line) lines)
run_ascends text lines is =
    subst IsStrictlyIncreasing (sym (stand_numbers (rows_of text) lines is.1.each)) (increasing 1 _ (numbers_ascend 1 (lines_of text)))
