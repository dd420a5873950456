-- The run format: a line is a topic, a field that isn't looked at, a docno, another such field, a score and a third such field.
use Rattle.std.specs.Prelude.{◌≤◌, ◌==◌, ℕ, if◌then◌else◌, List, [], ◌∷◌, Ok, Err, Result, count_by, bytes_eq}
use Rattle.decimal_rank.specs.Decimals.Decimal.{DecimalValue}
use Rattle.decimal_rank.specs.Decimals.DecimalText.{decimal_of}
use Rattle.decimal_rank.specs.declared.decimals.DecimalFault.{DecimalFault}
use Rattle.trec_formats.specs.declared.runs.RunLine.{RunLine}
use Rattle.trec_formats.specs.declared.faults.Kind.{Kind}
use Rattle.trec_formats.specs.declared.faults.Kind.TheVariants.{Fields, Topic, Docno, Score, TooLong}
use Rattle.trec_formats.specs.declared.faults.FormatFault.{FormatFault}
use Rattle.trec_formats.specs.Faults.{Stand, IsReadAs}
use Rattle.trec_formats.specs.Lines.{Row, rows_of}
use Rattle.trec_formats.specs.Names.{is_name, is_docno}

abbrev pub scored : ℕ → List ℕ → List ℕ → Result DecimalValue DecimalFault → Result RunLine Kind
scored number topic doc (Ok score) = Ok (record { line = number; topic = topic; doc = doc; score = score })
scored number topic doc (Err cause) = Err (Score cause)

-- the line that a row stands for, or the first of its faults in the order of the kinds
unfoldable pub run_of : Row → Result RunLine Kind
run_of (number, topic ∷ _ ∷ doc ∷ _ ∷ score ∷ _ ∷ []) =
    if is_name topic then (if is_docno doc then scored number topic doc (decimal_of score) else Err Docno) else Err Topic
run_of (number, _) = Err Fields

-- how many lines a topic has
abbrev pub line_count_on : List ℕ → List RunLine → ℕ
line_count_on topic lines = count_by (λ line. bytes_eq line.topic topic) lines

-- the rows stand for these lines, of which no topic has more than 1,000
pub record AreRunLines (rows : List Row) (lines : List RunLine) : Type 0 where
  pub each : Stand run_of rows lines
  pub short : (topic : List ℕ) → line_count_on topic lines ≤ 1000

-- a line is too much where its topic has 1,000 already
abbrev pub within : List RunLine → Result RunLine Kind → Result RunLine Kind
within before (Ok line) = if line_count_on line.topic before == 1000 then Err TooLong else Ok line
within before (Err kind) = Err kind

-- what a text is read as: its lines, or its fault
abbrev pub IsRunReading : List ℕ → Result (List RunLine) FormatFault → Type 0
IsRunReading text = IsReadAs AreRunLines (λ before row. within before (run_of row)) (rows_of text)

abbrev pub IsRun : List ℕ → List RunLine → Type 0
IsRun text lines = IsRunReading text (Ok lines)

abbrev pub IsRunFault : List ℕ → FormatFault → Type 0
IsRunFault text fault = IsRunReading text (Err fault)
