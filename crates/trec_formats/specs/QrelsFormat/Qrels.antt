-- The qrels format: a line is a topic, a field that isn't looked at, a docno and a grade.
use Rattle.std.specs.Prelude.{◌&&◌, ℕ, Bool, if◌then◌else◌, List, [], ◌∷◌, Option, Some, None, Ok, Err, Result, bytes_eq, find, option_map}
use Rattle.trec_formats.specs.declared.qrels.QrelLine.{QrelLine}
use Rattle.trec_formats.specs.declared.faults.Kind.{Kind}
use Rattle.trec_formats.specs.declared.faults.Kind.TheVariants.{Fields, Topic, Docno, Grade}
use Rattle.trec_formats.specs.declared.faults.FormatFault.{FormatFault}
use Rattle.trec_formats.specs.Faults.{Stand, IsReadAs, IsReadOnce}
use Rattle.trec_formats.specs.Lines.{Row, rows_of}
use Rattle.trec_formats.specs.Names.{is_name, is_docno, grade_of}

abbrev pub graded_line : ℕ → List ℕ → List ℕ → Option ℕ → Result QrelLine Kind
graded_line number topic doc (Some grade) = Ok (record { line = number; topic = topic; doc = doc; grade = grade })
graded_line number topic doc None = Err Grade

-- the line that a row stands for, or the first of its faults in the order of the kinds
unfoldable pub qrel_of : Row → Result QrelLine Kind
qrel_of (number, topic ∷ _ ∷ doc ∷ grade ∷ []) =
    if is_name topic then (if is_docno doc then graded_line number topic doc (grade_of grade) else Err Docno) else Err Topic
qrel_of (number, _) = Err Fields

abbrev pub same_judged_document : QrelLine → QrelLine → Bool
same_judged_document a b = bytes_eq a.topic b.topic && bytes_eq a.doc b.doc

-- the grade of a document on a topic; none where the lines don't judge it
abbrev pub grade_on : List QrelLine → List ℕ → List ℕ → Option ℕ
grade_on lines topic doc =
    option_map (λ line. line.grade) (find (λ line. bytes_eq line.topic topic && bytes_eq line.doc doc) lines)

-- what the lines of a text are read as, one by one
abbrev pub IsEachRead : List ℕ → Result (List QrelLine) FormatFault → Type 0
IsEachRead text = IsReadAs (Stand qrel_of) (λ _. qrel_of) (rows_of text)

-- what a text is read as: its lines, or its fault
abbrev pub IsQrelsReading : List ℕ → Result (List QrelLine) FormatFault → Type 0
IsQrelsReading text = IsReadOnce (IsEachRead text) same_judged_document (λ line. line.line)

abbrev pub IsQrels : List ℕ → List QrelLine → Type 0
IsQrels text lines = IsQrelsReading text (Ok lines)

abbrev pub IsQrelsFault : List ℕ → FormatFault → Type 0
IsQrelsFault text fault = IsQrelsReading text (Err fault)
