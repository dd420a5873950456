-- The qrels text of a topic's grades.
use Rattle.std.specs.Prelude.{ℕ, List, [], ◌∷◌, Option, Some, None, if◌then◌else◌}
use Rattle.std.specs.Cmp.Lexicographic.{slice_cmp}
use Rattle.std.specs.List.{flat_map}
use Rattle.std.specs.Ordering.{nat_cmp, is_lt}
use Rattle.std.specs.declared.cmp.Ordering.{Ordering}
use Rattle.decimal_rank.specs.Names.{docno_of}
use Rattle.decimal_rank.specs.Texts.QrelLines.{qrel_line}
use Rattle.decimal_rank.specs.declared.naming.DocId.{DocId}
use Rattle.qrels_view.specs.declared.grades.Graded.{Graded}

-- the order of two documents by docno, byte by byte
abbrev pub docno_cmp : List (List ℕ) → DocId → DocId → Ordering
docno_cmp names a b = slice_cmp nat_cmp (docno_of names a.0) (docno_of names b.0)

-- documents by docno, with one more at its place
abbrev pub put_by_docno : List (List ℕ) → Graded → List Graded → List Graded
put_by_docno names one [] = one ∷ []
put_by_docno names one (other ∷ later) = if is_lt (docno_cmp names one.doc other.doc) then one ∷ other ∷ later else other ∷ put_by_docno names one later

-- the documents by docno
abbrev pub by_docno : List (List ℕ) → List Graded → List Graded
by_docno names [] = []
by_docno names (one ∷ later) = put_by_docno names one (by_docno names later)

-- the line of a document, and nothing where it has no grade
abbrev pub line_if_graded : List ℕ → List ℕ → Option ℕ → List ℕ
line_if_graded topic docno None = []
line_if_graded topic docno (Some grade) = qrel_line topic docno grade

abbrev pub qrels_line : List ℕ → List (List ℕ) → Graded → List ℕ
qrels_line topic names one = line_if_graded topic (docno_of names one.doc.0) one.grade

-- the lines of the documents that have a grade, by docno
abbrev pub qrels_text : List ℕ → List (List ℕ) → List Graded → List ℕ
qrels_text topic names graded = flat_map (qrels_line topic names) (by_docno names graded)
