-- The place of a document in the trail.
use Rattle.std.proofs.Common.{◌≡◌, ℕ, suc, ◌+◌, cond, not, nat_lt, Bool, eqb, List, [], ◌∷◌, length, Option, Some, None, position, refl, ap, ◌∙◌}
use Rattle.std.specs.List.{position_or_len}
use Rattle.std.specs.Map.{keys_of}
use Rattle.decimal_rank.specs.declared.naming.DocId.{DocId}
use Rattle.decimal_rank.proofs.TruthValues.{eqb_swap}
use Rattle.qrels_view.specs.Grades.{graded_docs, graded_of}
use Rattle.qrels_view.proofs.NewGrades.{GradeEntry}

abbrev is_doc : DocId → DocId → Bool
is_doc doc other = eqb other.0 doc.0

same_index : (doc : DocId) (entries : List GradeEntry)
    → position_or_len (eqb doc.0) (keys_of entries) ≡ position_or_len (is_doc doc) (graded_docs (graded_of entries))
same_index doc [] = refl
same_index doc (entry ∷ entries) =
    ap (λ t. cond (not t) (1 + position_or_len (eqb doc.0) (keys_of entries)) 0) (eqb_swap doc.0 entry.0)
    ∙ ap (λ n. cond (not (eqb entry.0 doc.0)) (1 + n) 0) (same_index doc entries)

as_many : (entries : List GradeEntry) → length (keys_of entries) ≡ length (graded_docs (graded_of entries))
as_many [] = refl
as_many (entry ∷ entries) = ap suc (as_many entries)

-- a document stands on the trail where it stands among the keys
pub same_place : (doc : DocId) (entries : List GradeEntry) → position (eqb doc.0) (keys_of entries) ≡ position (is_doc doc) (graded_docs (graded_of entries))
same_place doc entries =
    ap (λ n. found_at n (length (keys_of entries))) (same_index doc entries)
    ∙ ap (found_at (position_or_len (is_doc doc) (graded_docs (graded_of entries)))) (as_many entries)
  where
    found_at : ℕ → ℕ → Option ℕ
    found_at n len = cond (nat_lt n len) (Some n) None
