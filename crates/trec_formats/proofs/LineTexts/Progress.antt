-- A text that is read up to a line.
use Rattle.std.proofs.Common.{◌≡◌, ◌≢◌, ◌≤◌, ◌+◌, inl, inr, ℕ, List, [], ◌∷◌, ◌++◌, length, refl, sym, ◌∙◌, ap, arith, Ok, Err, Result, append_assoc}
use Rattle.std.proofs.lemmas.List.{append-nil}
use Rattle.trec_formats.specs.declared.faults.Kind.{Kind}
use Rattle.trec_formats.specs.declared.faults.Kind.TheVariants.{Empty}
use Rattle.trec_formats.specs.Faults.{IsReadAs}
use Rattle.trec_formats.specs.Lines.{Row, lines_of, rows_from, rows_of}
use Rattle.trec_formats.proofs.LineTexts.Readings.{IsFormat}

-- the rows in front are read as these lines, and the rest of the text is left, behind so many lines
pub record IsReadTo {L : Type 0} (Good : List Row → List L → Type 0) (text : List ℕ) (number : ℕ) (rest : List ℕ) (lines : List L) : Type 0 where
  pub done : List Row
  pub rows : rows_of text ≡ done ++ rows_from (number + 1) (lines_of rest)
  pub good : Good done lines
  pub fits : number + length rest ≤ length text

module _ {L : Type 0} (Good : List Row → List L → Type 0) (next : List L → Row → Result L Kind) (format : IsFormat Good next) where
  pub begins : (text : List ℕ) → IsReadTo Good text 0 text []
  begins text = record { done = []; rows = refl; good = format.nil; fits = omega arith }

  pub goes_on : (text : List ℕ) (number : ℕ) (rest : List ℕ) (lines : List L) (row : Row) (after : List ℕ) (line : L) → IsReadTo Good text number rest lines
      → rows_from (number + 1) (lines_of rest) ≡ row ∷ rows_from (row.0 + 1) (lines_of after) → row.0 + length after ≤ number + length rest
      → next lines row ≡ Ok line → IsReadTo Good text row.0 after (lines ++ line ∷ [])
  goes_on text number rest lines row after line w cut shorter is = record {
    done = w.done ++ row ∷ [];
    rows = w.rows ∙ ap (λ rows. w.done ++ rows) cut ∙ sym (append_assoc w.done (row ∷ []) _);
    good = format.push w.done lines row line w.good is;
    fits = omega (arith, w.fits, shorter);
  }

  pub stops_at : (text : List ℕ) (number : ℕ) (rest : List ℕ) (lines : List L) (row : Row) (after : List ℕ) (kind : Kind) → IsReadTo Good text number rest lines
      → rows_from (number + 1) (lines_of rest) ≡ row ∷ rows_from (row.0 + 1) (lines_of after) → next lines row ≡ Err kind
      → IsReadAs Good next (rows_of text) (Err (record { line = row.0; kind = kind }))
  stops_at text number rest lines row after kind w cut is =
      inr (record {
        before = w.done;
        row = row;
        after = rows_from (row.0 + 1) (lines_of after);
        lines = lines;
        cut = w.rows
            ∙ ap (λ rows. w.done ++ rows) cut;
        good = w.good;
        line = refl;
        kind = is;
      })

  whole : (text : List ℕ) (number : ℕ) (rest : List ℕ) (lines : List L) (w : IsReadTo Good text number rest lines)
      → rows_from (number + 1) (lines_of rest) ≡ [] → rows_of text ≡ w.done
  whole text number rest lines w none = w.rows ∙ ap (λ rows. w.done ++ rows) none ∙ append-nil w.done

  some_rows : (text : List ℕ) (lines : List L) → Good (rows_of text) lines → (lines ≢ []) → rows_of text ≢ []
  some_rows text lines good some none = some (format.same [] lines [] (rw none at good) format.nil)

  pub is_whole : (text : List ℕ) (number : ℕ) (rest : List ℕ) (lines : List L) → IsReadTo Good text number rest lines
      → rows_from (number + 1) (lines_of rest) ≡ [] → (lines ≢ []) → IsReadAs Good next (rows_of text) (Ok lines)
  is_whole text number rest lines w none some =
      let good : Good (rows_of text) lines = rw (whole text number rest lines w none) w.good in
      (some_rows text lines good some, good)

  pub is_empty : (text : List ℕ) (number : ℕ) (rest : List ℕ) (lines : List L) → IsReadTo Good text number rest lines
      → rows_from (number + 1) (lines_of rest) ≡ [] → lines ≡ [] → IsReadAs Good next (rows_of text) (Err (record { line = 0; kind = Empty }))
  is_empty text number rest lines w none nil =
      let good : Good (rows_of text) [] = rw (whole text number rest lines w none) (rw nil at w.good) in
      inl (record { none = format.none (rows_of text) good; line = refl; kind = refl })
