-- A line of a run that ends.
use Rattle.std.proofs.Common.{◌≡◌, ◌≢◌, ◌+◌, ◌==◌, ℕ, true, List, [], ◌∷◌, ◌++◌, refl, sym, ◌∙◌, ap, Ok, Err, Result, append_assoc}
use Rattle.std.proofs.lemmas.Bool.{eq-eqb}
use Rattle.std.proofs.lemmas.List.{append-nil}
use Rattle.trec_formats.specs.declared.faults.FormatEnd.{FormatEnd}
use Rattle.trec_formats.specs.declared.faults.FormatEnd.TheVariants as ends
use Rattle.trec_formats.specs.declared.faults.FormatFault.{FormatFault}
use Rattle.trec_formats.specs.declared.faults.Kind.{Kind}
use Rattle.trec_formats.specs.declared.faults.Kind.TheVariants.{TooLong}
use Rattle.trec_formats.specs.declared.runs.run_fields.KeptLine.{KeptLine}
use Rattle.trec_formats.specs.declared.runs.run_reader.Ended.{Ended}
use Rattle.trec_formats.specs.declared.runs.RunLine.{RunLine}
use Rattle.trec_formats.specs.RunFormat.Counts.{count_at}
use Rattle.trec_formats.specs.Faults.{IfFault, OfFault}
use Rattle.trec_formats.specs.Lines.{Row}
use Rattle.trec_formats.specs.RunFormat.PackedRuns.{kept_lines}
use Rattle.trec_formats.specs.RunFormat.RunFields.{kept_fields, line_of}
use Rattle.trec_formats.specs.RunFormat.RunStates.{row_if, AreEnded, IsFaultBehind}
use Rattle.trec_formats.specs.RunFormat.Runs.{line_count_on, run_of}
use Rattle.trec_formats.proofs.RunTexts.KeptFields.{line_of-kept, no_fields}
use Rattle.trec_formats.proofs.RunTexts.RunPieces.{EndsLine, EndsFaulty}

pub if_fault_weaker : {X : Type 0} {P Q : FormatFault → Type 0} (r : Result X FormatEnd)
    → ((fault : FormatFault) → P fault → Q fault) → IfFault r P → IfFault r Q
if_fault_weaker (Ok x) f p = tt
if_fault_weaker (Err ends.Memory) f p = tt
if_fault_weaker (Err (ends.Fault fault)) f p = f fault p

pub of_fault_weaker : {P Q : FormatFault → Type 0} (end : FormatEnd) → ((fault : FormatFault) → P fault → Q fault) → OfFault end P → OfFault end Q
of_fault_weaker ends.Memory f p = tt
of_fault_weaker (ends.Fault fault) f p = f fault p

-- a line of a topic that has its most lines
pub full_line : (ended : Ended) (line : RunLine) → count_at ended.counts line.topic ≡ 1000 → (done : List Row) (row : Row) → AreEnded done ended
    → run_of row ≡ Ok line → ended.number ≡ row.0 → IsFaultBehind done (row ∷ []) (record { line = ended.number; kind = TooLong })
full_line ended line full done row w is number after =
    let on : (line_count_on line.topic (kept_lines ended.run) == 1000) ≡ true = eq-eqb _ _ (sym (w.counted line.topic) ∙ full) in
    record {
      before = done;
      row = row;
      after = after;
      lines = kept_lines ended.run;
      cut = append_assoc done (row ∷ []) after;
      good = w.good;
      line = number;
      kind = rw (is, on) refl;
    }

-- a line without a field
pub blank_line : (old new : Ended) (line : KeptLine) → line.count ≡ 0 → kept_lines new.run ≡ kept_lines old.run
    → new.counts ≡ old.counts → EndsLine old line new
blank_line old new line none lines counts done fields w is =
    let nil : fields ≡ [] = no_fields fields (ap (λ l. let n : ℕ = l.count in n) (sym is) ∙ none) in
    record { good = rw (nil, append-nil done, lines) w.good; counted = λ topic. rw (lines, counts) (w.counted topic) }

some_row : (number : ℕ) (fields : List (List ℕ)) → (kept_fields fields).count ≢ 0 → row_if number fields ≡ (number, fields) ∷ []
some_row number [] some = absurd (some refl)
some_row number (field ∷ fields) some = refl

module _ (old mid : Ended) (line : KeptLine) (some : line.count ≢ 0) where
  row_is : (fields : List (List ℕ)) → line ≡ kept_fields fields → row_if (old.number + 1) fields ≡ (old.number + 1, fields) ∷ []
  row_is fields is = some_row (old.number + 1) fields (λ none. some (ap (λ l. let n : ℕ = l.count in n) is ∙ none))

  module _ (lines : kept_lines mid.run ≡ kept_lines old.run) (counts : mid.counts ≡ old.counts) (number : mid.number ≡ old.number + 1) where
    same_ended : (done : List Row) → AreEnded done old → AreEnded done mid
    same_ended done w = record { good = rw lines w.good; counted = λ topic. rw (lines, counts) (w.counted topic) }

    -- a line without a fault
    pub good_line : (new : Ended) (l : RunLine) → Ok l ≡ line_of (old.number + 1) line
        → ((done : List Row) (row : Row) → AreEnded done mid → run_of row ≡ Ok l → AreEnded (done ++ row ∷ []) new) → EndsLine old line new
    good_line new l says adds done fields w is =
        rw (row_is fields is)
        (adds done (old.number + 1, fields) (same_ended done w)
        (sym (line_of-kept (old.number + 1) fields) ∙ ap (line_of (old.number + 1)) (sym is) ∙ sym says))

    -- a line that is one too many
    pub full : (fault : FormatFault) (l : RunLine) → Ok l ≡ line_of (old.number + 1) line
        → ((done : List Row) (row : Row) → AreEnded done mid → run_of row ≡ Ok l → mid.number ≡ row.0 → IsFaultBehind done (row ∷ []) fault)
        → EndsFaulty old line fault
    full fault l says adds done fields w is =
        rw (row_is fields is)
        (adds done (old.number + 1, fields) (same_ended done w)
        (sym (line_of-kept (old.number + 1) fields) ∙ ap (line_of (old.number + 1)) (sym is) ∙ sym says) number)

  -- a line with a fault of its own
  pub bad_line : (kind : Kind) → Err kind ≡ line_of (old.number + 1) line → EndsFaulty old line (record { line = old.number + 1; kind = kind })
  bad_line kind says done fields w is =
      let row : Row = (old.number + 1, fields) in
      let read : run_of row ≡ Err kind = sym (line_of-kept (old.number + 1) fields) ∙ ap (line_of (old.number + 1)) (sym is) ∙ sym says in
      rw (row_is fields is)
      (λ after. record {
        before = done;
        row = row;
        after = after;
        lines = kept_lines old.run;
        cut = append_assoc done (row ∷ []) after;
        good = w.good;
        line = refl;
        kind = rw read refl;
      })
