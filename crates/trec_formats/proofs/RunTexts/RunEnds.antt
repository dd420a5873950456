-- A run before its first byte, and behind its last.
use Rattle.std.proofs.Common.{◌≡◌, ◌≢◌, inl, inr, ℕ, List, [], ◌++◌, refl, sym, ◌∙◌, ap, subst}
use Rattle.std.proofs.lemmas.List.{append-nil}
use Rattle.trec_formats.specs.declared.faults.FormatFault.{FormatFault}
use Rattle.trec_formats.specs.declared.faults.Kind.TheVariants.{Empty}
use Rattle.trec_formats.specs.declared.runs.run_fields.KeptLine.{KeptLine}
use Rattle.trec_formats.specs.declared.runs.run_reader.Ended.{Ended}
use Rattle.trec_formats.specs.RunFormat.Counts.{count_at}
use Rattle.trec_formats.specs.Faults.{IsFirstFault}
use Rattle.trec_formats.specs.Lines.{fields_of, rows_of}
use Rattle.trec_formats.specs.RunFormat.PackedRuns.{kept_lines}
use Rattle.trec_formats.specs.RunFormat.RunFields.{kept_field, empty_line, with_part, kept_fields}
use Rattle.trec_formats.specs.RunFormat.RunStates.{IsFaulty, IsGoing}
use Rattle.trec_formats.specs.RunFormat.Runs.{AreRunLines, IsRun, IsRunFault}
use Rattle.trec_formats.proofs.RunTexts.KeptFields.{kept_more}
use Rattle.trec_formats.proofs.RunTexts.RunFormat.{next_line, run_format}
use Rattle.trec_formats.proofs.RunTexts.RunPieces.{EndsFaulty, EndsLine, in_hand_fields, in_hand_none, rows_at_end}

-- no byte was read
pub going_none : (ended : Ended) (line : KeptLine) (held : List ℕ) → ended.number ≡ 0 → kept_lines ended.run ≡ []
    → ((topic : List ℕ) → count_at ended.counts topic ≡ 0) → line ≡ empty_line → held ≡ [] → IsGoing [] ended line held
going_none ended line held number lines counts line_is held_is = record {
  done = [];
  bytes = [];
  rows = λ more. rw number refl;
  whole = record { good = rw lines run_format.nil; counted = λ topic. counts topic ∙ rw lines refl };
  in_hand = rw (line_is, held_is) in_hand_none;
}

pub faulty_here : (text : List ℕ) (fault : FormatFault) → IsFaulty text fault → IsRunFault text fault
faulty_here text fault w = subst (λ text. IsRunFault text fault) (append-nil text) (w [])

module _ (text : List ℕ) (ended : Ended) (line : KeptLine) (held : List ℕ) (last : KeptLine)
    (last_is : last ≡ with_part line (kept_field (held ++ []))) (w : IsGoing text ended line held) where
  held_is : kept_field (held ++ []) ≡ held
  held_is = ap (λ held. kept_field (held ++ [])) w.in_hand.held_is ∙ kept_more w.in_hand.present []
      ∙ ap kept_field (append-nil w.in_hand.present) ∙ sym w.in_hand.held_is

  last_fields : last ≡ kept_fields (fields_of w.bytes)
  last_fields = last_is ∙ ap (with_part line) held_is ∙ in_hand_fields w.bytes line held w.in_hand

  -- the lines of the whole text
  pub whole_lines : (new : Ended) → EndsLine ended last new → AreRunLines (rows_of text) (kept_lines new.run)
  whole_lines new ends = rw (rows_at_end text ended line held w) (ends w.done (fields_of w.bytes) w.whole last_fields).good

  pub whole_run : (new : Ended) → EndsLine ended last new → (kept_lines new.run ≢ []) → IsRun text (kept_lines new.run)
  whole_run new ends some =
      let good : AreRunLines (rows_of text) (kept_lines new.run) = whole_lines new ends in
      ((λ none. some (run_format.same [] (kept_lines new.run) [] (subst (λ rows. AreRunLines rows (kept_lines new.run)) none good) run_format.nil)), good)

  pub empty_run : (new : Ended) → EndsLine ended last new → kept_lines new.run ≡ [] → IsRunFault text (record { line = 0; kind = Empty })
  empty_run new ends none =
      let good : AreRunLines (rows_of text) [] = rw none at (whole_lines new ends) in
      inl (record { none = run_format.none (rows_of text) good; line = refl; kind = refl })

  pub faulty_run : (fault : FormatFault) → EndsFaulty ended last fault → IsRunFault text fault
  faulty_run fault ends =
      let found = ends w.done (fields_of w.bytes) w.whole last_fields [] in
      let rows = rows_at_end text ended line held w in
      inr (subst (λ rows. IsFirstFault AreRunLines next_line rows fault) (append-nil _ ∙ sym rows) found)
