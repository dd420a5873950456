-- A run read up to a line, and this line as it stands whole in a piece.
use Rattle.std.proofs.Common.{◌≡◌, ◌≢◌, ◌+◌, inr, ℕ, Bool, true, false, List, [], ◌∷◌, ◌++◌, length, take, drop, get_or, refl, sym, ◌∙◌, ap, subst, Some, position, append_assoc, Ok, Err}
use Rattle.std.proofs.lemmas.Bool.{eq-eqb}
use Rattle.std.proofs.lemmas.List.{take-append-drop}
use Rattle.std.proofs.lemmas.List.Folds.{list_all-append}
use Rattle.trec_formats.specs.declared.faults.FormatFault.{FormatFault}
use Rattle.trec_formats.specs.declared.faults.Kind.{Kind}
use Rattle.trec_formats.specs.declared.runs.run_fields.KeptLine.{KeptLine}
use Rattle.trec_formats.specs.declared.runs.run_reader.Ended.{Ended}
use Rattle.trec_formats.specs.declared.runs.RunLine.{RunLine}
use Rattle.trec_formats.specs.Faults.{IsFirstFault}
use Rattle.trec_formats.specs.Lines.{Row, is_filled, is_white_space, fields_of, lines_of, rows_from, rows_of, is_line_feed}
use Rattle.trec_formats.specs.RunFormat.PackedRuns.{kept_lines}
use Rattle.trec_formats.specs.RunFormat.RunFields.{empty_line, kept_fields, line_of}
use Rattle.trec_formats.specs.RunFormat.RunStates.{row_if, AreEnded, IsFaultBehind, IsFaulty, IsGoing, IsInHand}
use Rattle.trec_formats.specs.RunFormat.Runs.{AreRunLines, run_of}
use Rattle.trec_formats.proofs.LineTexts.Cuts.{fields_of-white, filled_solid}
use Rattle.trec_formats.proofs.RunTexts.KeptFields.{line_of-kept, no_fields}
use Rattle.trec_formats.proofs.RunTexts.RunFormat.{next_line}
use Rattle.trec_formats.proofs.RunTexts.RunLines.{bad_line, blank_line, full, good_line}
use Rattle.trec_formats.proofs.RunTexts.RunPieces.{faulty_more, in_hand_fields, in_hand_none, is_on_line, rows_line}
use Rattle.trec_formats.proofs.RunTexts.RunSteps.{cut_at}

white_step : (b : ℕ) (bytes part : List ℕ) (t : Bool) → is_white_space b ≡ t → (fields_of bytes ≡ [] → fields_of (bytes ++ part) ≡ fields_of part)
    → fields_of (b ∷ bytes) ≡ [] → fields_of (b ∷ bytes ++ part) ≡ fields_of part
white_step b bytes part true is below none = fields_of-white b (bytes ++ part) is ∙ below (sym (fields_of-white b bytes is) ∙ none)
white_step b bytes part false is below none = absurd (cc (filled_solid b bytes is, ap is_filled none))

-- bytes without a field in front of others
white_front : (bytes part : List ℕ) → fields_of bytes ≡ [] → fields_of (bytes ++ part) ≡ fields_of part
white_front [] part none = refl
white_front (b ∷ bytes) part none = white_step b bytes part (is_white_space b) refl (white_front bytes part) none

-- what a whole line adds to the lines before it
abbrev pub EndsWhole : Ended → List (List ℕ) → Ended → Type 0
EndsWhole old fields new = (done : List Row) → AreEnded done old → AreEnded (done ++ row_if (old.number + 1) fields) new

-- what a whole line is, where it has a fault
abbrev pub IsWholeFault : Ended → List (List ℕ) → FormatFault → Type 0
IsWholeFault old fields fault = (done : List Row) → AreEnded done old → IsFaultBehind done (row_if (old.number + 1) fields) fault

none_kept : (fields : List (List ℕ)) → is_filled fields ≡ false → (kept_fields fields).count ≡ 0
none_kept [] none = refl
none_kept (field ∷ fields) none = cc none

some_kept : (fields : List (List ℕ)) → is_filled fields ≡ true → (kept_fields fields).count ≢ 0
some_kept fields some none = cc (some, ap is_filled (no_fields fields none))

module _ (old mid : Ended) (fields : List (List ℕ)) (lines : kept_lines mid.run ≡ kept_lines old.run) (counts : mid.counts ≡ old.counts) where
  pub whole_blank : is_filled fields ≡ false → EndsWhole old fields mid
  whole_blank none done w = blank_line old mid (kept_fields fields) (none_kept fields none) lines counts done fields w refl

  module _ (number : mid.number ≡ old.number + 1) (some : is_filled fields ≡ true) (l : RunLine) (says : run_of (old.number + 1, fields) ≡ Ok l) where
    pub whole_good : (new : Ended) → ((done : List Row) (row : Row) → AreEnded done mid → run_of row ≡ Ok l → AreEnded (done ++ row ∷ []) new)
        → EndsWhole old fields new
    whole_good new adds done w =
        good_line old mid (kept_fields fields) (some_kept fields some) lines counts number new l
        (sym (line_of-kept (old.number + 1) fields ∙ says)) adds done fields w refl

    pub whole_full : (fault : FormatFault)
        → ((done : List Row) (row : Row) → AreEnded done mid → run_of row ≡ Ok l → mid.number ≡ row.0 → IsFaultBehind done (row ∷ []) fault)
        → IsWholeFault old fields fault
    whole_full fault adds done w =
        full old mid (kept_fields fields) (some_kept fields some) lines counts number fault l
        (sym (line_of-kept (old.number + 1) fields ∙ says)) adds done fields w refl

pub whole_bad : (old : Ended) (fields : List (List ℕ)) (kind : Kind) → is_filled fields ≡ true → run_of (old.number + 1, fields) ≡ Err kind
    → IsWholeFault old fields (record { line = old.number + 1; kind = kind })
whole_bad old fields kind some says done w =
    bad_line old old (kept_fields fields) (some_kept fields some) kind (sym (line_of-kept (old.number + 1) fields ∙ says)) done fields w refl

-- a reading between lines
module _ (text : List ℕ) (ended : Ended) (line : KeptLine) (held : List ℕ) (none : line.count ≡ 0)
    (nothing : held ≡ []) (w : IsGoing text ended line held) where
  no_fields_yet : fields_of w.bytes ≡ []
  no_fields_yet = no_fields (fields_of w.bytes)
      (ap (λ (l : KeptLine). let n : ℕ = l.count in n) (sym (in_hand_fields w.bytes line [] (subst (IsInHand w.bytes line) nothing w.in_hand))) ∙ none)

  line_empty : line ≡ empty_line
  line_empty = in_hand_fields w.bytes line [] (subst (IsInHand w.bytes line) nothing w.in_hand) ∙ ap kept_fields no_fields_yet

  rows_whole : (part : List ℕ) (b : ℕ) (more : List ℕ) → is_on_line part ≡ true → is_line_feed b ≡ true
      → rows_of ((text ++ (part ++ b ∷ [])) ++ more) ≡ w.done ++ row_if (ended.number + 1) (fields_of part) ++ rows_from (ended.number + 1 + 1) (lines_of more)
  rows_whole part b more on is =
      let n : ℕ = ended.number + 1 in
      let on_both : is_on_line (w.bytes ++ part) ≡ true = list_all-append _ w.bytes part ∙ rw (w.in_hand.one_line, on) refl in
      ap rows_of (append_assoc text (part ++ b ∷ []) more ∙ ap (λ end. text ++ end) (append_assoc part (b ∷ []) more))
      ∙ w.rows (part ++ b ∷ more)
      ∙ ap (λ bytes. w.done ++ rows_from n (lines_of bytes)) (sym (append_assoc w.bytes part (b ∷ more)))
      ∙ ap (λ rows. w.done ++ rows) (rows_line n (w.bytes ++ part) b more on_both is)
      ∙ ap (λ fields. w.done ++ (row_if n fields ++ rows_from (n + 1) (lines_of more))) (white_front w.bytes part no_fields_yet)
      ∙ sym (append_assoc w.done (row_if n (fields_of part)) (rows_from (n + 1) (lines_of more)))

  going_whole : (part : List ℕ) (b : ℕ) (new : Ended) → is_on_line part ≡ true → is_line_feed b ≡ true → EndsWhole ended (fields_of part) new
      → new.number ≡ ended.number + 1 → IsGoing (text ++ (part ++ b ∷ [])) new line held
  going_whole part b new on is ends number = rw (line_empty, nothing) (record {
    done = w.done ++ row_if (ended.number + 1) (fields_of part);
    bytes = [];
    rows = λ more. rows_whole part b more on is
        ∙ ap (λ n. w.done ++ row_if (ended.number + 1) (fields_of part) ++ rows_from (n + 1) (lines_of more)) (sym number);
    whole = ends w.done w.whole;
    in_hand = in_hand_none;
  })

  faulty_whole : (part : List ℕ) (b : ℕ) (fault : FormatFault) → is_on_line part ≡ true → is_line_feed b ≡ true
      → IsWholeFault ended (fields_of part) fault → IsFaulty (text ++ (part ++ b ∷ [])) fault
  faulty_whole part b fault on is ends more =
      let found = ends w.done w.whole (rows_from (ended.number + 1 + 1) (lines_of more)) in
      inr (subst (λ rows. IsFirstFault AreRunLines next_line rows fault) (sym (rows_whole part b more on is)) found)

  module _ (rest : List ℕ) (end : ℕ) (is : Some end ≡ position is_line_feed rest) where
    pub advance_whole : (new : Ended) → EndsWhole ended (fields_of (take end rest)) new → new.number ≡ ended.number + 1
        → IsGoing (text ++ take (end + 1) rest) new line held
    advance_whole new ends number =
        let cut = cut_at is_line_feed rest end is in
        rw cut.taken (going_whole (take end rest) (get_or rest end 0) new cut.clear cut.breaks ends number)

    pub advance_faulty : (fault : FormatFault) → IsWholeFault ended (fields_of (take end rest)) fault → IsFaulty (text ++ rest) fault
    advance_faulty fault ends =
        let cut = cut_at is_line_feed rest end is in
        let found : IsFaulty (text ++ take (end + 1) rest) fault =
        rw cut.taken (faulty_whole (take end rest) (get_or rest end 0) fault cut.clear cut.breaks ends) in
        let whole : (text ++ take (end + 1) rest) ++ drop (end + 1) rest ≡ text ++ rest =
        append_assoc text _ _ ∙ ap (λ part. text ++ part) (take-append-drop (end + 1) rest) in
        subst (λ t. IsFaulty t fault) whole (faulty_more (text ++ take (end + 1) rest) (drop (end + 1) rest) fault found)
