-- A stretch of a run up to the next end of a field.
use Rattle.std.proofs.Common.{◌≡◌, ◌≢◌, ◌<◌, ◌+◌, ℕ, suc, Bool, true, false, List, [], ◌∷◌, ◌++◌, length, take, drop, get_or, refl, sym, ◌∙◌, ap, subst, arith, Some, None, position, ltb-true, append_assoc}
use Rattle.std.specs.Prelude.{◌||◌, not}
use Rattle.std.specs.List.{list_all, position_or_len}
use Rattle.std.proofs.lemmas.Bool.{eq-eqb, ne_eqb}
use Rattle.std.proofs.lemmas.List.{take_all, take_more, take-append-drop}
use Rattle.std.proofs.lemmas.List.Sums.{passes_at_first}
use Rattle.std.proofs.lemmas.Option.{cond_some}
use Rattle.trec_formats.specs.declared.faults.FormatFault.{FormatFault}
use Rattle.trec_formats.specs.declared.runs.run_fields.KeptLine.{KeptLine}
use Rattle.trec_formats.specs.declared.runs.run_reader.Ended.{Ended}
use Rattle.trec_formats.specs.Lines.{is_white_space, is_line_feed}
use Rattle.trec_formats.specs.RunFormat.RunFields.{kept_field, empty_line, with_part}
use Rattle.trec_formats.specs.RunFormat.RunStates.{is_break, IsFaulty, IsGoing}
use Rattle.trec_formats.proofs.LineTexts.Cuts.{none_past}
use Rattle.trec_formats.proofs.RunTexts.RunPieces.{EndsFaulty, EndsLine, faulty_line, faulty_more, going_line, going_part, going_white, is_solid_part}

-- a stretch up to the first byte of a kind
module _ (p : ℕ → Bool) where
  abbrev has_none : List ℕ → Bool
  has_none part = list_all (λ b. not (p b)) part

  front_step : (b : ℕ) (bytes : List ℕ) (t : Bool) → p b ≡ t → has_none (take (position_or_len p bytes) bytes) ≡ true
      → has_none (take (position_or_len p (b ∷ bytes)) (b ∷ bytes)) ≡ true
  front_step b bytes true is rest = rw is refl
  front_step b bytes false is rest =
      let here : position_or_len p (b ∷ bytes) ≡ suc (position_or_len p bytes) = rw is (omega arith) in
      rw (here, is, rest) refl

  front : (bytes : List ℕ) → has_none (take (position_or_len p bytes) bytes) ≡ true
  front [] = refl
  front (b ∷ bytes) = front_step b bytes (p b) refl (front bytes)

  pub record IsCut (rest : List ℕ) (end : ℕ) : Type 0 where
    pub clear : has_none (take end rest) ≡ true
    pub inside : end < length rest
    pub breaks : p (get_or rest end 0) ≡ true
    pub taken : take (end + 1) rest ≡ take end rest ++ get_or rest end 0 ∷ []

  pub cut_at : (rest : List ℕ) (end : ℕ) → Some end ≡ position p rest → IsCut rest end
  cut_at rest end is =
      let q = cond_some _ _ _ (sym is) in
      let less : position_or_len p rest < length rest = ltb-true _ _ q.0 in
      rw (← q.1) (record {
        clear = front rest;
        inside = less;
        breaks = passes_at_first p rest 0 less;
        taken = take_more rest (position_or_len p rest) 0 less;
      })

-- a stretch in which no field ends
pub solid_whole : (rest : List ℕ) → None ≡ position is_break rest → is_solid_part rest ≡ true
solid_whole rest is = subst (λ part. is_solid_part part ≡ true) (take_all _ rest (none_past is_break rest is)) (front is_break rest)

white : (b : ℕ) (t : Bool) → is_break b ≡ true → is_line_feed b ≡ t → t ≡ false → is_white_space b ≡ true
white b true breaks is not_end = cc
white b false breaks is not_end = white_step (is_white_space b) (rw is at breaks)
  where
    white_step : (t : Bool) → (t || false) ≡ true → t ≡ true
    white_step true is = refl
    white_step false is = cc is

module _ (text : List ℕ) (ended : Ended) (line : KeptLine) (held rest : List ℕ) where
  -- no field ends
  pub step_part : (new_held : List ℕ) → None ≡ position is_break rest → new_held ≡ kept_field (held ++ rest)
      → IsGoing text ended line held → IsGoing (text ++ take (length rest) rest) ended line new_held
  step_part new_held is held_is w = rw (take_all (length rest) rest (omega arith), held_is) (going_part text ended line held rest w (solid_whole rest is))

  module _ (end : ℕ) (is : Some end ≡ position is_break rest) where
    abbrev byte : ℕ
    byte = get_or rest end 0

    abbrev part_held : List ℕ
    part_held = kept_field (held ++ take end rest)

    before : IsGoing text ended line held → IsGoing (text ++ take end rest) ended line part_held
    before w = going_part text ended line held (take end rest) w (cut_at is_break rest end is).clear

    taken : text ++ take (end + 1) rest ≡ (text ++ take end rest) ++ byte ∷ []
    taken = ap (λ part. text ++ part) (cut_at is_break rest end is).taken ∙ sym (append_assoc text (take end rest) (byte ∷ []))

    -- a field ends, and its line goes on
    pub step_white : (new_line : KeptLine) (new_held : List ℕ) → byte ≢ 10 → new_line ≡ with_part line part_held
        → new_held ≡ [] → IsGoing text ended line held → IsGoing (text ++ take (end + 1) rest) ended new_line new_held
    step_white new_line new_held other line_is held_is w =
        let not_end : is_line_feed byte ≡ false = ne_eqb _ _ other in
        rw (taken, line_is, held_is)
        (going_white (text ++ take end rest) ended line part_held byte (before w) (white byte false (cut_at is_break rest end is).breaks not_end refl) not_end)

    -- a line ends
    pub step_line : (old_line new_line : KeptLine) (new_held : List ℕ) (new : Ended) → byte ≡ 10 → old_line ≡ with_part line part_held → new_line ≡ empty_line
        → new_held ≡ [] → EndsLine ended old_line new → new.number ≡ ended.number + 1 → IsGoing text ended line held
        → IsGoing (text ++ take (end + 1) rest) new new_line new_held
    step_line old_line new_line new_held new here line_is new_is held_is line_ends number w =
        rw (taken, new_is, held_is)
        (going_line (text ++ take end rest) ended line part_held byte new (before w) (eq-eqb _ _ here) (rw line_is at line_ends) number)

    -- a line ends with a fault
    pub step_faulty : (old_line : KeptLine) (fault : FormatFault) → byte ≡ 10 → old_line ≡ with_part line part_held
        → EndsFaulty ended old_line fault → IsGoing text ended line held → IsFaulty (text ++ rest) fault
    step_faulty old_line fault here line_is line_ends w =
        let found : IsFaulty ((text ++ take end rest) ++ byte ∷ []) fault =
        faulty_line (text ++ take end rest) ended line part_held byte fault (before w) (eq-eqb _ _ here) (rw line_is at line_ends) in
        let whole : (text ++ take (end + 1) rest) ++ drop (end + 1) rest ≡ text ++ rest =
        append_assoc text _ _ ∙ ap (λ part. text ++ part) (take-append-drop (end + 1) rest) in
        subst (λ t. IsFaulty t fault) whole
        (faulty_more (text ++ take (end + 1) rest) (drop (end + 1) rest) fault (subst (λ t. IsFaulty t fault) (sym taken) found))
