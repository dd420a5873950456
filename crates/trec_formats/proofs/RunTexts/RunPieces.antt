-- A run read up to a byte, and one more stretch of it.
use Rattle.std.proofs.Common.{◌≡◌, ◌+◌, inr, ℕ, Bool, true, false, not, List, [], ◌∷◌, ◌++◌, refl, sym, ◌∙◌, ap, subst, append_assoc}
use Rattle.std.specs.Prelude.{◌||◌}
use Rattle.std.specs.List.{list_all, slice_split, onto_first}
use Rattle.std.proofs.lemmas.List.{append-nil}
use Rattle.std.proofs.lemmas.List.Folds.{list_all-append}
use Rattle.std.proofs.lemmas.Bool.{not-true, and_parts}
use Rattle.trec_formats.specs.declared.runs.run_fields.KeptLine.{KeptLine}
use Rattle.trec_formats.specs.declared.runs.run_reader.Ended.{Ended}
use Rattle.trec_formats.specs.declared.faults.FormatFault.{FormatFault}
use Rattle.trec_formats.specs.Faults.{IsFirstFault}
use Rattle.trec_formats.specs.Lines.{Row, is_filled, is_white_space, fields_of, lines_of, rows_from, rows_of, is_line_feed}
use Rattle.trec_formats.specs.RunFormat.RunFields.{kept_field, kept_fields, empty_line, with_part}
use Rattle.trec_formats.specs.RunFormat.RunStates.{is_break, row_if, AreEnded, IsFaultBehind, IsFaulty, IsGoing, IsInHand}
use Rattle.trec_formats.specs.RunFormat.Runs.{AreRunLines, IsRunFault}
use Rattle.trec_formats.proofs.RunTexts.KeptFields.{kept_more, kept_fields-part}
use Rattle.trec_formats.proofs.LineTexts.Pieces.{split-yes, split-grows}
use Rattle.trec_formats.proofs.RunTexts.RunFormat.{next_line}

-- no byte of a stretch ends a field
abbrev pub is_solid_part : List ℕ → Bool
is_solid_part part = list_all (λ b. not (is_break b)) part

-- no byte of a stretch ends a line
abbrev pub is_on_line : List ℕ → Bool
is_on_line part = list_all (λ b. not (is_line_feed b)) part

neither : (s t : Bool) → not (s || t) ≡ true → (s ≡ false) × (t ≡ false)
neither true t is = cc is
neither false true is = cc is
neither false false is = (refl, refl)

on_line : (part : List ℕ) → is_solid_part part ≡ true → is_on_line part ≡ true
on_line [] solid = refl
on_line (b ∷ part) solid =
    let p = and_parts (not (is_break b)) (is_solid_part part) solid in
    rw ((neither (is_white_space b) (is_line_feed b) p.0).1, on_line part p.1) refl

split_part : (part bytes : List ℕ) (front : List (List ℕ)) (last : List ℕ) → is_solid_part part ≡ true
    → slice_split is_white_space bytes ≡ front ++ last ∷ [] → slice_split is_white_space (bytes ++ part) ≡ front ++ (last ++ part) ∷ []
split_part [] bytes front last solid cut = rw (append-nil bytes, append-nil last) cut
split_part (b ∷ part) bytes front last solid cut =
    let p = and_parts (not (is_break b)) (is_solid_part part) solid in
    let one = split-grows is_white_space bytes b front last (neither (is_white_space b) (is_line_feed b) p.0).0 cut in
    rw (← append_assoc bytes (b ∷ []) part, ← append_assoc last (b ∷ []) part) (split_part part (bytes ++ b ∷ []) front (last ++ b ∷ []) p.1 one)

-- bytes that go on with the present field
pub in_hand_part : (bytes : List ℕ) (line : KeptLine) (held part : List ℕ) → IsInHand bytes line held
    → is_solid_part part ≡ true → IsInHand (bytes ++ part) line (kept_field (held ++ part))
in_hand_part bytes line held part w solid = record {
  front = w.front;
  present = w.present ++ part;
  cut = split_part part bytes w.front w.present solid w.cut;
  one_line = list_all-append _ bytes part ∙ rw (w.one_line, on_line part solid) refl;
  line_is = w.line_is;
  held_is = ap (λ held. kept_field (held ++ part)) w.held_is ∙ kept_more w.present part;
}

-- the fields of a line whose last field ended
pub in_hand_fields : (bytes : List ℕ) (line : KeptLine) (held : List ℕ) → IsInHand bytes line held → with_part line held ≡ kept_fields (fields_of bytes)
unfolding fields_of
in_hand_fields bytes line held w =
    rw (w.line_is, w.held_is, w.cut) (sym (kept_fields-part w.front w.present))

-- white space behind the present field
pub in_hand_white : (bytes : List ℕ) (line : KeptLine) (held : List ℕ) (b : ℕ) → IsInHand bytes line held → is_white_space b ≡ true
    → is_line_feed b ≡ false → IsInHand (bytes ++ b ∷ []) (with_part line held) []
in_hand_white bytes line held b w white line_feed = record {
  front = w.front ++ w.present ∷ [];
  present = [];
  cut = split-yes is_white_space bytes b white ∙ ap (λ parts. parts ++ [] ∷ []) w.cut;
  one_line = list_all-append _ bytes (b ∷ []) ∙ rw (w.one_line, line_feed) refl;
  line_is = rw (w.line_is, w.held_is) (sym (kept_fields-part w.front w.present));
  held_is = refl;
}

pub in_hand_none : IsInHand [] empty_line []
in_hand_none = record { front = []; present = []; cut = refl; one_line = refl; line_is = refl; held_is = refl }

lines_of-line : (bytes : List ℕ) (b : ℕ) (more : List ℕ) → is_on_line bytes ≡ true → is_line_feed b ≡ true
    → lines_of (bytes ++ b ∷ more) ≡ bytes ∷ lines_of more
unfolding lines_of
lines_of-line [] b more on is = rw is refl
lines_of-line (c ∷ bytes) b more on is =
    let p = and_parts (not (is_line_feed c)) (is_on_line bytes) on in
    rw (not-true (is_line_feed c) p.0) (ap (onto_first c) (lines_of-line bytes b more p.1 is))

rows_from-step : (number : ℕ) (line : List ℕ) (lines : List (List ℕ)) (t : Bool) → is_filled (fields_of line) ≡ t
    → rows_from number (line ∷ lines) ≡ row_if number (fields_of line) ++ rows_from (number + 1) lines
unfolding rows_from
rows_from-step number line lines true is = rw is refl
rows_from-step number line lines false is = rw is refl

rows_from-cons : (number : ℕ) (line : List ℕ) (lines : List (List ℕ))
    → rows_from number (line ∷ lines) ≡ row_if number (fields_of line) ++ rows_from (number + 1) lines
rows_from-cons number line lines = rows_from-step number line lines (is_filled (fields_of line)) refl

-- a line that ends
pub rows_line : (number : ℕ) (bytes : List ℕ) (b : ℕ) (more : List ℕ) → is_on_line bytes ≡ true → is_line_feed b ≡ true
    → rows_from number (lines_of (bytes ++ b ∷ more)) ≡ row_if number (fields_of bytes) ++ rows_from (number + 1) (lines_of more)
rows_line number bytes b more on is = ap (rows_from number) (lines_of-line bytes b more on is) ∙ rows_from-cons number bytes (lines_of more)

lines_of-alone : (b : ℕ) (bytes : List ℕ) → is_on_line (b ∷ bytes) ≡ true → lines_of (b ∷ bytes) ≡ (b ∷ bytes) ∷ []
unfolding lines_of
lines_of-alone b [] on =
    let p = and_parts (not (is_line_feed b)) true on in
    rw (not-true (is_line_feed b) p.0) refl
lines_of-alone b (c ∷ bytes) on =
    let p = and_parts (not (is_line_feed b)) (is_on_line (c ∷ bytes)) on in
    let other : is_line_feed b ≡ false = not-true (is_line_feed b) p.0 in
    let more : lines_of (b ∷ c ∷ bytes) ≡ onto_first b (lines_of (c ∷ bytes)) = rw other refl in
    more ∙ ap (onto_first b) (lines_of-alone c bytes p.1)

rows_none : (number : ℕ) → rows_from number (lines_of []) ≡ []
unfolding rows_from lines_of
rows_none number = refl

no_row : (number : ℕ) → row_if number (fields_of []) ≡ []
unfolding fields_of
no_row number = refl

rows_from-nil : (number : ℕ) → rows_from number [] ≡ []
unfolding rows_from
rows_from-nil number = refl

-- a last line without its end
pub rows_last : (number : ℕ) (bytes : List ℕ) → is_on_line bytes ≡ true → rows_from number (lines_of bytes) ≡ row_if number (fields_of bytes)
rows_last number [] on = rows_none number ∙ sym (no_row number)
rows_last number (b ∷ bytes) on =
    ap (rows_from number) (lines_of-alone b bytes on) ∙ rows_from-cons number (b ∷ bytes) []
    ∙ ap (λ rows. row_if number (fields_of (b ∷ bytes)) ++ rows) (rows_from-nil (number + 1)) ∙ append-nil _

-- a text that goes on with the present field
pub going_part : (text : List ℕ) (ended : Ended) (line : KeptLine) (held part : List ℕ) → IsGoing text ended line held
    → is_solid_part part ≡ true → IsGoing (text ++ part) ended line (kept_field (held ++ part))
going_part text ended line held part w solid = record {
  done = w.done;
  bytes = w.bytes ++ part;
  rows = λ more. ap rows_of (append_assoc text part more) ∙ w.rows (part ++ more)
      ∙ ap (λ bytes. w.done ++ rows_from (ended.number + 1) (lines_of bytes)) (sym (append_assoc w.bytes part more));
  whole = w.whole;
  in_hand = in_hand_part w.bytes line held part w.in_hand solid;
}

-- a text that goes on with white space
pub going_white : (text : List ℕ) (ended : Ended) (line : KeptLine) (held : List ℕ) (b : ℕ) → IsGoing text ended line held
    → is_white_space b ≡ true → is_line_feed b ≡ false → IsGoing (text ++ b ∷ []) ended (with_part line held) []
going_white text ended line held b w white line_feed = record {
  done = w.done;
  bytes = w.bytes ++ b ∷ [];
  rows = λ more. ap rows_of (append_assoc text (b ∷ []) more) ∙ w.rows (b ∷ more)
      ∙ ap (λ bytes. w.done ++ rows_from (ended.number + 1) (lines_of bytes)) (sym (append_assoc w.bytes (b ∷ []) more));
  whole = w.whole;
  in_hand = in_hand_white w.bytes line held b w.in_hand white line_feed;
}

rows_behind : (text : List ℕ) (ended : Ended) (line : KeptLine) (held : List ℕ) (b : ℕ) (w : IsGoing text ended line held) → is_line_feed b ≡ true
    → (more : List ℕ)
    → rows_of ((text ++ b ∷ []) ++ more) ≡ w.done ++ row_if (ended.number + 1) (fields_of w.bytes) ++ rows_from (ended.number + 1 + 1) (lines_of more)
rows_behind text ended line held b w is more =
    ap rows_of (append_assoc text (b ∷ []) more) ∙ w.rows (b ∷ more)
    ∙ ap (λ rows. w.done ++ rows) (rows_line (ended.number + 1) w.bytes b more w.in_hand.one_line is)
    ∙ sym (append_assoc w.done (row_if (ended.number + 1) (fields_of w.bytes)) (rows_from (ended.number + 1 + 1) (lines_of more)))

-- what a line that ends adds to the lines before it
abbrev pub EndsLine : Ended → KeptLine → Ended → Type 0
EndsLine old line new = (done : List Row) (fields : List (List ℕ)) → AreEnded done old → line ≡ kept_fields fields
    → AreEnded (done ++ row_if (old.number + 1) fields) new

-- what a line that ends is, where it has a fault
abbrev pub EndsFaulty : Ended → KeptLine → FormatFault → Type 0
EndsFaulty old line fault = (done : List Row) (fields : List (List ℕ)) → AreEnded done old → line ≡ kept_fields fields
    → IsFaultBehind done (row_if (old.number + 1) fields) fault

-- a text that goes on with the end of its line
pub going_line : (text : List ℕ) (ended : Ended) (line : KeptLine) (held : List ℕ) (b : ℕ) (new : Ended) → IsGoing text ended line held
    → is_line_feed b ≡ true → EndsLine ended (with_part line held) new → new.number ≡ ended.number + 1 → IsGoing (text ++ b ∷ []) new empty_line []
going_line text ended line held b new w is ends number = record {
  done = w.done ++ row_if (ended.number + 1) (fields_of w.bytes);
  bytes = [];
  rows = λ more. rows_behind text ended line held b w is more
      ∙ ap (λ n. w.done ++ row_if (ended.number + 1) (fields_of w.bytes) ++ rows_from (n + 1) (lines_of more)) (sym number);
  whole = ends w.done (fields_of w.bytes) w.whole (in_hand_fields w.bytes line held w.in_hand);
  in_hand = in_hand_none;
}

-- a line that ends with a fault
pub faulty_line : (text : List ℕ) (ended : Ended) (line : KeptLine) (held : List ℕ) (b : ℕ) (fault : FormatFault) → IsGoing text ended line held
    → is_line_feed b ≡ true → EndsFaulty ended (with_part line held) fault → IsFaulty (text ++ b ∷ []) fault
faulty_line text ended line held b fault w is ends more =
    let found = ends w.done (fields_of w.bytes) w.whole (in_hand_fields w.bytes line held w.in_hand) (rows_from (ended.number + 1 + 1) (lines_of more)) in
    inr (subst (λ rows. IsFirstFault AreRunLines next_line rows fault) (sym (rows_behind text ended line held b w is more)) found)

-- a fault outlives the text
pub faulty_more : (text more : List ℕ) (fault : FormatFault) → IsFaulty text fault → IsFaulty (text ++ more) fault
faulty_more text more fault w rest = subst (λ text. IsRunFault text fault) (sym (append_assoc text more rest)) (w (more ++ rest))

-- the end of a text
pub rows_at_end : (text : List ℕ) (ended : Ended) (line : KeptLine) (held : List ℕ) (w : IsGoing text ended line held)
    → rows_of text ≡ w.done ++ row_if (ended.number + 1) (fields_of w.bytes)
rows_at_end text ended line held w =
    let none : rows_of text ≡ w.done ++ rows_from (ended.number + 1) (lines_of (w.bytes ++ [])) = ap rows_of (sym (append-nil text)) ∙ w.rows [] in
    none ∙ ap (λ bytes. w.done ++ rows_from (ended.number + 1) (lines_of bytes)) (append-nil w.bytes)
    ∙ ap (λ rows. w.done ++ rows) (rows_last (ended.number + 1) w.bytes w.in_hand.one_line)
