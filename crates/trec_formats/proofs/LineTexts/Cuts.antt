-- The first line of a text, and the first field of a line.
use Rattle.std.proofs.Common.{◌≡◌, ◌==◌, ◌+◌, ◌<◌, ◌≤◌, ℕ, suc, Bool, true, false, not, List, [], ◌∷◌, length, take, drop, filter, get_or, refl, sym, ◌∙◌, ap, arith, Option, Some, None, position, cond, is_some, ltb, ltb-true, ltb-false}
use Rattle.std.proofs.lemmas.List.{drop_all, drop_more, nil_from_length}
use Rattle.std.specs.List.{position_or_len, slice_split, onto_first}
use Rattle.std.proofs.lemmas.List.Splits.{slice_split-cons_yes, slice_split-cons_no, slice_split_none, slice_split_first}
use Rattle.std.proofs.lemmas.List.Sums.{passes_at_first, fails_before_first}
use Rattle.std.proofs.lemmas.Bool.{not-true, eqb-true}
use Rattle.std.proofs.lemmas.Option.{cond_some}
use Rattle.trec_formats.specs.Lines.{is_white_space, is_filled, is_line_feed, lines_of, fields_of, rows_from}

abbrev pub is_solid : ℕ → Bool
is_solid b = not (is_white_space b)

-- the list is cut behind its first n elements, and the next m are left out
abbrev parts_at : ℕ → ℕ → List ℕ → List (List ℕ)
parts_at n m text = take n text ∷ lines_of (drop m text)

parts_at-cons : (b : ℕ) (bytes : List ℕ) (k n m : ℕ) → n ≡ suc k → m ≡ suc (k + 1) → onto_first b (parts_at k (k + 1) bytes) ≡ parts_at n m (b ∷ bytes)
parts_at-cons b bytes k n m first second = rw (first, second) refl

abbrev CutsFirstLine : List ℕ → Type 0
CutsFirstLine text = lines_of text ≡ parts_at (position_or_len is_line_feed text) (position_or_len is_line_feed text + 1) text

first_line_step : (b : ℕ) (bytes : List ℕ) (t : Bool) → (is_line_feed b) ≡ t → (position_or_len is_line_feed bytes < length bytes → CutsFirstLine bytes)
    → position_or_len is_line_feed (b ∷ bytes) < length (b ∷ bytes) → CutsFirstLine (b ∷ bytes)
unfolding lines_of
first_line_step b bytes true is below within = rw is refl
first_line_step b bytes false is below within =
    let k : ℕ = position_or_len is_line_feed bytes in
    let here : position_or_len is_line_feed (b ∷ bytes) ≡ suc k = rw is (omega arith) in
    let less : k < length bytes = omega (arith, here, within) in
    let more : lines_of (b ∷ bytes) ≡ onto_first b (lines_of bytes) = rw is refl in
    more ∙ ap (onto_first b) (below less) ∙ parts_at-cons b bytes k _ _ here (omega (arith, here))

first_line : (text : List ℕ) → position_or_len is_line_feed text < length text → CutsFirstLine text
first_line [] within = absurd (omega (arith, within))
first_line (b ∷ bytes) within = first_line_step b bytes (is_line_feed b) refl (first_line bytes) within

-- a text that is cut at its first line feed
pub lines_of-cut : (text : List ℕ) (end : ℕ) → Some end ≡ position is_line_feed text → lines_of text ≡ take end text ∷ lines_of (drop (end + 1) text)
lines_of-cut text end is =
    let p = cond_some _ _ _ (sym is) in
    rw (← p.1) (first_line text (ltb-true _ _ p.0))

none_step : (p : ℕ → Bool) (b : ℕ) (bytes : List ℕ) (t : Bool) → p b ≡ t → length (b ∷ bytes) ≤ position_or_len p (b ∷ bytes)
    → (t ≡ false) × (length bytes ≤ position_or_len p bytes)
none_step p b bytes true is past = absurd (omega (arith, rw is at past))
none_step p b bytes false is past = (refl, omega (arith, rw is at past))

pub lines_of-nil : lines_of [] ≡ []
unfolding lines_of
lines_of-nil = refl

last_line : (b : ℕ) (bytes : List ℕ) → length (b ∷ bytes) ≤ position_or_len is_line_feed (b ∷ bytes) → lines_of (b ∷ bytes) ≡ (b ∷ bytes) ∷ []
unfolding lines_of
last_line b [] past = rw (none_step is_line_feed b [] (is_line_feed b) refl past).0 refl
last_line b (next ∷ bytes) past =
    let p = none_step is_line_feed b (next ∷ bytes) (is_line_feed b) refl past in
    let more : lines_of (b ∷ next ∷ bytes) ≡ onto_first b (lines_of (next ∷ bytes)) = rw p.0 refl in
    more ∙ ap (onto_first b) (last_line next bytes p.1)

none_cases : (p : ℕ → Bool) (xs : List ℕ) (t : Bool) → ltb (position_or_len p xs) (length xs) ≡ t
    → cond t (Some (position_or_len p xs)) None ≡ None → length xs ≤ position_or_len p xs
none_cases p xs true is none = cc
none_cases p xs false is none = ltb-false _ _ is

pub none_past : (p : ℕ → Bool) (xs : List ℕ) → None ≡ position p xs → length xs ≤ position_or_len p xs
none_past p xs is = none_cases p xs (ltb (position_or_len p xs) (length xs)) refl (sym is)

-- a text without a line feed
pub lines_of-none : (text : List ℕ) → 0 < length text → None ≡ position is_line_feed text → lines_of text ≡ text ∷ []
lines_of-none [] some is = absurd (omega (arith, some))
lines_of-none (b ∷ bytes) some is = last_line b bytes (none_past is_line_feed (b ∷ bytes) is)

-- white space in front of a line
pub fields_of-white : (b : ℕ) (bytes : List ℕ) → is_white_space b ≡ true → fields_of (b ∷ bytes) ≡ fields_of bytes
unfolding fields_of
fields_of-white b bytes white = ap (filter is_filled) (slice_split-cons_yes is_white_space b bytes white)

solid_step : (b : ℕ) (bytes : List ℕ) (t : Bool) → is_white_space b ≡ t → fields_of bytes ≡ fields_of (drop (position_or_len is_solid bytes) bytes)
    → fields_of (b ∷ bytes) ≡ fields_of (drop (position_or_len is_solid (b ∷ bytes)) (b ∷ bytes))
solid_step b bytes true is rest =
    let here : position_or_len is_solid (b ∷ bytes) ≡ suc (position_or_len is_solid bytes) = rw is (omega arith) in
    fields_of-white b bytes is ∙ rest ∙ ap (λ n. fields_of (drop n (b ∷ bytes))) (sym here)
solid_step b bytes false is rest =
    let here : position_or_len is_solid (b ∷ bytes) ≡ 0 = rw is refl in
    ap (λ n. fields_of (drop n (b ∷ bytes))) (sym here)

-- the white space in front of the first field
from_solid : (line : List ℕ) → fields_of line ≡ fields_of (drop (position_or_len is_solid line) line)
from_solid [] = refl
from_solid (b ∷ bytes) = solid_step b bytes (is_white_space b) refl (from_solid bytes)

fields_of-nil : fields_of [] ≡ []
unfolding fields_of
fields_of-nil = refl

-- a line of white space alone
pub fields_of-none : (line : List ℕ) → None ≡ position is_solid line → fields_of line ≡ []
fields_of-none line is = from_solid line ∙ ap fields_of (drop_all _ line (none_past is_solid line is)) ∙ fields_of-nil

-- a line from its first field on
record BeginsSolid (line : List ℕ) (start : ℕ) : Type 0 where
  first : ℕ
  rest : List ℕ
  cut : drop start line ≡ first ∷ rest
  solid : is_solid first ≡ true
  same : fields_of line ≡ fields_of (drop start line)

begins_solid : (line : List ℕ) (start : ℕ) → Some start ≡ position is_solid line → BeginsSolid line start
begins_solid line start is =
    let p = cond_some _ _ _ (sym is) in
    let less : position_or_len is_solid line < length line = ltb-true _ _ p.0 in
    rw (← p.1) (record {
      first = get_or line (position_or_len is_solid line) 0;
      rest = drop (position_or_len is_solid line + 1) line;
      cut = drop_more line (position_or_len is_solid line) 0 less;
      solid = passes_at_first is_solid line 0 less;
      same = from_solid line;
    })

-- a line that begins with its first field
pub cut_solid : (b : ℕ) (bytes : List ℕ) → is_solid b ≡ true → (end : ℕ) → Some end ≡ position is_white_space (b ∷ bytes)
    → fields_of (b ∷ bytes) ≡ take end (b ∷ bytes) ∷ fields_of (drop (end + 1) (b ∷ bytes))
unfolding fields_of
cut_solid b bytes solid end is =
    let p = cond_some _ _ _ (sym is) in
    let parts = slice_split_first is_white_space (b ∷ bytes) b (ltb-true _ _ p.0) in
    let here : position_or_len is_white_space (b ∷ bytes) ≡ suc (position_or_len is_white_space bytes) = rw solid (omega arith) in
    let end_is : end ≡ suc (position_or_len is_white_space bytes) = sym p.1 ∙ here in
    ap (filter is_filled) parts ∙ rw (p.1, end_is) refl

last_solid : (b : ℕ) (bytes : List ℕ) → None ≡ position is_white_space (b ∷ bytes) → fields_of (b ∷ bytes) ≡ (b ∷ bytes) ∷ []
unfolding fields_of
last_solid b bytes is =
    ap (filter is_filled)
    (slice_split_none is_white_space (b ∷ bytes)
    (λ k d within. fails_before_first is_white_space (b ∷ bytes) k d (omega (arith, within, none_past is_white_space (b ∷ bytes) is))))

filled_onto : (b : ℕ) (parts : List (List ℕ)) → is_filled (filter is_filled (onto_first b parts)) ≡ true
filled_onto b [] = refl
filled_onto b (part ∷ parts) = refl

pub filled_solid : (b : ℕ) (bytes : List ℕ) → is_white_space b ≡ false → is_filled (fields_of (b ∷ bytes)) ≡ true
unfolding fields_of
filled_solid b bytes solid =
    ap (λ parts. is_filled (filter is_filled parts)) (slice_split-cons_no is_white_space b bytes solid) ∙ filled_onto b (slice_split is_white_space bytes)

-- the first field, where white space follows it
pub fields_of-cut : (line : List ℕ) (start end : ℕ) → Some start ≡ position is_solid line → Some end ≡ position is_white_space (drop start line)
    → fields_of line ≡ take end (drop start line) ∷ fields_of (drop (end + 1) (drop start line))
fields_of-cut line start end begins ends =
    let w = begins_solid line start begins in
    w.same ∙ rw w.cut (cut_solid w.first w.rest w.solid end (rw w.cut at ends))

-- the first field, where the line ends with it
pub fields_of-last : (line : List ℕ) (start : ℕ) → Some start ≡ position is_solid line → None ≡ position is_white_space (drop start line)
    → fields_of line ≡ drop start line ∷ fields_of []
fields_of-last line start begins ends =
    let w = begins_solid line start begins in
    w.same ∙ rw (w.cut, fields_of-nil) (last_solid w.first w.rest (rw w.cut at ends))

filled_cases : (line : List ℕ) (o : Option ℕ) → o ≡ position is_solid line → is_some o ≡ is_filled (fields_of line)
filled_cases line None is = rw (fields_of-none line is) refl
filled_cases line (Some start) is =
    let w = begins_solid line start is in
    rw (w.same, w.cut, filled_solid w.first w.rest (not-true _ w.solid)) refl

-- whether a line has a field
pub is_filled-fields_of : (line : List ℕ) → is_some (position is_solid line) ≡ is_filled (fields_of line)
is_filled-fields_of line = filled_cases line (position is_solid line) refl

-- a text behind so many lines, and what is left of it behind some more, none of which has a field
pub record Skips (before : ℕ) (text : List ℕ) (number : ℕ) (rest : List ℕ) : Type 0 where
  pub rows : rows_from (before + 1) (lines_of text) ≡ rows_from (number + 1) (lines_of rest)
  pub fits : number + length rest ≤ before + length text
  pub shorter : length rest ≤ length text

pub rows_from-nil : (number : ℕ) → rows_from number (lines_of []) ≡ []
unfolding rows_from lines_of
rows_from-nil number = refl

pub rows_from-cut : (number : ℕ) (text line rest : List ℕ) (filled : Bool) → lines_of text ≡ line ∷ lines_of rest → filled ≡ is_filled (fields_of line)
    → rows_from number (lines_of text)
    ≡ cond filled ((number, fields_of line) ∷ rows_from (number + 1) (lines_of rest)) (rows_from (number + 1) (lines_of rest))
unfolding rows_from
rows_from-cut number text line rest filled cut is = rw (cut, is) refl

pub skips : (before : ℕ) (text : List ℕ) (number : ℕ) (rest line after : List ℕ) (filled : Bool) → Skips before text number rest → lines_of rest
    ≡ line ∷ lines_of after → length after < length rest → filled ≡ is_filled (fields_of line) → filled ≡ false → Skips before text (number + 1) after
skips before text number rest line after filled w cut less is white = record {
  rows = w.rows ∙ rows_from-cut (number + 1) rest line after filled cut is ∙ rw white refl;
  fits = omega (arith, w.fits, less);
  shorter = omega (arith, w.shorter, less);
}

pub row_there : (before : ℕ) (text : List ℕ) (number : ℕ) (rest line after : List ℕ) (filled : Bool) → Skips before text number rest
    → lines_of rest ≡ line ∷ lines_of after → filled ≡ is_filled (fields_of line) → filled ≡ true
    → rows_from (before + 1) (lines_of text) ≡ (number + 1, fields_of line) ∷ rows_from (number + 1 + 1) (lines_of after)
row_there before text number rest line after filled w cut is there = w.rows ∙ rows_from-cut (number + 1) rest line after filled cut is ∙ rw there refl

pub no_row : (before : ℕ) (text : List ℕ) (number : ℕ) (rest : List ℕ) → Skips before text number rest
    → (length rest == 0) ≡ true → rows_from (before + 1) (lines_of text) ≡ []
no_row before text number rest w zero = w.rows ∙ rw (nil_from_length rest (eqb-true _ _ zero)) (rows_from-nil (number + 1))
