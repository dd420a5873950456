-- What a reader keeps of the fields of a line tells what the line says.
use Rattle.std.proofs.Common.{◌≡◌, ◌≤◌, ◌<◌, ◌+◌, ℕ, zero, suc, Bool, true, false, List, [], ◌∷◌, ◌++◌, length, take, map, filter, refl, sym, ◌∙◌, ap, arith, Err, Result, ltb}
use Rattle.std.specs.Prelude.{if◌then◌else◌}
use Rattle.std.specs.List.{fold}
use Rattle.std.proofs.lemmas.List.{append-nil, length-append, map-append, take_all, length-take, length-take-le}
use Rattle.std.proofs.Math.Seq.{take-append-add}
use Rattle.std.proofs.lemmas.List.Elements.{filter-append}
use Rattle.std.proofs.lemmas.List.Sums.{fold-append}
use Rattle.std.proofs.lemmas.Bool.{ltb-true, ltb-false}
use Rattle.decimal_rank.specs.Decimals.DecimalText.{decimal_of}
use Rattle.decimal_rank.specs.declared.decimals.DecimalFault.TheVariants as causes
use Rattle.trec_formats.specs.declared.runs.run_fields.KeptLine.{KeptLine}
use Rattle.trec_formats.specs.declared.runs.RunLine.{RunLine}
use Rattle.trec_formats.specs.declared.faults.Kind.{Kind}
use Rattle.trec_formats.specs.declared.faults.Kind.TheVariants.{Topic, Docno}
use Rattle.trec_formats.specs.Lines.{is_filled}
use Rattle.trec_formats.specs.Names.{is_name, is_docno}
use Rattle.trec_formats.specs.RunFormat.RunFields.{kept_field, empty_line, with_field, with_part, kept_fields, line_of}
use Rattle.trec_formats.specs.RunFormat.Runs.{run_of, scored}

take_again : (n : ℕ) (xs ys : List ℕ) → take n (take n xs ++ ys) ≡ take n (xs ++ ys)
take_again zero xs ys = refl
take_again (suc n) [] ys = refl
take_again (suc n) (x ∷ xs) ys = ap (λ more. x ∷ more) (take_again n xs ys)

-- what is kept of a field goes on as the field does
pub kept_more : (xs ys : List ℕ) → kept_field (kept_field xs ++ ys) ≡ kept_field (xs ++ ys)
kept_more xs ys = take_again 401 xs ys

pub kept_few : (xs : List ℕ) → length (kept_field xs) ≤ 401
kept_few xs = omega (arith, length-take 401 xs)

-- a field of which the kept bytes have room
pub holds_all : (xs ys : List ℕ) → length xs + length ys ≤ 401 → xs ++ ys ≡ kept_field (xs ++ ys)
holds_all xs ys room = sym (take_all 401 (xs ++ ys) (omega (arith, length-append xs ys, room)))

-- a field of which so many more bytes are kept
pub holds_some : (xs ys : List ℕ) (room : ℕ) → length xs + room ≡ 401 → xs ++ take room ys ≡ kept_field (xs ++ ys)
holds_some xs ys room is = sym (take-append-add xs ys room) ∙ ap (λ n. take n (xs ++ ys)) is

pub kept_fields-push : (fields : List (List ℕ)) (field : List ℕ) → kept_fields (fields ++ field ∷ []) ≡ with_field (kept_fields fields) (kept_field field)
kept_fields-push fields field = ap (fold with_field empty_line) (map-append kept_field fields (field ∷ []))
    ∙ fold-append with_field empty_line (map kept_field fields) (kept_field field ∷ [])

-- the present field is one of the line's where it has a byte
pub kept_fields-part : (front : List (List ℕ)) (present : List ℕ)
    → kept_fields (filter is_filled (front ++ present ∷ [])) ≡ with_part (kept_fields (filter is_filled front)) (kept_field present)
kept_fields-part front [] = ap kept_fields (filter-append is_filled front ([] ∷ []) ∙ append-nil (filter is_filled front))
kept_fields-part front (b ∷ present) =
    ap kept_fields (filter-append is_filled front ((b ∷ present) ∷ [])) ∙ kept_fields-push (filter is_filled front) (b ∷ present)

too_many : (line : KeptLine) (fields : List (List ℕ)) → line.count ≡ 7 → (fold with_field line fields).count ≡ 7
too_many line [] seven = seven
too_many line (field ∷ fields) seven = too_many (with_field line field) fields (rw seven refl)

has_some_step : (line : KeptLine) (field : List ℕ) (t : Bool) → ltb line.count 7 ≡ t → 0 < line.count → 0 < (with_field line field).count
has_some_step line field true is some = rw is (omega (arith, some))
has_some_step line field false is some = rw is some

has_some : (line : KeptLine) (fields : List (List ℕ)) → 0 < line.count → 0 < (fold with_field line fields).count
has_some line [] some = some
has_some line (field ∷ fields) some = has_some (with_field line field) fields (has_some_step line field (ltb line.count 7) refl some)

-- a line without a field
pub no_fields : (fields : List (List ℕ)) → (kept_fields fields).count ≡ 0 → fields ≡ []
no_fields [] none = refl
no_fields (field ∷ fields) none = absurd (omega (arith, none, has_some (with_field empty_line (kept_field field)) (map kept_field fields) (omega arith)))

-- a field is kept whole, or it has more bytes than are kept
module _ {X : Type 0} (f : List ℕ → X) (long : (text : List ℕ) → 401 ≤ length text → f text ≡ f (take 401 text)) where
  same_step : (text : List ℕ) (t : Bool) → ltb (length text) 401 ≡ t → f (kept_field text) ≡ f text
  same_step text true is = ap f (take_all 401 text (omega (arith, ltb-true _ _ is)))
  same_step text false is = sym (long text (ltb-false _ _ is))

  pub same_kept : (text : List ℕ) → f (kept_field text) ≡ f text
  same_kept text = same_step text (ltb (length text) 401) refl

name_long : (text : List ℕ) → 401 ≤ length text → is_name text ≡ false
unfolding is_name
name_long text long = grind arith

docno_long : (text : List ℕ) → 401 ≤ length text → is_docno text ≡ false
unfolding is_docno
docno_long text long = grind arith

decimal_long : (text : List ℕ) → 401 ≤ length text → decimal_of text ≡ Err causes.Shape
unfolding decimal_of
decimal_long text long = grind arith

kept_length : (text : List ℕ) → 401 ≤ length text → 401 ≤ length (take 401 text)
kept_length text long = omega (arith, length-take-le 401 text long)

name_kept : (text : List ℕ) → is_name (kept_field text) ≡ is_name text
name_kept = same_kept is_name (λ text long. name_long text long ∙ sym (name_long (take 401 text) (kept_length text long)))

docno_kept : (text : List ℕ) → is_docno (kept_field text) ≡ is_docno text
docno_kept = same_kept is_docno (λ text long. docno_long text long ∙ sym (docno_long (take 401 text) (kept_length text long)))

decimal_kept : (text : List ℕ) → decimal_of (kept_field text) ≡ decimal_of text
decimal_kept = same_kept decimal_of (λ text long. decimal_long text long ∙ sym (decimal_long (take 401 text) (kept_length text long)))

whole_step : (text : List ℕ) (t : Bool) → ltb (length text) 401 ≡ t → (401 ≤ length text → ⊥) → kept_field text ≡ text
whole_step text true is short = take_all 401 text (omega (arith, ltb-true _ _ is))
whole_step text false is short = absurd (short (ltb-false _ _ is))

name_whole : (text : List ℕ) → is_name text ≡ true → kept_field text ≡ text
name_whole text is = whole_step text (ltb (length text) 401) refl (λ long. cc (is, name_long text long))

docno_whole : (text : List ℕ) → is_docno text ≡ true → kept_field text ≡ text
docno_whole text is = whole_step text (ltb (length text) 401) refl (λ long. cc (is, docno_long text long))

six_step : (n : ℕ) (topic doc score : List ℕ) (named numbered : Bool) → is_name topic ≡ named → is_docno doc ≡ numbered → ◌≡◌ {A = Result RunLine Kind}
    (if named then (if numbered then scored n (kept_field topic) (kept_field doc) (decimal_of score) else Err Docno) else Err Topic)
    (if named then (if numbered then scored n topic doc (decimal_of score) else Err Docno) else Err Topic)
six_step n topic doc score true true named numbered = rw (name_whole topic named, docno_whole doc numbered) refl
six_step n topic doc score true false named numbered = refl
six_step n topic doc score false numbered named is = refl

-- what is kept of the fields says what they say
pub line_of-kept : (n : ℕ) (fields : List (List ℕ)) → line_of n (kept_fields fields) ≡ run_of (n, fields)
unfolding run_of
line_of-kept n [] = refl
line_of-kept n (a ∷ []) = refl
line_of-kept n (a ∷ b ∷ []) = refl
line_of-kept n (a ∷ b ∷ c ∷ []) = refl
line_of-kept n (a ∷ b ∷ c ∷ d ∷ []) = refl
line_of-kept n (a ∷ b ∷ c ∷ d ∷ e ∷ []) = refl
line_of-kept n (a ∷ b ∷ c ∷ d ∷ e ∷ f ∷ []) = rw (name_kept a, docno_kept c, decimal_kept e) (six_step n a c e (is_name a) (is_docno c) refl refl)
line_of-kept n (a ∷ b ∷ c ∷ d ∷ e ∷ f ∷ g ∷ more) = rw (too_many (kept_fields (a ∷ b ∷ c ∷ d ∷ e ∷ f ∷ g ∷ [])) (map kept_field more) refl) refl
