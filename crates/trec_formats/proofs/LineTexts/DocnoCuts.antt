-- A docno that a line begins with ends at the first byte that isn't visible, where that is white space.
use Rattle.std.proofs.Common.{◌≡◌, ◌==◌, ◌+◌, ◌<◌, ◌≤◌, ℕ, suc, Bool, true, false, not, List, [], ◌∷◌, length, take, drop, get_or, refl, sym, ◌∙◌, ap, subst, arith, Some, None, position, ltb-true, lt-ltb, leb-true}
use Rattle.std.specs.Prelude.{nat_le}
use Rattle.std.specs.List.{list_all, position_or_len}
use Rattle.std.proofs.lemmas.List.{length-take-le}
use Rattle.std.proofs.lemmas.Option.{cond_some}
use Rattle.std.proofs.lemmas.Bool.{and_parts}
use Rattle.trec_formats.specs.Lines.{is_white_space, fields_of}
use Rattle.trec_formats.specs.Names.{is_between, is_docno}
use Rattle.trec_formats.proofs.LineTexts.Cuts.{cut_solid, is_solid}

abbrev is_seen : ℕ → Bool
is_seen b = is_between 33 126 b

abbrev is_hidden : ℕ → Bool
is_hidden b = not (is_between 33 126 b)

seen_solid : (b : ℕ) → is_seen b ≡ true → is_white_space b ≡ false
seen_solid b is = grind arith

seen_step : (b : ℕ) (bytes : List ℕ) (t : Bool) → is_seen b ≡ t → list_all is_seen (take (position_or_len is_hidden bytes) bytes) ≡ true
    → list_all is_seen (take (position_or_len is_hidden (b ∷ bytes)) (b ∷ bytes)) ≡ true
seen_step b bytes false is rest = rw is refl
seen_step b bytes true is rest =
    let here : position_or_len is_hidden (b ∷ bytes) ≡ suc (position_or_len is_hidden bytes) = rw is (omega arith) in
    rw (here, is, rest) refl

seen_front : (bytes : List ℕ) → list_all is_seen (take (position_or_len is_hidden bytes) bytes) ≡ true
seen_front [] = refl
seen_front (b ∷ bytes) = seen_step b bytes (is_seen b) refl (seen_front bytes)

abbrev IsSamePlace : List ℕ → Type 0
IsSamePlace bytes = position_or_len is_hidden bytes < length bytes → is_white_space (get_or bytes (position_or_len is_hidden bytes) 0) ≡ true
    → position_or_len is_white_space bytes ≡ position_or_len is_hidden bytes

place_step : (b : ℕ) (bytes : List ℕ) (t : Bool) → is_seen b ≡ t → IsSamePlace bytes → IsSamePlace (b ∷ bytes)
place_step b bytes true is below inside white =
    let here : position_or_len is_hidden (b ∷ bytes) ≡ suc (position_or_len is_hidden bytes) = rw is (omega arith) in
    let there : position_or_len is_white_space (b ∷ bytes) ≡ suc (position_or_len is_white_space bytes) = rw (seen_solid b is) (omega arith) in
    there ∙ ap suc (below (omega (arith, here, inside)) (rw here at white)) ∙ sym here
place_step b bytes false is below inside white =
    let here : position_or_len is_hidden (b ∷ bytes) ≡ 0 = rw is refl in
    let begins : is_white_space b ≡ true = rw here at white in
    let there : position_or_len is_white_space (b ∷ bytes) ≡ 0 = rw begins refl in
    there ∙ sym here

same_place : (bytes : List ℕ) → IsSamePlace bytes
same_place [] inside white = absurd (omega (arith, inside))
same_place (b ∷ bytes) inside white = place_step b bytes (is_seen b) refl (same_place bytes) inside white

first_step : (b : ℕ) (bytes : List ℕ) (t : Bool) → is_seen b ≡ t → 1 ≤ position_or_len is_hidden (b ∷ bytes) → is_solid b ≡ true
first_step b bytes true is some = rw (seen_solid b is) refl
first_step b bytes false is some =
    let here : position_or_len is_hidden (b ∷ bytes) ≡ 0 = rw is refl in
    absurd (omega (arith, here, some))

pub record IsDocnoCut (line : List ℕ) (end : ℕ) : Type 0 where
  pub within : end < length line
  pub docno : is_docno (take end line) ≡ true
  pub cut : fields_of line ≡ take end line ∷ fields_of (drop (end + 1) line)

whole : (text : List ℕ) (end : ℕ) → length text ≡ end → is_between 1 64 end ≡ true → list_all is_seen text ≡ true → is_docno text ≡ true
unfolding is_docno
whole text end is long seen = rw (is, long, seen) refl

found : (bytes : List ℕ) (end : ℕ) → position_or_len is_white_space bytes ≡ end → end < length bytes → Some end ≡ position is_white_space bytes
found bytes end is inside = rw (is, lt-ltb _ _ inside) refl

cut_here : (line : List ℕ) → position_or_len is_hidden line < length line → is_between 1 64 (position_or_len is_hidden line) ≡ true
    → is_white_space (get_or line (position_or_len is_hidden line) 0) ≡ true → IsDocnoCut line (position_or_len is_hidden line)
cut_here [] inside long white = absurd (omega (arith, inside))
cut_here (b ∷ bytes) inside long white =
    let end : ℕ = position_or_len is_hidden (b ∷ bytes) in
    let some : 1 ≤ end = leb-true _ _ (and_parts (nat_le 1 end) (nat_le end 64) long).0 in
    record {
      within = inside;
      docno = whole (take end (b ∷ bytes)) end (length-take-le end (b ∷ bytes) (omega (arith, inside))) long (seen_front (b ∷ bytes));
      cut = cut_solid b bytes (first_step b bytes (is_seen b) refl some) end (found (b ∷ bytes) end (same_place (b ∷ bytes) inside white) inside);
    }

pub docno_cut : (line : List ℕ) (end : ℕ) → Some end ≡ position is_hidden line → is_between 1 64 end ≡ true
    → is_white_space (get_or line end 0) ≡ true → IsDocnoCut line end
docno_cut line end is long white =
    let p = cond_some _ _ _ (sym is) in
    subst (IsDocnoCut line) p.1
    (cut_here line (ltb-true _ _ p.0) (subst (λ n. is_between 1 64 n ≡ true) (sym p.1) long)
    (subst (λ n. is_white_space (get_or line n 0) ≡ true) (sym p.1) white))
