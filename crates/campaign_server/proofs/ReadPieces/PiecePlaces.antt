-- How a place in pieces moves on.
use Rattle.std.proofs.Common.{◌≡◌, ℕ, zero, suc, ◌+◌, ◌-◌, ◌<◌, ◌≤◌, List, [], ◌∷◌, ◌++◌, Some, None, length, take, drop, nat_lt, IsTrue, refl, sym, ap, ◌∙◌, arith, add-one, append_assoc, append-nil}
use Rattle.std.specs.Prelude.{slice_get}
use Rattle.std.specs.List.{concat}
use Rattle.std.proofs.Math.Seq.{take-add, take-append_seam, drop-append_seam, drop-nil}
use Rattle.std.proofs.lemmas.List.{drop-drop, drop-append-le, take-append-le, take-take, length-drop, length-take}
use Rattle.std.proofs.lemmas.Bool.{and_parts, ltb-true}
use Rattle.std.proofs.lemmas.Grind.{common_steps}
use Rattle.campaign_server.specs.ConnectionLoop.Pieces.{are_filled, taken_of, left_of, IsPlace}

-- the pieces before a place and at it, and those behind it
drop_piece : (pieces : List (List ℕ)) (at : ℕ) (piece : List ℕ) → Some piece ≡ slice_get pieces at → drop at pieces ≡ piece ∷ drop (at + 1) pieces
drop_piece [] at piece is = cc
drop_piece (p ∷ pieces) zero piece is = let same : piece ≡ p = cc in ap (λ x. x ∷ pieces) (sym same)
drop_piece (p ∷ pieces) (suc at) piece is = rw add-one (rw add-one at (drop_piece pieces at piece is))

take_piece : (pieces : List (List ℕ)) (at : ℕ) (piece : List ℕ) → Some piece ≡ slice_get pieces at
    → concat (take (at + 1) pieces) ≡ concat (take at pieces) ++ piece
take_piece [] at piece is = cc
take_piece (p ∷ pieces) zero piece is = let same : piece ≡ p = cc in grind (arith, same, common_steps)
take_piece (p ∷ pieces) (suc at) piece is =
    rw add-one (ap (λ x. p ++ x) (rw add-one at (take_piece pieces at piece is)) ∙ sym (append_assoc p (concat (take at pieces)) piece))

pub place_at : (pieces : List (List ℕ)) (at : ℕ) → IsTrue (are_filled pieces) → IsPlace pieces at 0
place_at [] at filled = refl
place_at (p ∷ pieces) zero filled = ltb-true 0 (length p) (and_parts (nat_lt 0 (length p)) (are_filled pieces) filled).0
place_at (p ∷ pieces) (suc at) filled = place_at pieces at (and_parts (nat_lt 0 (length p)) (are_filled pieces) filled).1

pub place_at_start : (pieces : List (List ℕ)) → IsTrue (are_filled pieces) → IsPlace pieces 0 0
place_at_start pieces filled = place_at pieces 0 filled

pub place_on : (pieces : List (List ℕ)) (at within : ℕ) (piece : List ℕ) → Some piece ≡ slice_get pieces at → within < length piece → IsPlace pieces at within
place_on pieces at within piece is inside = rw (← is) inside

pub inside_of : (pieces : List (List ℕ)) (at within : ℕ) (piece : List ℕ) → Some piece ≡ slice_get pieces at → IsPlace pieces at within → within < length piece
inside_of pieces at within piece is place = rw (← is) at place

pub left_piece : (pieces : List (List ℕ)) (at within : ℕ) (piece : List ℕ) → Some piece ≡ slice_get pieces at → within ≤ length piece
    → left_of pieces at within ≡ drop within piece ++ concat (drop (at + 1) pieces)
left_piece pieces at within piece is inside =
    ap (λ x. drop within (concat x)) (drop_piece pieces at piece is) ∙ drop-append-le within piece (concat (drop (at + 1) pieces)) inside

pub bytes_of : (pieces : List (List ℕ)) (at within count : ℕ) (piece : List ℕ) → Some piece ≡ slice_get pieces at
    → within ≤ length piece → count ≤ length piece - within
    → take count (take (length piece - within) (drop within piece)) ≡ take count (left_of pieces at within)
bytes_of pieces at within count piece is inside few =
    let fits : count ≤ length (drop within piece) = omega (arith, length-drop within piece) in
    take-take count (length piece - within) (drop within piece) few
    ∙ sym (take-append-le count (drop within piece) (concat (drop (at + 1) pieces)) fits)
    ∙ ap (take count) (sym (left_piece pieces at within piece is inside))

pub taken_on : (pieces : List (List ℕ)) (at within count : ℕ)
    → taken_of pieces at (within + count) ≡ taken_of pieces at within ++ take count (left_of pieces at within)
taken_on pieces at within count =
    ap (λ x. concat (take at pieces) ++ x) (take-add within count (concat (drop at pieces)))
    ∙ sym (append_assoc (concat (take at pieces)) (take within (concat (drop at pieces))) (take count (left_of pieces at within)))

-- a piece taken whole
pub taken_whole : (pieces : List (List ℕ)) (at : ℕ) (piece : List ℕ) → Some piece ≡ slice_get pieces at
    → taken_of pieces (at + 1) 0 ≡ taken_of pieces at (length piece)
taken_whole pieces at piece is =
    let front : take (length piece) (concat (drop at pieces)) ≡ piece =
    ap (λ x. take (length piece) (concat x)) (drop_piece pieces at piece is) ∙ take-append_seam piece (concat (drop (at + 1) pieces)) in
    let none : take 0 (concat (drop (at + 1) pieces)) ≡ [] = refl in
    rw front (append-nil (concat (take (at + 1) pieces)) ∙ take_piece pieces at piece is)

pub taken_next : (pieces : List (List ℕ)) (at within count : ℕ) (piece : List ℕ) → Some piece ≡ slice_get pieces at → within + count ≡ length piece
    → taken_of pieces (at + 1) 0 ≡ taken_of pieces at within ++ take count (left_of pieces at within)
taken_next pieces at within count piece is whole =
    taken_whole pieces at piece is ∙ ap (taken_of pieces at) (sym whole) ∙ taken_on pieces at within count

pub left_next : (pieces : List (List ℕ)) (at within count : ℕ) (piece : List ℕ) → Some piece ≡ slice_get pieces at → within + count ≡ length piece
    → left_of pieces (at + 1) 0 ≡ drop count (left_of pieces at within)
left_next pieces at within count piece is whole =
    sym (drop-append_seam piece (concat (drop (at + 1) pieces)))
    ∙ ap (λ x. drop (length piece) (concat x)) (sym (drop_piece pieces at piece is))
    ∙ ap (λ n. drop n (concat (drop at pieces))) (sym whole)
    ∙ sym (drop-drop count within (concat (drop at pieces)))

left_of_nil : (at within : ℕ) → left_of [] at within ≡ []
left_of_nil at within = ap (λ x. drop within (concat x)) (drop-nil {A = List ℕ} at) ∙ drop-nil within

-- behind all pieces nothing is left
pub left_none : (pieces : List (List ℕ)) (at within : ℕ) → None ≡ slice_get pieces at → left_of pieces at within ≡ []
left_none [] at within is = left_of_nil at within
left_none (p ∷ pieces) zero within is = cc
left_none (p ∷ pieces) (suc at) within is = left_none pieces at within is

pub whole_of : (piece : List ℕ) (within count : ℕ) → within < length piece
    → count ≡ length (take (length piece - within) (drop within piece)) → within + count ≡ length piece
whole_of piece within count inside is = omega (arith, is, length-take (length piece - within) (drop within piece), length-drop within piece)
