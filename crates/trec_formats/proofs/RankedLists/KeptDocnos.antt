-- Docnos that stand one after another in one list of bytes: how many there are, the one at a place, and one more.
use Rattle.std.proofs.Common.{◌≡◌, ◌≤◌, ◌<◌, ◌+◌, ◌-◌, ◌∙◌, ◌++◌, ◌∷◌, [], ◌&&◌, Bool, true, false, ℕ, suc, zero, List, Some, ap, sym, refl, arith, drop, get_or, length, take, bytes_eq}
use Rattle.std.specs.Prelude.{slice_get}
use Rattle.std.specs.Bool.{Decides}
use Rattle.std.specs.Cmp.Lexicographic.{pointwise}
use Rattle.std.specs.List.{flat_map}
use Rattle.std.proofs.lemmas.List.{drop_all, drop_at, drop-append-le, drop-drop, get_or_read, length-append, length-drop, length-take-le, take-append-drop, take-append-le, take_all}
use Rattle.std.proofs.lemmas.Slice.Eq.{bytes_eq-Decides, slice_eq-Decides}
use Rattle.trec_formats.specs.DocnoParts.{parts_from, AreEnds}

pub parts_count : (start : ℕ) (ends bytes : List ℕ) → length (parts_from start ends bytes) ≡ length ends
parts_count start [] bytes = refl
parts_count start (end ∷ ends) bytes = ap suc (parts_count end ends bytes)

pub start_within : (start : ℕ) (ends : List ℕ) (len : ℕ) → AreEnds start ends len → start ≤ len
start_within start [] len is = omega (arith, is)
start_within start (end ∷ ends) len is = omega (arith, is.0, start_within end ends len is.1)

-- a docno stands between its ends
pub record IsPartAt (bytes : List ℕ) (parts : List (List ℕ)) (start end k : ℕ) : Type 0 where
  pub ordered : start ≤ end
  pub within : end ≤ length bytes
  pub part : slice_get parts k ≡ Some (take (end - start) (drop start bytes))

pub part_at : (start : ℕ) (ends bytes : List ℕ) (k : ℕ) → AreEnds start ends (length bytes) → k < length ends
    → IsPartAt bytes (parts_from start ends bytes) (get_or (start ∷ ends) k 0) (get_or ends k 0) k
part_at start [] bytes k is less = absurd (omega (arith, less))
part_at start (end ∷ ends) bytes zero is less = record { ordered = is.0; within = start_within end ends (length bytes) is.1; part = refl }
part_at start (end ∷ ends) bytes (suc k) is less =
    let rest = part_at end ends bytes k is.1 (omega (arith, less)) in
    record { ordered = rest.ordered; within = rest.within; part = rest.part }

-- the same of the ends that are read
pub part_read : (ends bytes : List ℕ) (k start end : ℕ) → AreEnds 0 ends (length bytes) → k < length ends
    → start ≡ get_or (0 ∷ ends) k 0 → end ≡ get_or ends k end
    → IsPartAt bytes (parts_from 0 ends bytes) start end k
part_read ends bytes k start end is less first second =
    let at = part_at 0 ends bytes k is less in
    let last : end ≡ get_or ends k 0 = get_or_read ends k end less second 0 in
    record {
      ordered = omega (arith, at.ordered, first, last);
      within = omega (arith, at.within, last);
      part = at.part ∙ ap (λ s. Some (take (get_or ends k 0 - s) (drop s bytes))) (sym first) ∙ ap (λ e. Some (take (e - start) (drop start bytes))) (sym last);
    }

pub ends_push : (start : ℕ) (ends : List ℕ) (len more : ℕ) → AreEnds start ends len → AreEnds start (ends ++ (len + more) ∷ []) (len + more)
ends_push start [] len more is = (omega (arith, is), refl)
ends_push start (end ∷ ends) len more is = (is.0, ends_push end ends len more is.1)

pub parts_push : (start : ℕ) (ends bytes text : List ℕ) → AreEnds start ends (length bytes)
    → parts_from start (ends ++ (length bytes + length text) ∷ []) (bytes ++ text) ≡ parts_from start ends bytes ++ text ∷ []
parts_push start [] bytes text is =
    let behind : drop start (bytes ++ text) ≡ text = drop_at bytes text start (sym is) in
    ap (λ one. one ∷ []) (ap (take (length bytes + length text - start)) behind ∙ take_all (length bytes + length text - start) text (omega (arith, is)))
parts_push start (end ∷ ends) bytes text is =
    let last = start_within end ends (length bytes) is.1 in
    let first : take (end - start) (drop start (bytes ++ text)) ≡ take (end - start) (drop start bytes) =
    ap (take (end - start)) (drop-append-le start bytes text (omega (arith, is.0, last)))
    ∙ take-append-le (end - start) (drop start bytes) text (omega (arith, last, length-drop start bytes)) in
    ap (λ one. one ∷ parts_from end (ends ++ (length bytes + length text) ∷ []) (bytes ++ text)) first
    ∙ ap (λ rest. take (end - start) (drop start bytes) ∷ rest) (parts_push end ends bytes text is.1)

-- what stands there, once the bytes have the text and its end is added
module _ (ends bytes text : List ℕ) (is : AreEnds 0 ends (length bytes)) (later more : List ℕ)
    (bytes_are : more ≡ bytes ++ text) (ends_are : later ≡ ends ++ (length bytes + length text) ∷ []) where
  pub pushed_ends : AreEnds 0 later (length more)
  pushed_ends = rw (ends_are, bytes_are, length-append bytes text) (ends_push 0 ends (length bytes) (length text) is)

  pub pushed_parts : parts_from 0 later more ≡ parts_from 0 ends bytes ++ text ∷ []
  pushed_parts = rw (ends_are, bytes_are) (parts_push 0 ends bytes text is)

-- the bytes, from the docnos
joined : (start : ℕ) (ends bytes : List ℕ) → AreEnds start ends (length bytes) → drop start bytes ≡ flat_map (λ part. part) (parts_from start ends bytes)
joined start [] bytes is = drop_all start bytes (omega (arith, is))
joined start (end ∷ ends) bytes is =
    let part = take (end - start) (drop start bytes) in
    sym (take-append-drop (end - start) (drop start bytes))
    ∙ ap (λ rest. part ++ rest) (drop-drop (end - start) start bytes ∙ ap (λ n. drop n bytes) (omega (arith, is.0)) ∙ joined end ends bytes is.1)

-- where docnos end, of which the first begins at a place
ends_from : ℕ → List (List ℕ) → List ℕ
ends_from start [] = []
ends_from start (part ∷ parts) = (start + length part) ∷ ends_from (start + length part) parts

ends_again : (start : ℕ) (ends bytes : List ℕ) → AreEnds start ends (length bytes) → ends_from start (parts_from start ends bytes) ≡ ends
unfolding ends_from
ends_again start [] bytes is = refl
ends_again start (end ∷ ends) bytes is =
    let last = start_within end ends (length bytes) is.1 in
    let size = length-take-le (end - start) (drop start bytes) (omega (arith, last, length-drop start bytes)) in
    let next : start + length (take (end - start) (drop start bytes)) ≡ end = omega (arith, is.0, size) in
    ap (λ n. n ∷ ends_from n (parts_from end ends bytes)) next ∙ ap (λ rest. end ∷ rest) (ends_again end ends bytes is.1)

-- docnos are the same where their ends and their bytes are
pub parts_alike : (ends others bytes more : List ℕ) → AreEnds 0 ends (length bytes) → AreEnds 0 others (length more) → (same_ends same_bytes : Bool)
    → Decides same_ends (ends ≡ others) → Decides same_bytes (bytes ≡ more)
    → (same_ends && same_bytes) ≡ pointwise bytes_eq (parts_from 0 ends bytes) (parts_from 0 others more)
parts_alike ends others bytes more is other_is same_ends same_bytes by_ends by_bytes =
    step same_ends same_bytes (pointwise bytes_eq (parts_from 0 ends bytes) (parts_from 0 others more)) by_ends by_bytes
    (slice_eq-Decides bytes_eq-Decides (parts_from 0 ends bytes) (parts_from 0 others more) _ refl)
  where
    step : (a b whole : Bool) → Decides a (ends ≡ others) → Decides b (bytes ≡ more)
        → Decides whole (parts_from 0 ends bytes ≡ parts_from 0 others more) → (a && b) ≡ whole
    step true true whole on_ends on_bytes on_parts =
        sym (on_parts.1 (ap (λ e. parts_from 0 e bytes) (on_ends.0 refl) ∙ ap (parts_from 0 others) (on_bytes.0 refl)))
    step true false true on_ends on_bytes on_parts =
        on_bytes.1 (joined 0 ends bytes is ∙ ap (flat_map (λ part. part)) (on_parts.0 refl) ∙ sym (joined 0 others more other_is))
    step false b true on_ends on_bytes on_parts =
        on_ends.1 (sym (ends_again 0 ends bytes is) ∙ ap (ends_from 0) (on_parts.0 refl) ∙ ends_again 0 others more other_is)
    step true false false on_ends on_bytes on_parts = refl
    step false b false on_ends on_bytes on_parts = refl
