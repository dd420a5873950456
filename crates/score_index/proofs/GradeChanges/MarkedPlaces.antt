-- Places that are marked one after another, and a document's place among them.
use Rattle.std.proofs.Common.{◌≡◌, ◌≢◌, ℕ, ◌+◌, ◌-◌, ◌<◌, ◌≤◌, Bool, true, false, cond, eqb, nat_lt, List, [], ◌∷◌, Option, Some, None, get_or, length, map, replicate, set, refl, sym, ap, ◌∙◌, arith, inl, inr, get_or-set_other, get_or-set_same}
use Rattle.std.specs.List.{position_or_len}
use Rattle.std.specs.Option.{option_map}
use Rattle.std.proofs.lemmas.Bool.{eqb-true, ltb-true}
use Rattle.std.proofs.lemmas.Bool.Decides.{eqb_tells}
use Rattle.std.proofs.lemmas.List.{get_or-map, length-map, length-set, same_lists, get_or_default}
use Rattle.std.proofs.lemmas.List.Sums.{passes_at_first}
use Rattle.decimal_rank.specs.Rankings.Places.{place_in}
use Rattle.decimal_rank.specs.declared.naming.DocId.{DocId}
use Rattle.decimal_rank.proofs.Lists.{get_or-repeated}
use Rattle.score_index.specs.KeptBoards.{put_at}
use Rattle.score_index.specs.KeptSums.{IsOnAt}

-- the first i places have the marks of their documents, and the others none
pub record AreMarked (mark : DocId → Bool) (docs : List DocId) (on : List Bool) (i : ℕ) : Type 0 where
  pub long : length on ≡ length docs
  pub done : (k : ℕ) (d : DocId) → k < i → k < length docs → get_or on k false ≡ mark (get_or docs k d)
  pub left : (k : ℕ) → i ≤ k → get_or on k false ≡ false

pub none_marked : (mark : DocId → Bool) (docs : List DocId) (on : List Bool) (n : ℕ) → on ≡ replicate n false
    → length on ≡ length docs → AreMarked mark docs on 0
none_marked mark docs on n are long = record {
  long = long;
  done = λ k d before within. absurd (omega (arith, before));
  left = λ k past. ap (λ xs. get_or xs k false) are ∙ get_or-repeated n k false;
}

pub one_marked : (mark : DocId → Bool) (docs : List DocId) (was now : List Bool) (i : ℕ) (doc : DocId) (b : Bool)
    → AreMarked mark docs was i → i < length docs → get_or docs i doc ≡ doc → b ≡ mark doc
    → now ≡ set was (i + 1 - 1) b → AreMarked mark docs now (i + 1)
one_marked mark docs was now i doc b marked within here is now_is = record {
  long = ap length now_are ∙ length-set was i b ∙ marked.long;
  done = λ k d before inside. elim (eqb_tells k i) [
    | inl h ↦ (
        let same = h.1 in
        ap (λ n. get_or now n false) same ∙ ap (λ xs. get_or xs i false) now_are ∙ get_or-set_same was i b false (omega (arith, within, marked.long))
        ∙ is ∙ ap mark (sym here) ∙ ap mark (get_or_default docs i doc d within) ∙ ap (λ n. mark (get_or docs n d)) (sym same))
    | inr h ↦ (
        let other = h.1 in
        ap (λ xs. get_or xs k false) now_are ∙ get_or-set_other was i k b false other ∙ marked.done k d (omega (arith, before, other)) inside)
  ];
  left = λ k past. let other : k ≢ i = omega (arith, past) in
      ap (λ xs. get_or xs k false) now_are ∙ get_or-set_other was i k b false other ∙ marked.left k (omega (arith, past));
}
  where
    now_are : now ≡ set was i b
    now_are = let back : i + 1 - 1 ≡ i = omega arith in now_is ∙ ap (λ n. set was n b) back

pub all_marked : (mark : DocId → Bool) (docs : List DocId) (on : List Bool) (i : ℕ) → length docs ≤ i → AreMarked mark docs on i → on ≡ map mark docs
all_marked mark docs on i past marked =
    same_lists on (map mark docs) (marked.long ∙ sym (length-map docs mark)) (λ k d within. each k d (omega (arith, within, marked.long)))
  where
    each : (k : ℕ) (d : Bool) → k < length docs → get_or on k d ≡ get_or (map mark docs) k d
    each k d inside =
        get_or_default on k d false (omega (arith, inside, marked.long)) ∙ first_is k d inside
      where
        first_is : (k : ℕ) (d : Bool) → k < length docs → get_or on k false ≡ get_or (map mark docs) k d
        first_is k d inside = by_docs docs refl
          where
            by_docs : (ds : List DocId) → docs ≡ ds → get_or on k false ≡ get_or (map mark docs) k d
            by_docs [] e = absurd (omega (arith, inside, ap length e))
            by_docs (x ∷ xs) e = marked.done k x (omega (arith, inside, past)) inside ∙ sym (get_or-map mark docs k x d inside)

-- ---- the mark that a document has at its place

pub length-put : {X : Type 0} (place : Option ℕ) (x : X) (xs : List X) → length (put_at place x xs) ≡ length xs
length-put None x xs = refl
length-put (Some place) x xs = length-set xs (place - 1) x

pub mark-at : (mark : DocId → Bool) (docs : List DocId) (doc : DocId) (b : Bool) → mark doc ≡ b → IsOnAt (place_in docs doc) b (map mark docs)
mark-at mark docs doc b is = step (nat_lt (position_or_len (λ d. eqb d.0 doc.0) docs) (length docs)) refl
  where
    same_doc : (a c : DocId) → a.0 ≡ c.0 → a ≡ c
    same_doc a c e = let make : ℕ → DocId = λ n. record { 0 = n } in ap make e

    step : (t : Bool) → nat_lt (position_or_len (λ d. eqb d.0 doc.0) docs) (length docs) ≡ t
        → IsOnAt (option_map (λ i. i + 1) (cond t (Some (position_or_len (λ d. eqb d.0 doc.0) docs)) None)) b (map mark docs)
    step false e = tt
    step true e =
        let inside = ltb-true (position_or_len (λ d. eqb d.0 doc.0) docs) (length docs) e in
        let back : position_or_len (λ d. eqb d.0 doc.0) docs + 1 - 1 ≡ position_or_len (λ d. eqb d.0 doc.0) docs = omega arith in
        let here = eqb-true (get_or docs (position_or_len (λ d. eqb d.0 doc.0) docs) doc).0 doc.0 (passes_at_first (λ d. eqb d.0 doc.0) docs doc inside) in (
          omega arith,
          omega (arith, inside, length-map docs mark),
          ap (λ n. get_or (map mark docs) n false) back
              ∙ get_or-map mark docs (position_or_len (λ d. eqb d.0 doc.0) docs) doc false inside
              ∙ ap mark (same_doc (get_or docs (position_or_len (λ d. eqb d.0 doc.0) docs) doc) doc here) ∙ is,
        )
