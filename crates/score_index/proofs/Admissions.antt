-- Documents that a filter admits.
use Rattle.std.proofs.Common.{◌≡◌, ◌+◌, ◌*◌, ◌/◌, ◌%◌, ◌<◌, ◌≤◌, ℕ, Bool, true, false, cond, eqb, nat_lt, List, Some, None, get_or, length, replicate, set, refl, sym, ap, ◌∙◌, arith, inl, inr, get_or-set_other, get_or-set_same}
use Rattle.std.specs.List.{position_or_len}
use Rattle.std.specs.Option.{option_map}
use Rattle.std.proofs.lemmas.Bool.{eqb-true, false≢true, ltb-true}
use Rattle.std.proofs.lemmas.Bool.Decides.{eqb_tells}
use Rattle.std.proofs.lemmas.List.{get_or_default, length-replicate}
use Rattle.std.proofs.lemmas.List.Sums.{passes_at_first}
use Rattle.std.proofs.lemmas.Nat.{mod_below}
use Rattle.decimal_rank.specs.Rankings.Places.{place_in}
use Rattle.decimal_rank.specs.declared.naming.DocId.{DocId}
use Rattle.score_index.specs.Filters.{AdmitsAll, Bits, admits}

-- a document has one of the bits
pub bit-within : (count : ℕ) (on : List Bool) (doc : DocId) → 0 < count → count ≤ length on → doc.0 % count < length on
bit-within count on doc some long = let below = mod_below doc.0 count (omega (arith, some)) in omega (arith, below, long)

-- words have a bit more than the places that they are for
pub bits-long : (places : ℕ) (on : List Bool) → on ≡ replicate (64 * (places / 64 + 1)) false → places + 1 ≤ length on
bits-long places on are =
    let long : length on ≡ 64 * (places / 64 + 1) = ap length are ∙ length-replicate (64 * (places / 64 + 1)) false in
    omega (arith, long)

-- bits of which one more is on
abbrev pub with_bit : Bits → ℕ → Bits
with_bit bits index = record { count = bits.count; on = set bits.on index true }

-- a document that was admitted is, also where another is
pub still-admitted : (bits : Bits) (index : ℕ) (doc : DocId) → index < length bits.on → admits bits doc ≡ true → admits (with_bit bits index) doc ≡ true
still-admitted bits index doc within is = elim (eqb_tells (doc.0 % bits.count) index) [
  | inl h ↦ ap (λ (n : ℕ). get_or (set bits.on index true) n false) h.1 ∙ get_or-set_same bits.on index true false within
  | inr h ↦ get_or-set_other bits.on index (doc.0 % bits.count) true false h.1 ∙ is
]

-- one more document of a list
pub one-more : (bits now : Bits) (docs : List DocId) (i : ℕ) (doc : DocId)
    → ((k : ℕ) (d : DocId) → k < i → k < length docs → admits bits (get_or docs k d) ≡ true) → i < length docs → get_or docs i doc ≡ doc
    → admits now doc ≡ true → ((other : DocId) → admits bits other ≡ true → admits now other ≡ true) → (k : ℕ) (d : DocId)
    → k < i + 1 → k < length docs → admits now (get_or docs k d) ≡ true
one-more bits now docs i doc done within here admitted others k d before inside = elim (eqb_tells k i) [
  | inl h ↦ (
      let same : get_or docs k d ≡ doc = ap (λ (n : ℕ). get_or docs n d) h.1 ∙ get_or_default docs i d doc within ∙ here in
      ap (admits now) same ∙ admitted)
  | inr h ↦ (let other = h.1 in others (get_or docs k d) (done k d (omega (arith, before, other)) inside))
]

-- a document that isn't admitted is none of those that all are
pub absent-place : (bits : Bits) (docs : List DocId) (doc : DocId) → AdmitsAll bits docs → admits bits doc ≡ false → place_in docs doc ≡ None
absent-place bits docs doc all off = step (nat_lt first (length docs)) refl
  where
    first : ℕ
    first = position_or_len (λ d. eqb d.0 doc.0) docs

    step : (t : Bool) → nat_lt first (length docs) ≡ t → place_in docs doc ≡ None
    step true e =
        let inside = ltb-true first (length docs) e in
        let here : (get_or docs first doc).0 ≡ doc.0 = eqb-true (get_or docs first doc).0 doc.0 (passes_at_first (λ d. eqb d.0 doc.0) docs doc inside) in
        absurd (false≢true (sym off ∙ ap (λ (n : ℕ). get_or bits.on (n % bits.count) false) (sym here) ∙ all first doc inside))
    step false e = ap (λ (t : Bool). option_map (λ (i : ℕ). i + 1) (cond t (Some first) None)) e
