-- Documents by docno stand in one order alone.
use Rattle.std.proofs.Common.{◌≡◌, ℕ, Bool, true, false, ◌||◌, eqb, List, [], ◌∷◌, refl, sym, ap, ◌∙◌, arith, subst, Less, Equal, Greater, ◌⊎◌, inl, inr}
use Rattle.std.specs.List.{All}
use Rattle.std.specs.Ordering.{is_lt, ordering_reverse}
use Rattle.std.specs.declared.cmp.Ordering.{Ordering}
use Rattle.std.proofs.lemmas.Bool.{false≢true}
use Rattle.std.proofs.lemmas.Cmp.{nat_list_cmp_total}
use borrow.Author.Tests.{eqb-true}
use Rattle.std.proofs.lemmas.List.Elements.{All-tail}
use Rattle.decimal_rank.specs.Names.{docno_of}
use Rattle.decimal_rank.specs.declared.naming.DocId.{DocId}
use Rattle.decimal_rank.proofs.TruthValues.{eqb_itself}
use Rattle.decimal_rank.proofs.Lists.{pairs_head, pairs_tail}
use Rattle.depth_pool.specs.Holdings.{AreByDocno, has_doc}
use Rattle.depth_pool.proofs.ListedDocs.{docno_cmp}
use Rattle.depth_pool.proofs.Writes.{same_number}

abbrev is_before : List (List ℕ) → DocId → DocId → Bool
is_before names a b = is_lt (docno_cmp names a b)

-- not both of two documents come before the other
one_way : (names : List (List ℕ)) (a b : DocId) → is_before names a b ≡ true → is_before names b a ≡ true → ⊥
one_way names a b there back = step (docno_cmp names a b) there (ap is_lt (sym (nat_list_cmp_total.antisymm (docno_of names b.0) (docno_of names a.0))) ∙ back)
  where
    step : (order : Ordering) → is_lt order ≡ true → is_lt (ordering_reverse order) ≡ true → ⊥
    step Less f g = false≢true g
    step Equal f g = false≢true f
    step Greater f g = false≢true f

-- a document of a list has what all of the list have
of_all : (P : DocId → Type 0) (docs : List DocId) → All P docs → (doc : DocId) → has_doc doc docs ≡ true → P doc
of_all P [] all doc h = absurd (false≢true h)
of_all P (other ∷ docs) all doc h = step (eqb other.0 doc.0) refl (of_all P docs (All-tail P other docs all) doc) h
  where
    step : (t : Bool) → eqb other.0 doc.0 ≡ t → (has_doc doc docs ≡ true → P doc) → (t || has_doc doc docs) ≡ true → P doc
    step true e later any = subst P (same_number other doc (eqb-true _ _ e)) (all 0 other (omega arith))
    step false e later any = later any

first_or_later : (doc first : DocId) (docs : List DocId) → has_doc doc (first ∷ docs) ≡ true → (first ≡ doc) ⊎ (has_doc doc docs ≡ true)
first_or_later doc first docs h = step (eqb first.0 doc.0) refl h
  where
    step : (t : Bool) → eqb first.0 doc.0 ≡ t → (t || has_doc doc docs) ≡ true → (first ≡ doc) ⊎ (has_doc doc docs ≡ true)
    step true e any = inl (same_number first doc (eqb-true _ _ e))
    step false e any = inr any

has_first : (first : DocId) (docs : List DocId) → has_doc first (first ∷ docs) ≡ true
has_first first docs = ap (λ t. t || has_doc first docs) (eqb_itself first.0)

-- the first of the one list is the first of the other
same_first : (names : List (List ℕ)) (a b : DocId) (docs others : List DocId) → AreByDocno names (a ∷ docs) → AreByDocno names (b ∷ others)
    → ((doc : DocId) → has_doc doc (a ∷ docs) ≡ has_doc doc (b ∷ others)) → a ≡ b
same_first names a b docs others up also same =
    step (first_or_later a b others (sym (same a) ∙ has_first a docs)) (first_or_later b a docs (same b ∙ has_first b others))
  where
    step : (b ≡ a) ⊎ (has_doc a others ≡ true) → (a ≡ b) ⊎ (has_doc b docs ≡ true) → a ≡ b
    step (inl e) other = sym e
    step (inr later) (inl e) = e
    step (inr later) (inr earlier) =
        absurd (one_way names a b (of_all (λ doc. is_before names a doc ≡ true) docs (pairs_head (λ x y. is_before names x y ≡ true) a docs up) b earlier)
        (of_all (λ doc. is_before names b doc ≡ true) others (pairs_head (λ x y. is_before names x y ≡ true) b others also) a later))

-- the first document isn't among the later ones
not_later : (names : List (List ℕ)) (first : DocId) (docs : List DocId) → AreByDocno names (first ∷ docs) → has_doc first docs ≡ false
not_later names first docs up = step (has_doc first docs) refl
  where
    step : (t : Bool) → has_doc first docs ≡ t → t ≡ false
    step true e = let self = of_all (λ doc. is_before names first doc ≡ true) docs (pairs_head (λ x y. is_before names x y ≡ true) first docs up) first e in
        absurd (one_way names first first self self)
    step false e = refl

same_later : (names : List (List ℕ)) (first : DocId) (docs others : List DocId) → AreByDocno names (first ∷ docs) → AreByDocno names (first ∷ others)
    → ((doc : DocId) → has_doc doc (first ∷ docs) ≡ has_doc doc (first ∷ others)) → (doc : DocId) → has_doc doc docs ≡ has_doc doc others
same_later names first docs others up also same doc = step (eqb first.0 doc.0) refl (same doc)
  where
    step : (t : Bool) → eqb first.0 doc.0 ≡ t → (t || has_doc doc docs) ≡ (t || has_doc doc others) → has_doc doc docs ≡ has_doc doc others
    step true e h =
        let is = same_number first doc (eqb-true _ _ e) in
        ap (λ d. has_doc d docs) (sym is) ∙ not_later names first docs up ∙ sym (not_later names first others also) ∙ ap (λ d. has_doc d others) is
    step false e h = h

pub one_list : (names : List (List ℕ)) (docs others : List DocId) → AreByDocno names docs → AreByDocno names others
    → ((doc : DocId) → has_doc doc docs ≡ has_doc doc others) → docs ≡ others
one_list names [] [] up also same = refl
one_list names [] (b ∷ others) up also same = absurd (false≢true (same b ∙ has_first b others))
one_list names (a ∷ docs) [] up also same = absurd (false≢true (sym (same a) ∙ has_first a docs))
one_list names (a ∷ docs) (b ∷ others) up also same =
    let first = same_first names a b docs others up also same in
    let also_first = subst (λ x. AreByDocno names (x ∷ others)) (sym first) also in
    let later = same_later names a docs others up also_first (λ doc. same doc ∙ ap (λ x. has_doc doc (x ∷ others)) (sym first)) in
    ap (λ x. x ∷ docs) first
    ∙ ap (λ rest. b ∷ rest)
    (one_list names docs others (pairs_tail (λ x y. is_before names x y ≡ true) a docs up) (pairs_tail (λ x y. is_before names x y ≡ true) b others also) later)
