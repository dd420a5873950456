-- How many documents pass a test, and what one document changes.
use Rattle.std.proofs.Common.{◌≡◌, ◌≢◌, ℕ, suc, ◌+◌, ◌≤◌, Bool, true, false, cond, not, ◌||◌, ◌&&◌, eqb, eq-eqb, nat_lt, List, [], ◌∷◌, length, filter, refl, sym, ap, ◌∙◌, arith}
use Rattle.std.specs.BTreeMap.{IsOrdered}
use Rattle.std.specs.Bool.{Decides}
use Rattle.std.specs.Cmp.{IsEquivalence}
use Rattle.std.specs.List.{AllByRecursion, IsDistinct}
use Rattle.std.specs.Set.{is_member}
use Rattle.std.proofs.lemmas.Bool.{false≢true, not-true}
use Rattle.std.proofs.lemmas.Bool.Decides.{nat_tests}
use Rattle.std.proofs.lemmas.List.Kept.{AllPairs-filter}
use Rattle.std.proofs.lemmas.Map.Keys.{IsDistinct-cons}
use Rattle.std.proofs.lemmas.Map.Made.{AllPairs-from_IsDistinct, IsDistinct-from_AllPairs, is_member-filter, length-from_same_keys}
use borrow.Author.Tests.{eqb-true}
use Rattle.std.proofs.Math.Bool.{and-false}
use Rattle.decimal_rank.specs.Rankings.Places.{AreDistinct}
use Rattle.decimal_rank.specs.declared.naming.DocId.{DocId}
use Rattle.decimal_rank.proofs.TruthValues.{eqb_swap}
use Rattle.depth_pool.specs.declared.runs.RunId.{RunId}
use Rattle.depth_pool.specs.Holdings.{Held, IsCount, has_doc, holders_of, put_before, some_run_holds}
use Rattle.depth_pool.specs.Index.{Index, doc_cmp, has_holder, held_docs, holders_at, is_held, with_holder, without_holder}
use Rattle.depth_pool.proofs.Holders.{any_holder}
use Rattle.depth_pool.proofs.ListedDocs.{IndexEntry, listed, listed-cons, listed_once, same_doc}
use Rattle.depth_pool.proofs.Writes.{same_number}

-- ---- documents by number

doc_equality : IsEquivalence same_doc
doc_equality = record {
  refl = λ x. eq-eqb x.0 x.0 refl;
  symm = λ x y. eqb_swap x.0 y.0;
  congr = λ x y z e. ap (λ n. eqb n z.0) (eqb-true _ _ e);
}

decided : (x y : DocId) → Decides (same_doc x y) (x ≡ y)
decided x y = (λ e. same_number x y (eqb-true _ _ e), λ e. eq-eqb x.0 y.0 (ap (λ (doc : DocId). doc.0) e))

member : (docs : List DocId) (doc : DocId) → is_member same_doc docs doc ≡ has_doc doc docs
member [] doc = refl
member (other ∷ docs) doc = ap (λ t. t || is_member same_doc docs doc) (eqb_swap doc.0 other.0) ∙ ap (λ t. eqb other.0 doc.0 || t) (member docs doc)

-- ---- counts

-- a list of the documents tells how many there are
pub count_by_list : (passes : DocId → Bool) (docs : List DocId) → IsDistinct same_doc docs
    → ((doc : DocId) → has_doc doc docs ≡ passes doc) → IsCount passes (length docs)
count_by_list passes docs once are others also same =
    length-from_same_keys doc_equality docs others once (IsDistinct-from_AllPairs decided others also)
    (λ doc. member docs doc ∙ are doc ∙ sym (same doc) ∙ sym (member others doc))

pub same_count : (p q : DocId → Bool) (count : ℕ) → ((doc : DocId) → p doc ≡ q doc) → IsCount p count → IsCount q count
same_count p q count same counts docs once are = counts docs once (λ doc. are doc ∙ sym (same doc))

-- no document passes
pub none_counted : IsCount (λ doc. false) 0
none_counted [] once are = refl
none_counted (doc ∷ docs) once are = absurd (false≢true (sym (are doc) ∙ ap (λ t. t || has_doc doc docs) (eq-eqb doc.0 doc.0 refl)))

-- a test that changes at one document at most
pub record IsStep (before after : DocId → Bool) (doc : DocId) (is_new : Bool) : Type 0 where
  pub new : is_new ≡ true → before doc ≡ false
  pub here : after doc ≡ (is_new || before doc)
  pub others : (other : DocId) → eqb doc.0 other.0 ≡ false → after other ≡ before other

module _ (before after : DocId → Bool) (doc : DocId) where
  all_same : IsStep before after doc false → (other : DocId) → before other ≡ after other
  all_same is other = at (eqb doc.0 other.0) refl
    where
      at : (t : Bool) → eqb doc.0 other.0 ≡ t → before other ≡ after other
      at true e = let same = same_number doc other (eqb-true _ _ e) in ap before (sym same) ∙ sym is.here ∙ ap after same
      at false e = sym (is.others other e)

  abbrev is_other : DocId → Bool
  is_other other = not (same_doc doc other)

  apart_from_rest : (docs : List DocId) → AllByRecursion (λ other. same_doc doc other ≡ false) (filter is_other docs)
  apart_from_rest [] = tt
  apart_from_rest (first ∷ docs) = at (same_doc doc first) refl (apart_from_rest docs)
    where
      at : (t : Bool) → same_doc doc first ≡ t → AllByRecursion (λ other. same_doc doc other ≡ false) (filter is_other docs)
          → AllByRecursion (λ other. same_doc doc other ≡ false) (cond (not t) (first ∷ filter is_other docs) (filter is_other docs))
      at true e rest = rest
      at false e rest = (e, rest)

  module _ (is : IsStep before after doc true) (docs : List DocId) (are : (other : DocId) → has_doc other docs ≡ after other) where
    -- the documents but for the new one
    rest_are : (other : DocId) → is_member same_doc (filter is_other docs) other ≡ before other
    rest_are other =
        is_member-filter doc_equality is_other other
        (λ x e. ap (λ t. not t) (doc_equality.symm doc other ∙ doc_equality.congr other x doc e ∙ doc_equality.symm x doc)) docs
        ∙ ap (λ t. t && is_other other) (member docs other ∙ are other) ∙ at (same_doc doc other) refl (after other) refl
      where
        at : (t : Bool) → same_doc doc other ≡ t → (u : Bool) → after other ≡ u → (u && not t) ≡ before other
        at true e u f = and-false u ∙ sym (ap before (sym (same_number doc other (eqb-true _ _ e))) ∙ is.new refl)
        at false e true f = sym f ∙ is.others other e
        at false e false f = sym f ∙ is.others other e

    whole_are : (other : DocId) → is_member same_doc docs other ≡ is_member same_doc (doc ∷ filter is_other docs) other
    whole_are other =
        member docs other ∙ are other ∙ at (same_doc doc other) refl
        ∙ ap (λ t. t || is_member same_doc (filter is_other docs) other) (doc_equality.symm doc other)
      where
        at : (t : Bool) → same_doc doc other ≡ t → after other ≡ (t || is_member same_doc (filter is_other docs) other)
        at true e = ap after (sym (same_number doc other (eqb-true _ _ e))) ∙ is.here
        at false e = is.others other e ∙ sym (rest_are other)

    one_longer : AreDistinct docs → length docs ≡ suc (length (filter is_other docs))
    one_longer once =
        let rest = IsDistinct-from_AllPairs decided (filter is_other docs) (AllPairs-filter (λ x y. x ≢ y) is_other docs once) in
        length-from_same_keys doc_equality docs (doc ∷ filter is_other docs) (IsDistinct-from_AllPairs decided docs once)
        (IsDistinct-cons same_doc doc (filter is_other docs) (apart_from_rest docs) rest) whole_are

  -- the count after the change
  pub stepped : (is_new : Bool) (count : ℕ) → IsStep before after doc is_new → IsCount before count → IsCount after (cond is_new (count + 1) count)
  stepped false count is counts = same_count before after count (all_same is) counts
  stepped true count is counts = λ docs once are.
      let rest : count ≡ length (filter is_other docs) =
      counts (filter is_other docs) (AllPairs-filter (λ x y. x ≢ y) is_other docs once)
      (λ other. sym (member (filter is_other docs) other) ∙ rest_are is docs are other) in
      let longer = one_longer is docs are once in
      omega arith

-- ---- a document at which a run is put or taken away

positive : (n : ℕ) → nat_lt 0 (suc n) ≡ true
positive n = grind (arith, nat_tests)

some_put : (p : RunId → Bool) (x : RunId) (ys : List RunId) → nat_lt 0 (length (put_before p x ys)) ≡ true
some_put p x [] = positive 0
some_put p x (y ∷ ys) = at (p y)
  where
    at : (t : Bool) → nat_lt 0 (length (cond t (x ∷ y ∷ ys) (y ∷ put_before p x ys))) ≡ true
    at true = positive (suc (length ys))
    at false = positive (length (put_before p x ys))

some_left : (p : RunId → Bool) (xs : List RunId) → nat_lt 0 (length (filter p xs)) ≡ true → nat_lt 0 (length xs) ≡ true
some_left p [] h = h
some_left p (x ∷ xs) h = positive (length xs)

-- what is at a document, where one is changed by w
changed_at : (w : List RunId → List RunId) (before after : Index) (doc : DocId)
    → ((other : DocId) → holders_at after other ≡ cond (eqb doc.0 other.0) (w (holders_at before other)) (holders_at before other))
    → (holders_at after doc ≡ w (holders_at before doc)) × ((other : DocId) → eqb doc.0 other.0 ≡ false → has_holder after other ≡ has_holder before other)
changed_at w before after doc holders = (
  holders doc ∙ ap (λ t. cond t (w (holders_at before doc)) (holders_at before doc)) (eq-eqb doc.0 doc.0 refl),
  λ other e. ap (λ list. nat_lt 0 (length list)) (holders other ∙ ap (λ t. cond t (w (holders_at before other)) (holders_at before other)) e),
)

pub step_added : (run : RunId) (before after : Index) (doc : DocId) (is_first : Bool)
    → ((other : DocId) → holders_at after other ≡ cond (eqb doc.0 other.0) (with_holder run (holders_at before other)) (holders_at before other))
    → is_first ≡ not (has_holder before doc) → IsStep (has_holder before) (has_holder after) doc is_first
step_added run before after doc is_first holders told =
    let changed = changed_at (with_holder run) before after doc holders in
    record {
      new = λ e. not-true (has_holder before doc) (sym told ∙ e);
      here = ap (λ list. nat_lt 0 (length list)) changed.0 ∙ some_put (λ holder. nat_lt run.0 holder.0) run (holders_at before doc)
          ∙ either (has_holder before doc) ∙ ap (λ t. t || has_holder before doc) (sym told);
      others = changed.1;
    }
  where
    either : (b : Bool) → true ≡ (not b || b)
    either true = refl
    either false = refl

pub step_removed : (run : RunId) (before after : Index) (doc : DocId) (was_last : Bool)
    → ((other : DocId) → holders_at after other ≡ cond (eqb doc.0 other.0) (without_holder run (holders_at before other)) (holders_at before other))
    → was_last ≡ (has_holder before doc && not (has_holder after doc)) → IsStep (has_holder after) (has_holder before) doc was_last
step_removed run before after doc was_last holders told =
    let changed = changed_at (without_holder run) before after doc holders in
    let had : has_holder after doc ≡ true → has_holder before doc ≡ true =
    λ h. some_left (λ holder. not (eqb holder.0 run.0)) (holders_at before doc) (sym (ap (λ list. nat_lt 0 (length list)) changed.0) ∙ h) in
    record {
      new = λ e. none (has_holder before doc) (has_holder after doc) (sym told ∙ e);
      here = either (has_holder before doc) (has_holder after doc) had ∙ ap (λ t. t || has_holder after doc) (sym told);
      others = λ other e. sym (changed.1 other e);
    }
  where
    none : (a b : Bool) → (a && not b) ≡ true → b ≡ false
    none true true h = sym h
    none a false h = refl
    none false true h = absurd (false≢true h)

    either : (a b : Bool) → (b ≡ true → a ≡ true) → a ≡ ((a && not b) || b)
    either true true h = refl
    either true false h = refl
    either false true h = h refl
    either false false h = refl

pub added : (is_new : Bool) (n m : ℕ) → cond is_new (n + m + 1) (n + m) ≡ n + cond is_new (m + 1) m
added true n m = omega arith
added false n m = refl

pub taken_away : (was_last : Bool) (n m : ℕ) → cond was_last (n + 1) n + m ≡ n + cond was_last (m + 1) m
taken_away true n m = omega arith
taken_away false n m = refl

pub one_more_at_most : (is_new : Bool) (m i now : ℕ) → m ≤ i → now ≡ cond is_new (m + 1) m → now ≤ i + 1
one_more_at_most true m i now few e = omega arith
one_more_at_most false m i now few e = omega arith

-- ---- the documents of an index

module _ (index : Index) (ordered : IsOrdered doc_cmp index) where
  held_once : IsDistinct same_doc (held_docs index.entries)
  held_once = listed_once index.entries ordered

  pub count_held : IsCount (has_holder index) (length (held_docs index.entries))
  count_held = count_by_list (has_holder index) (held_docs index.entries) held_once (λ doc. listed doc index.entries ordered)

  pub held_counted : (count : ℕ) → IsCount (has_holder index) count → count ≡ length (held_docs index.entries)
  held_counted count counts = counts (held_docs index.entries) (AllPairs-from_IsDistinct decided _ held_once) (λ doc. listed doc index.entries ordered)

pub few_held : (entries : List IndexEntry) → length (held_docs entries) ≤ length entries
few_held [] = omega arith
few_held (entry ∷ entries) = rw (listed-cons entry entries) (at (is_held entry) (few_held entries))
  where
    at : (t : Bool) → length (held_docs entries) ≤ length entries → length (cond t (entry.0 ∷ held_docs entries) (held_docs entries)) ≤ suc (length entries)
    at true rest = omega arith
    at false rest = omega arith

-- an index that has the holders of each document
module _ (runs : List Held) (index : Index) (holders : (doc : DocId) → holders_at index doc ≡ holders_of doc runs) (count : ℕ) where
  held_same : (doc : DocId) → has_holder index doc ≡ some_run_holds doc runs
  held_same doc = ap (λ list. nat_lt 0 (length list)) (holders doc) ∙ any_holder doc runs

  pub runs_counted : IsCount (has_holder index) count → IsCount (λ doc. some_run_holds doc runs) count
  runs_counted = same_count (has_holder index) (λ doc. some_run_holds doc runs) count held_same

  pub index_counted : IsCount (λ doc. some_run_holds doc runs) count → IsCount (has_holder index) count
  index_counted = same_count (λ doc. some_run_holds doc runs) (has_holder index) count (λ doc. sym (held_same doc))

-- the count before a run was taken away from some documents
pub count_before : (runs : List Held) (before after : Index) → ((doc : DocId) → holders_at before doc ≡ holders_of doc runs)
    → IsOrdered doc_cmp before → IsOrdered doc_cmp after
    → (count fewer : ℕ) → ((n : ℕ) → IsCount (has_holder after) n → IsCount (has_holder before) (n + fewer)) → IsCount (λ doc. some_run_holds doc runs) count
    → count ≡ length (held_docs after.entries) + fewer
count_before runs before after holders ordered also count fewer back counts =
    held_counted before ordered count (index_counted runs before holders count counts) ∙ sym (held_counted before ordered _ (back _ (count_held after also)))
