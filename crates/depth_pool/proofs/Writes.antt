-- One write to the index, and what it says at each document.
use Rattle.std.proofs.Common.{◌≡◌, ◌≢◌, ℕ, ◌<◌, ◌≤◌, Bool, true, false, cond, ◌||◌, get_or, take, nat_lt, eqb, List, [], Option, Some, None, eq-eqb, length, refl, sym, ap, ◌∙◌, arith}
use Rattle.std.specs.BTreeMap.{get}
use Rattle.std.specs.Option.{option_map_or}
use Rattle.std.specs.Ordering.{nat_cmp, is_eq}
use Rattle.std.proofs.lemmas.List.{get_or-take, length-take-le, get_or_default}
use Rattle.std.proofs.lemmas.List.Folds.{list_any_none}
use Rattle.decimal_rank.specs.Rankings.Places.{AreDistinct}
use Rattle.depth_pool.specs.Holdings.{has_doc}
use Rattle.std.proofs.lemmas.Bool.Decides.{nat_tests}
use Rattle.smallvec.specs.SmallVec.{SmallVec}
use borrow.Author.Tests.{eqb-true}
use Rattle.std.proofs.lemmas.Bool.{ne_eqb}
use Rattle.decimal_rank.specs.declared.naming.DocId.{DocId}
use Rattle.depth_pool.specs.declared.runs.RunId.{RunId}
use Rattle.depth_pool.specs.Index.{Index, doc_cmp, holders_at, has_room, is_vacant}

abbrev pub Entry : Type 0
Entry = Option (SmallVec RunId)

abbrev pub numbered : ℕ → DocId
numbered n = record { 0 = n }

pub same_number : (d e : DocId) → d.0 ≡ e.0 → d ≡ e
same_number d e h = ap numbered h

pub is_eq-nat_cmp : (a b : ℕ) → is_eq (nat_cmp a b) ≡ eqb a b
is_eq-nat_cmp a b = grind (arith, nat_tests)

-- the entry of one document is written
pub record IsWrittenAt (before after : Index) (doc : DocId) (entry : Entry) : Type 0 where
  pub each : (other : DocId) → get doc_cmp after other ≡ cond (is_eq (doc_cmp doc other)) entry (get doc_cmp before other)

cond_ap : {X Y : Type 0} (f : X → Y) (t : Bool) (a b : X) → f (cond t a b) ≡ cond t (f a) (f b)
cond_ap f true a b = refl
cond_ap f false a b = refl

-- what is read at each document, where the write changes it by h
pub read_after : {Y : Type 0} (f : Entry → Y) (h : Y → Y) (before after : Index) (doc : DocId) (entry : Entry)
    → IsWrittenAt before after doc entry → f entry ≡ h (f (get doc_cmp before doc))
    → (other : DocId) → f (get doc_cmp after other) ≡ cond (eqb doc.0 other.0) (h (f (get doc_cmp before other))) (f (get doc_cmp before other))
read_after {Y} f h before after doc entry written changed other =
    ap f (written.each other) ∙ cond_ap f (is_eq (doc_cmp doc other)) entry (get doc_cmp before other)
    ∙ ap (λ t. cond t (f entry) (f (get doc_cmp before other))) (is_eq-nat_cmp doc.0 other.0)
    ∙ at (eqb doc.0 other.0) refl
  where
    at : (t : Bool) → eqb doc.0 other.0 ≡ t
        → cond t (f entry) (f (get doc_cmp before other)) ≡ cond t (h (f (get doc_cmp before other))) (f (get doc_cmp before other))
    at true e = changed ∙ ap (λ d. h (f (get doc_cmp before d))) (same_number doc other (eqb-true doc.0 other.0 e))
    at false e = refl

-- a write that keeps the holders
pub kept_holders : (before after : Index) (doc : DocId) (entry : Entry) → IsWrittenAt before after doc entry
    → option_map_or (λ v. v.items) entry [] ≡ holders_at before doc → (other : DocId) → holders_at after other ≡ holders_at before other
kept_holders before after doc entry written same other =
    read_after (λ e. option_map_or (λ v. v.items) e []) (λ x. x) before after doc entry written same other ∙ both (eqb doc.0 other.0)
  where
    both : (t : Bool) → cond t (holders_at before other) (holders_at before other) ≡ holders_at before other
    both true = refl
    both false = refl

-- an entry that is taken out
pub taken_out : (before after : Index) (doc : DocId) → IsWrittenAt before after doc None → is_vacant after doc ≡ false
taken_out before after doc written =
    ap (λ (e : Entry). option_map_or (λ holders. eqb (length holders.items) 0) e false) (written.each doc)
    ∙ ap (λ t. option_map_or (λ holders. eqb (length holders.items) 0) (cond t None (get doc_cmp before doc)) false)
    (is_eq-nat_cmp doc.0 doc.0 ∙ eq-eqb doc.0 doc.0 refl)

pub vacant_others : (before after : Index) (doc : DocId) → IsWrittenAt before after doc None → (other : DocId)
    → is_vacant before other ≡ false → is_vacant after other ≡ false
vacant_others before after doc written other h =
    ap (λ (e : Entry). option_map_or (λ holders. eqb (length holders.items) 0) e false) (written.each other) ∙ both (is_eq (doc_cmp doc other))
  where
    both : (t : Bool) → option_map_or (λ holders. eqb (length holders.items) 0) (cond t None (get doc_cmp before other)) false ≡ false
    both true = refl
    both false = h

-- a write that keeps the room
pub kept_room : (before after : Index) (doc : DocId) (entry : SmallVec RunId) → IsWrittenAt before after doc (Some entry)
    → (has_room before doc ≡ true → nat_lt (length entry.items) entry.capacity ≡ true)
    → (other : DocId) → has_room before other ≡ true → has_room after other ≡ true
kept_room before after doc entry written room other h =
    ap (λ e. option_map_or (λ v. nat_lt (length v.items) v.capacity) e false) (written.each other)
    ∙ cond_ap (λ (e : Entry). option_map_or (λ v. nat_lt (length v.items) v.capacity) e false)
    (is_eq (doc_cmp doc other)) (Some entry) (get doc_cmp before other)
    ∙ ap (λ t. cond t (nat_lt (length entry.items) entry.capacity) (has_room before other)) (is_eq-nat_cmp doc.0 other.0)
    ∙ at (eqb doc.0 other.0) refl
  where
    at : (t : Bool) → eqb doc.0 other.0 ≡ t → cond t (nat_lt (length entry.items) entry.capacity) (has_room before other) ≡ true
    at true e = room (ap (has_room before) (same_number doc other (eqb-true doc.0 other.0 e)) ∙ h)
    at false e = h

-- the room of the other documents
pub other_room : (before after : Index) (doc : DocId) (entry : SmallVec RunId) → IsWrittenAt before after doc (Some entry)
    → (other : DocId) → other ≢ doc → has_room after other ≡ has_room before other
other_room before after doc entry written other apart =
    ap (λ e. option_map_or (λ v. nat_lt (length v.items) v.capacity) e false)
    (written.each other ∙ ap (λ t. cond t (Some entry) (get doc_cmp before other)) (is_eq-nat_cmp doc.0 other.0 ∙ no (eqb doc.0 other.0) refl))
  where
    no : (t : Bool) → eqb doc.0 other.0 ≡ t → t ≡ false
    no true e = absurd (apart (sym (same_number doc other (eqb-true doc.0 other.0 e))))
    no false e = refl

-- room is a smaller length than the capacity
pub room_from : (v : SmallVec RunId) → length v.items < v.capacity → nat_lt (length v.items) v.capacity ≡ true
room_from v h = grind (arith, nat_tests)

pub room_to : (v : SmallVec RunId) → nat_lt (length v.items) v.capacity ≡ true → length v.items < v.capacity
room_to v h = grind (arith, nat_tests)

-- ---- one document after another

-- what is at a document after one more of a list was written
pub one_more : (w : List RunId → List RunId) (old now new : List RunId) (here before more : Bool) → more ≡ (before || here)
    → (here ≡ true → before ≡ true → w (w old) ≡ w old)
    → new ≡ cond here (w now) now → now ≡ cond before (w old) old → new ≡ cond more (w old) old
one_more w old now new true true more m twice n h = n ∙ ap w h ∙ twice refl refl ∙ sym (ap (λ t. cond t (w old) old) m)
one_more w old now new true false more m twice n h = n ∙ ap w h ∙ sym (ap (λ t. cond t (w old) old) m)
one_more w old now new false true more m twice n h = n ∙ h ∙ sym (ap (λ t. cond t (w old) old) m)
one_more w old now new false false more m twice n h = n ∙ h ∙ sym (ap (λ t. cond t (w old) old) m)

-- a document of a list without repeats doesn't stand before its index
pub not_before : (docs : List DocId) (i : ℕ) (other : DocId) → AreDistinct docs → i < length docs
    → eqb (get_or docs i (numbered 0)).0 other.0 ≡ true → has_doc other (take i docs) ≡ false
not_before docs i other distinct lt here =
    list_any_none (λ d. eqb d.0 other.0) (take i docs) (λ k d h.
    let short : length (take i docs) ≡ i = length-take-le i docs (omega arith) in
    let below : k < i = omega arith in
    ap (λ (x : DocId). eqb x.0 other.0) (get_or-take i docs k d below)
    ∙ ne_eqb (get_or docs k d).0 other.0
    (λ e. distinct k i d below lt (same_number _ _ (e ∙ sym (eqb-true _ _ here) ∙ ap (λ (x : DocId). x.0) (get_or_default docs i (numbered 0) d lt)))))

-- ---- room at an entry that was written

-- one that lost no capacity and gained no run
pub grown_room : (before : Index) (doc : DocId) (old new : SmallVec RunId) → get doc_cmp before doc ≡ Some old
    → length new.items ≡ length old.items → old.capacity ≤ new.capacity
    → has_room before doc ≡ true → nat_lt (length new.items) new.capacity ≡ true
grown_room before doc old new found same wide h =
    let had : nat_lt (length old.items) old.capacity ≡ true = sym (ap (λ e. option_map_or (λ v. nat_lt (length v.items) v.capacity) e false) found) ∙ h in
    let room = room_to old had in
    room_from new (omega arith)

-- one that kept its capacity and gained no run
pub shrunk_room : (before : Index) (doc : DocId) (old new : SmallVec RunId) → get doc_cmp before doc ≡ Some old
    → length new.items ≤ length old.items → new.capacity ≡ old.capacity
    → has_room before doc ≡ true → nat_lt (length new.items) new.capacity ≡ true
shrunk_room before doc old new found short same h =
    let had : nat_lt (length old.items) old.capacity ≡ true = sym (ap (λ e. option_map_or (λ v. nat_lt (length v.items) v.capacity) e false) found) ∙ h in
    let room = room_to old had in
    room_from new (omega arith)
