-- Which documents the runs of a pool hold.
use Rattle.std.specs.Prelude.{◌≡◌, ◌≢◌, ℕ, ◌<◌, ◌==◌, ◌&&◌, nat_lt, Bool, true, not, List, [], ◌∷◌, Option, length, map, filter, AllPairs, if◌then◌else◌}
use Rattle.std.specs.Cmp.Lexicographic.{slice_cmp}
use Rattle.std.specs.List.{list_any}
use Rattle.std.specs.Ordering.{nat_cmp, is_lt}
use Rattle.decimal_rank.specs.Names.{docno_of}
use Rattle.decimal_rank.specs.Rankings.Places.{AreDistinct}
use Rattle.decimal_rank.specs.declared.naming.DocId.{DocId}
use Rattle.depth_pool.specs.declared.runs.RunId.{RunId}

-- a run, and the documents that it holds: those of rank at most the depth, by rank
pub record Held : Type 0 where
  pub run : RunId
  pub docs : List DocId

-- a pool: its depth, its runs by number, and the documents for which room is reserved
pub record Holdings : Type 0 where
  pub depth : ℕ
  pub runs : List Held
  pub room : Option (List DocId)

-- whether a document is among these
abbrev pub has_doc : DocId → List DocId → Bool
has_doc doc docs = list_any (λ other. other.0 == doc.0) docs

-- whether a run is in the pool
abbrev pub has_run : RunId → List Held → Bool
has_run run runs = list_any (λ held. held.run.0 == run.0) runs

-- whether a run is among these
abbrev pub has_id : RunId → List RunId → Bool
has_id run runs = list_any (λ other. other.0 == run.0) runs

-- the documents that a run of the pool holds, by rank: none where it isn't in the pool
abbrev pub pool_docs : List Held → RunId → List DocId
pool_docs [] run = []
pool_docs (held ∷ later) run = if held.run.0 == run.0 then held.docs else pool_docs later run

-- whether a run of the pool holds a document
abbrev pub pool_holds : List Held → RunId → DocId → Bool
pool_holds runs run doc = list_any (λ held. (held.run.0 == run.0) && has_doc doc held.docs) runs

-- whether some run of the pool holds a document
abbrev pub some_run_holds : DocId → List Held → Bool
some_run_holds doc runs = list_any (λ held. has_doc doc held.docs) runs

-- so many documents pass a test: so long is each list that has just those, each once
abbrev pub IsCount : (DocId → Bool) → ℕ → Type 0
IsCount passes count = (docs : List DocId) → AreDistinct docs → ((doc : DocId) → has_doc doc docs ≡ passes doc) → count ≡ length docs

-- the runs that hold a document, by number
abbrev pub holders_of : DocId → List Held → List RunId
holders_of doc runs = map (λ held. held.run) (filter (λ held. has_doc doc held.docs) runs)

-- an element put in before the first that passes a test, or at the end
abbrev pub put_before : {X : Type 0} → (X → Bool) → X → List X → List X
put_before passes x [] = x ∷ []
put_before passes x (y ∷ ys) = if passes y then x ∷ y ∷ ys else y ∷ put_before passes x ys

-- the runs with one more, put in by number
abbrev pub with_run : Held → List Held → List Held
with_run new runs = put_before (λ held. nat_lt new.run.0 held.run.0) new runs

-- the runs but for one
abbrev pub without_run : RunId → List Held → List Held
without_run run runs = filter (λ held. not (held.run.0 == run.0)) runs

-- the runs stand by number, each once
abbrev pub AreByNumber : List Held → Type 0
AreByNumber runs = AllPairs (λ a b. a.run.0 < b.run.0) runs

-- each other run is in the pool as before, and holds what it held
pub record KeepsOthers (old new : List Held) (run : RunId) : Type 0 where
  pub in_pool : (other : RunId) → other ≢ run → has_run other new ≡ has_run other old
  pub holdings : (other : RunId) (doc : DocId) → other ≢ run → pool_holds new other doc ≡ pool_holds old other doc

-- the documents stand by docno in byte order, each once
abbrev pub AreByDocno : List (List ℕ) → List DocId → Type 0
AreByDocno names docs = AllPairs (λ a b. is_lt (slice_cmp nat_cmp (docno_of names a.0) (docno_of names b.0)) ≡ true) docs
