-- The index of a pool: the runs that hold each document.
use Rattle.std.specs.Prelude.{◌≡◌, ℕ, ◌==◌, nat_lt, Bool, true, false, not, List, [], length, map, filter, All}
use Rattle.std.specs.BTreeMap.{BTreeMap, get}
use Rattle.std.specs.Option.{option_map_or}
use Rattle.std.specs.Ordering.{nat_cmp}
use Rattle.std.specs.declared.cmp.Ordering.{Ordering}
use Rattle.smallvec.specs.SmallVec.{SmallVec}
use Rattle.decimal_rank.specs.declared.naming.DocId.{DocId}
use Rattle.decimal_rank.specs.Rankings.Places.{AreDistinct}
use Rattle.depth_pool.specs.declared.runs.RunId.{RunId}
use Rattle.depth_pool.specs.Holdings.{Held, AreByNumber, IsCount, holders_of, put_before, some_run_holds}

-- by number
abbrev pub doc_cmp : DocId → DocId → Ordering
doc_cmp a b = nat_cmp a.0 b.0

-- from documents to the runs that hold them
abbrev pub Index : Type 0
Index = BTreeMap DocId (SmallVec RunId)

-- the runs that stand at a document
abbrev pub holders_at : Index → DocId → List RunId
holders_at index doc = option_map_or (λ holders. holders.items) (get doc_cmp index doc) []

-- whether a run stands at a document
abbrev pub has_holder : Index → DocId → Bool
has_holder index doc = nat_lt 0 (length (holders_at index doc))

-- whether one more run fits at a document with no memory taken
abbrev pub has_room : Index → DocId → Bool
has_room index doc = option_map_or (λ holders. nat_lt (length holders.items) holders.capacity) (get doc_cmp index doc) false

-- whether an entry stands at a document for no run
abbrev pub is_vacant : Index → DocId → Bool
is_vacant index doc = option_map_or (λ holders. length holders.items == 0) (get doc_cmp index doc) false

-- whether a document has a holder
abbrev pub is_held : DocId × SmallVec RunId → Bool
is_held entry = nat_lt 0 (length entry.1.items)

-- the documents that have a holder
abbrev pub held_docs : List (DocId × SmallVec RunId) → List DocId
held_docs entries = map (λ entry. entry.0) (filter is_held entries)

-- a run put in by number
abbrev pub with_holder : RunId → List RunId → List RunId
with_holder run holders = put_before (λ holder. nat_lt run.0 holder.0) run holders

-- the holders but for one
abbrev pub without_holder : RunId → List RunId → List RunId
without_holder run holders = filter (λ holder. not (holder.0 == run.0)) holders

-- these documents differ, and each has room for one more run
pub record IsReserved (index : Index) (docs : List DocId) : Type 0 where
  pub distinct : AreDistinct docs
  pub room : All (λ doc. has_room index doc ≡ true) docs

-- the runs stand by number, the index has the holders of each document, and the count is that of the documents that a run holds
pub record IsPool (runs : List Held) (index : Index) (total : ℕ) : Type 0 where
  pub by_number : AreByNumber runs
  pub holders : (doc : DocId) → holders_at index doc ≡ holders_of doc runs
  pub count : IsCount (λ doc. some_run_holds doc runs) total
