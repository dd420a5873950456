-- The run is gone from each document so far, room stays, and the documents that lost their last are counted.
use Rattle.std.proofs.Common.{◌≡◌, ℕ, ◌+◌, ◌≤◌, true, take, if◌then◌else◌}
use Rattle.decimal_rank.specs.declared.naming.DocId.{DocId}
use Rattle.depth_pool.specs.Holdings.{IsCount, has_doc}
use Rattle.depth_pool.specs.Index.{has_holder, holders_at, has_room, without_holder}
use Rattle.depth_pool.proofs.index.remove_holders.Given as goal

abbrev pub invariant-loop-doc : goal.invariant-loop-doc
invariant-loop-doc l = record {
  holders : (other : DocId) → holders_at l.index other
      ≡ (if has_doc other (take l.doc-index l.docs) then without_holder l.run (holders_at l.initial.index other) else holders_at l.initial.index other);
  rooms : (other : DocId) → has_room l.initial.index other ≡ true → has_room l.index other ≡ true;
  few : l.fewer ≤ l.doc-index;
  count : (count : ℕ) → IsCount (has_holder l.index) count → IsCount (has_holder l.initial.index) (count + l.fewer);
}
