-- The run stands at each document so far, the other holders stay, and the documents that had none are counted.
use Rattle.std.proofs.Common.{◌≡◌, ℕ, ◌+◌, ◌<◌, ◌≤◌, true, take, get_or, length, if◌then◌else◌}
use Rattle.decimal_rank.specs.declared.naming.DocId.{DocId}
use Rattle.depth_pool.specs.Holdings.{IsCount, has_doc}
use Rattle.depth_pool.specs.Index.{has_holder, holders_at, has_room, with_holder}
use Rattle.depth_pool.proofs.index.add_holders.Given as goal

abbrev pub invariant-loop-doc : goal.invariant-loop-doc
invariant-loop-doc l = record {
  room : (k : ℕ) → l.doc-index ≤ k → k < length l.docs → has_room l.index (get_or l.docs k (record { 0 = 0 })) ≡ true;
  holders : (other : DocId) → holders_at l.index other
      ≡ (if has_doc other (take l.doc-index l.docs) then with_holder l.run (holders_at l.initial.index other) else holders_at l.initial.index other);
  few : l.more ≤ l.doc-index;
  count : (count : ℕ) → IsCount (has_holder l.initial.index) count → IsCount (has_holder l.index) (count + l.more);
}
