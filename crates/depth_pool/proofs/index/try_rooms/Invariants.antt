-- Each document so far has room, and all keep their holders.
use Rattle.std.proofs.Common.{◌≡◌, true, take}
use Rattle.std.specs.List.{All}
use Rattle.decimal_rank.specs.declared.naming.DocId.{DocId}
use Rattle.depth_pool.specs.Index.{holders_at, has_room}
use Rattle.depth_pool.proofs.index.try_rooms.Given as goal

abbrev pub invariant-loop-doc : goal.invariant-loop-doc
invariant-loop-doc l = record {
  room : All (λ doc. has_room l.index doc ≡ true) (take l.doc-index l.docs);
  holders : (other : DocId) → holders_at l.index other ≡ holders_at l.initial.index other;
}
