use Rattle.std.proofs.Common.{◌≡◌, ◌∙◌, true}
use Rattle.std.proofs.lemmas.List.Elements.{All-more}
use Rattle.depth_pool.specs.Index.{has_room}
use Rattle.depth_pool.proofs.Writes.{numbered}
use Rattle.depth_pool.proofs.index.try_rooms.Goals as goal

pub loop-doc-preserved : goal.loop-doc-preserved
loop-doc-preserved c = record {
  room = All-more (λ doc. has_room c.make_room.new.index doc ≡ true) c.args.docs.now c.loop-doc.doc-index (numbered 0) c.loop-doc-test.true
      (λ k d h. c.make_room.ensures.rooms _ (c.loop-doc.invariant.room k d h)) c.in_ok-make_room.ensures.room;
  holders = λ other. c.make_room.ensures.holders other ∙ c.loop-doc.invariant.holders other;
}
