use Rattle.std.proofs.Common.{◌≡◌, ◌∙◌, ap, sym, subst, arith, true}
use Rattle.std.specs.List.{All}
use Rattle.std.proofs.lemmas.Option.{same_Some}
use Rattle.decimal_rank.specs.declared.naming.DocId.{DocId}
use Rattle.depth_pool.specs.Holdings.{AreByNumber, IsCount, holders_of, some_run_holds}
use Rattle.depth_pool.specs.Index.{IsReserved, has_room}
use Rattle.depth_pool.proofs.pools.Pool.reserve.Goals as goal

pub invariant_of-self-2 : goal.invariant_of-self-2
invariant_of-self-2 c =
    let pool = c.self.invariant.0 in
    let room : All (λ doc. has_room c.make_rooms.new.index doc ≡ true) c.in_ok-docs.docs.items =
    subst (λ docs. All (λ (doc : DocId). has_room c.make_rooms.new.index doc ≡ true) docs) c.as_slice.ensures.value c.in_ok-make_rooms.ensures.room in (
      record {
        by_number = subst AreByNumber (sym c.reserve.ensures.items) pool.by_number;
        holders = λ doc. c.make_rooms.ensures.holders doc ∙ c.forget.ensures.holders doc ∙ pool.holders doc ∙ ap (holders_of doc) (sym c.reserve.ensures.items);
        count = subst (λ runs. IsCount (λ doc. some_run_holds doc runs) c.self.inside.held_docs) (sym c.reserve.ensures.items) pool.count;
      },
      λ docs is. (
        subst (λ v. IsReserved c.make_rooms.new.index v.items) (same_Some _ _ is) (record { distinct = c.in_ok-docs.ensures.distinct; room = room }),
        omega (arith, c.in_ok-reserve.ensures.ok),
      ),
    )
