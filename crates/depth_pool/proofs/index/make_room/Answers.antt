use Rattle.std.proofs.Common.{◌≡◌, ◌∙◌, ap, sym, length, rules, [], Some, None, cond, ltb, false}
use Rattle.std.specs.BTreeMap.{get}
use Rattle.std.specs.Option.{option_map_or}
use Rattle.std.specs.Ordering.{is_eq}
use Rattle.std.proofs.lemmas.Bool.{false≢true}
use Rattle.depth_pool.specs.Index.{Index, doc_cmp}
use Rattle.depth_pool.proofs.Writes.{IsWrittenAt, kept_holders, kept_room, grown_room}
use Rattle.depth_pool.proofs.index.make_room.Goals as goal

pub returns-in_err-reserve-in-Some-clause-holders : goal.returns-in_err-reserve-in-Some-clause-holders
returns-in_err-reserve-in-Some-clause-holders c =
    let new = c.reserve.new.self in
    let found : get doc_cmp c.args.index.now c.args.doc ≡ Some c.in-Some.holders.now = search rules in
    let written : IsWrittenAt c.args.index.now (c.get_mut.follows.lender new) c.args.doc (Some new) =
    record { each = ((c.get_mut.follows.holds new).3 (search rules)).0 } in
    kept_holders _ _ c.args.doc (Some new) written (c.reserve.ensures.items ∙ sym (ap (λ e. option_map_or (λ v. v.items) e []) found))

pub returns-in_ok-reserve-in-Some-clause-holders : goal.returns-in_ok-reserve-in-Some-clause-holders
returns-in_ok-reserve-in-Some-clause-holders c =
    let new = c.reserve.new.self in
    let found : get doc_cmp c.args.index.now c.args.doc ≡ Some c.in-Some.holders.now = search rules in
    let written : IsWrittenAt c.args.index.now (c.get_mut.follows.lender new) c.args.doc (Some new) =
    record { each = ((c.get_mut.follows.holds new).3 (search rules)).0 } in
    kept_holders _ _ c.args.doc (Some new) written (c.reserve.ensures.items ∙ sym (ap (λ e. option_map_or (λ v. v.items) e []) found))

pub returns-in_err-reserve-in-Some-clause-rooms : goal.returns-in_err-reserve-in-Some-clause-rooms
returns-in_err-reserve-in-Some-clause-rooms c =
    let new = c.reserve.new.self in
    let found : get doc_cmp c.args.index.now c.args.doc ≡ Some c.in-Some.holders.now = search rules in
    let written : IsWrittenAt c.args.index.now (c.get_mut.follows.lender new) c.args.doc (Some new) =
    record { each = ((c.get_mut.follows.holds new).3 (search rules)).0 } in
    kept_room _ _ c.args.doc new written (grown_room c.args.index.now c.args.doc _ new found (ap length c.reserve.ensures.items) c.reserve.ensures.capacity)

pub returns-in_ok-reserve-in-Some-clause-rooms : goal.returns-in_ok-reserve-in-Some-clause-rooms
returns-in_ok-reserve-in-Some-clause-rooms c =
    let new = c.reserve.new.self in
    let found : get doc_cmp c.args.index.now c.args.doc ≡ Some c.in-Some.holders.now = search rules in
    let written : IsWrittenAt c.args.index.now (c.get_mut.follows.lender new) c.args.doc (Some new) =
    record { each = ((c.get_mut.follows.holds new).3 (search rules)).0 } in
    kept_room _ _ c.args.doc new written (grown_room c.args.index.now c.args.doc _ new found (ap length c.reserve.ensures.items) c.reserve.ensures.capacity)

pub returns-in_ok-insert-in-None-clause-holders : goal.returns-in_ok-insert-in-None-clause-holders
returns-in_ok-insert-in-None-clause-holders c =
    let none : get doc_cmp c.args.index.now c.args.doc ≡ None = search rules in
    let written : IsWrittenAt c.args.index.now c.insert.new.self c.args.doc (Some c.new.result) = record {
      each = λ q.
          c.in_ok-insert-in-None.ensures.updates.0 q
          ∙ ap (λ (m : Index). cond (is_eq (doc_cmp c.args.doc q)) (Some c.new.result) (get doc_cmp m q)) c.get_mut.follows.holds-at-none;
    } in
    kept_holders _ _ c.args.doc (Some c.new.result) written (c.new.ensures.items ∙ sym (ap (λ e. option_map_or (λ v. v.items) e []) none))

pub returns-in_ok-insert-in-None-clause-rooms : goal.returns-in_ok-insert-in-None-clause-rooms
returns-in_ok-insert-in-None-clause-rooms c =
    let none : get doc_cmp c.args.index.now c.args.doc ≡ None = search rules in
    let written : IsWrittenAt c.args.index.now c.insert.new.self c.args.doc (Some c.new.result) = record {
      each = λ q.
          c.in_ok-insert-in-None.ensures.updates.0 q
          ∙ ap (λ (m : Index). cond (is_eq (doc_cmp c.args.doc q)) (Some c.new.result) (get doc_cmp m q)) c.get_mut.follows.holds-at-none;
    } in
    kept_room _ _ c.args.doc c.new.result written
    (λ room. absurd (false≢true (sym (ap (λ e. option_map_or (λ v. ltb (length v.items) v.capacity) e false) none) ∙ room)))
