use Rattle.std.proofs.Common.{◌≡◌, ◌∙◌, OnOk, rules, Some, None, ap, eqb, sym, subst}
use Rattle.std.specs.Map.{lookup}
use Rattle.std.specs.Option.{option_map}
use Rattle.std.proofs.lemmas.Result.{on_ok_weaker}
use Rattle.indexmap.specs.IndexMap.{spare}
use Rattle.labels.specs.DocumentLabels.{Labelled}
use Rattle.labels.specs.TopicLabelViews.{LabelHasRoom, documents_of, room_at}
use Rattle.labels.proofs.Entries.{found_again, marked_unchanged, room_looked_up}
use Rattle.labels.proofs.topic_labels.make_room.Goals as goal

pub returns-in-Some-clause-marked : goal.returns-in-Some-clause-marked
returns-in-Some-clause-marked c =
    let new = c.reserve.new.self in
    ap documents_of (c.get_mut.follows.holds new).0
    ∙ marked_unchanged (eqb c.args.doc.0) c.in-Some.labels.now new c.args.marked.now.entries
    (sym c.in-Some.ensures.value) c.reserve.ensures.given c.reserve.ensures.ruling

pub returns-in-Some-clause-room : goal.returns-in-Some-clause-room
returns-in-Some-clause-room c =
    let doc = c.args.doc in
    let new = c.reserve.new.self in
    let map = c.get_mut.follows.lender new in
    let found : lookup (eqb doc.0) map.entries ≡ Some new =
    ap (lookup (eqb doc.0)) (c.get_mut.follows.holds new).0
    ∙ found_again (eqb doc.0) c.in-Some.labels.now new c.args.marked.now.entries (sym c.in-Some.ensures.value) in
    let room : room_at map.entries doc ≡ Some new.spare = room_looked_up doc map.entries ∙ ap (option_map (λ (labels : Labelled). labels.spare)) found in
    subst (λ room. OnOk c.reserve.result (LabelHasRoom room (spare map) c.args.fresh.now.spare)) (sym room) c.reserve.ensures.room

pub returns-in_ok-reserve-in-None-clause-room : goal.returns-in_ok-reserve-in-None-clause-room
returns-in_ok-reserve-in-None-clause-room c =
    let doc = c.args.doc in
    let map = c.reserve-in-None.new.self in
    let same : c.get_mut.follows.lender-at-none ≡ c.args.marked.now = search rules in
    let none : lookup (eqb doc.0) map.entries ≡ None = ap (lookup (eqb doc.0)) c.reserve-in-None.ensures.entries
    ∙ ap (λ m. lookup (eqb doc.0) m.entries) same ∙ sym c.in-None.ensures.value in
    let room : room_at map.entries doc ≡ None = room_looked_up doc map.entries ∙ ap (option_map (λ (labels : Labelled). labels.spare)) none in
    subst (λ room. OnOk c.reserve-in-None-2.result (LabelHasRoom room (spare map) c.reserve-in-None-2.new.self.spare)) (sym room)
    (on_ok_weaker c.reserve-in-None-2.result (λ fresh. (c.in_ok-reserve-in-None.ensures.ok, fresh)) c.reserve-in-None-2.ensures.room)
