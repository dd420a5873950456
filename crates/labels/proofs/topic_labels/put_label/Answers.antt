use Rattle.std.proofs.Common.{◌≡◌, ◌∙◌, ◌<◌, ◌≤◌, ◌-◌, ◌^◌, [], None, ap, eqb, is_some, length, not, sym, subst, rules}
use Rattle.indexmap.specs.IndexMap.{insert_entry, spare}
use Rattle.labels.specs.DocumentLabels.{Labelled, with_label}
use Rattle.labels.specs.TopicLabelViews.{documents_of}
use Rattle.labels.proofs.Entries.{given_found, given_looked_up, label_inserted, label_set, marked_looked_up, new_room, old_room}
use Rattle.labels.proofs.topic_labels.put_label.Goals as goal

pub set-requires-clause-room : goal.set-requires-clause-room
set-requires-clause-room c =
    old_room c.args.doc c.in-Some.labels.now c.args.marked.now.entries (spare c.args.marked.now) c.args.fresh.now.spare c.in-Some.ensures.value c.requires.room

pub set-requires-clause-few : goal.set-requires-clause-few
set-requires-clause-few c =
    let same = ap given_found c.in-Some.ensures.value ∙ given_looked_up c.args.doc c.args.marked.now.entries in
    subst (λ given. length given < 2 ^ 32 - 1) (sym same) c.requires.few

pub set-requires-in-None-clause-room : goal.set-requires-in-None-clause-room
set-requires-in-None-clause-room c =
    let room = new_room c.args.doc c.args.marked.now.entries (spare c.args.marked.now) c.args.fresh.now.spare c.in-None.ensures.value c.requires.room in
    subst (λ (labels : Labelled). 1 ≤ labels.spare) (sym c.replace-labels.ensures.value) room.1

pub unwrap-requires : goal.unwrap-requires
unwrap-requires c =
    let room = new_room c.args.doc c.args.marked.now.entries (spare c.args.marked.now) c.args.fresh.now.spare c.in-None.ensures.value c.requires.room in
    let same : c.get_mut.follows.lender-at-none ≡ c.args.marked.now = search rules in
    c.insert.ensures.succeeds (subst (λ m. 1 ≤ spare m) (sym same) room.0)

pub returns-in-Some-clause-marked : goal.returns-in-Some-clause-marked
returns-in-Some-clause-marked c =
    let new = c.set.new.self in
    ap documents_of (c.get_mut.follows.holds new).0
    ∙ label_set c.args.doc c.args.assessor c.args.grade c.in-Some.labels.now new c.args.marked.now.entries
    (sym c.in-Some.ensures.value) c.set.ensures.given c.set.ensures.ruling

pub returns-in-None-clause-marked : goal.returns-in-None-clause-marked
returns-in-None-clause-marked c =
    let doc = c.args.doc in
    let before = c.args.marked.now.entries in
    let new = c.set-in-None.new.self in
    let entries : c.insert.new.self.entries ≡ insert_entry eqb before doc.0 new = search rules in
    let given : new.given ≡ with_label c.args.assessor c.args.grade [] =
    c.set-in-None.ensures.given ∙ ap (λ (labels : Labelled). with_label c.args.assessor c.args.grade labels.given) c.replace-labels.ensures.value
    ∙ ap (with_label c.args.assessor c.args.grade) c.requires.given in
    let ruling : new.ruling ≡ None =
    c.set-in-None.ensures.ruling ∙ ap (λ (labels : Labelled). labels.ruling) c.replace-labels.ensures.value ∙ c.requires.ruling in
    ap documents_of entries ∙ label_inserted doc c.args.assessor c.args.grade new before (sym c.in-None.ensures.value) given ruling

pub returns-in-Some-clause-first : goal.returns-in-Some-clause-first
returns-in-Some-clause-first c = sym (ap not (marked_looked_up c.args.doc c.args.marked.now.entries ∙ ap is_some (sym c.in-Some.ensures.value)))

pub returns-in-None-clause-first : goal.returns-in-None-clause-first
returns-in-None-clause-first c = sym (ap not (marked_looked_up c.args.doc c.args.marked.now.entries ∙ ap is_some (sym c.in-None.ensures.value)))
