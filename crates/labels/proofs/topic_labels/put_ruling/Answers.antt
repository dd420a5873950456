use Rattle.std.proofs.Common.{◌≡◌, ◌∙◌, None, ap, eqb, is_some, sym}
use Rattle.std.specs.Map.{lookup}
use Rattle.std.specs.Option.{option_copied_mut}
use Rattle.std.proofs.lemmas.Bool.{false≢true}
use Rattle.labels.specs.TopicLabelViews.{documents_of, room_at}
use Rattle.labels.proofs.Entries.{map_unchanged, marked_looked_up, ruling_set}
use Rattle.labels.proofs.topic_labels.put_ruling.Goals as goal

pub returns-in-Some-clause-marked : goal.returns-in-Some-clause-marked
returns-in-Some-clause-marked c =
    let new = c.rule.new.self in
    ap documents_of (c.get_mut.follows.holds new).0
    ∙ ruling_set c.args.doc c.args.grade c.in-Some.labels.now new c.args.marked.now.entries
    (sym c.in-Some.ensures.value) c.rule.ensures.given c.rule.ensures.ruling

pub returns-in-Some-clause-rooms : goal.returns-in-Some-clause-rooms
returns-in-Some-clause-rooms c = λ other.
    let new = c.rule.new.self in
    ap (λ entries. room_at entries other) (c.get_mut.follows.holds new).0
    ∙ ap (lookup (eqb other.0))
    (map_unchanged (eqb c.args.doc.0) c.in-Some.labels.now new (λ entry. (entry.0, entry.1.spare))
    (λ number. ap (λ room. (number, room)) c.rule.ensures.room) c.args.marked.now.entries (sym c.in-Some.ensures.value))

pub returns-in_default-clause-marked : goal.returns-in_default-clause-marked
returns-in_default-clause-marked c =
    let none : option_copied_mut c.get_mut.result ≡ None = ap option_copied_mut c.in_default.is in
    let missing = marked_looked_up c.args.doc c.args.marked.now.entries ∙ ap is_some (sym c.get_mut.ensures.value ∙ none) in
    absurd (false≢true (sym missing ∙ c.requires))
