use Rattle.std.proofs.Common.{◌≡◌, ◌∙◌, Some, ap, sym, refl, bytes_eq, true}
use Rattle.std.specs.List.{list_any}
use Rattle.std.specs.Option.{option_map}
use Rattle.decimal_rank.specs.Names.{number_of}
use Rattle.eval.proofs.Topics.{is_among}
use Rattle.eval.proofs.judgements.place_of.Goals as goal

pub returns-in-Some-clause-topics : goal.returns-in-Some-clause-topics
returns-in-Some-clause-topics c =
    let topics = c.args.topics.now in
    let number : number_of topics c.args.topic.now ≡ Some c.in-Some.number.0 =
    sym c.topic_number.ensures ∙ ap (option_map (λ number. number.0)) c.in-Some.is in
    let among : list_any (bytes_eq c.args.topic.now) topics ≡ true = is_among topics c.args.topic.now c.in-Some.number.0 number in
    rw among refl

pub returns-in-Some-clause-tallies : goal.returns-in-Some-clause-tallies
returns-in-Some-clause-tallies c =
    let topics = c.args.topics.now in
    let number : number_of topics c.args.topic.now ≡ Some c.in-Some.number.0 =
    sym c.topic_number.ensures ∙ ap (option_map (λ number. number.0)) c.in-Some.is in
    let among : list_any (bytes_eq c.args.topic.now) topics ≡ true = is_among topics c.args.topic.now c.in-Some.number.0 number in
    rw among refl
