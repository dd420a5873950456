use Rattle.std.proofs.Common.{List, ◌∙◌, ◌++◌, ap, ap₂, map, sym}
use Rattle.clap.specs.Words.{Rule, rule_of}
use Rattle.clap.specs.declared.builder.arg.Arg.{Arg}
use Rattle.decimal_rank.proofs.Lists.{map-map}
use Rattle.command_words.specs.CommandLines.{option_rule, place_rule}
use Rattle.command_words.proofs.command_lines.form_arguments.Goals as goal

pub returns : goal.returns
returns c =
    let places = map (λ name. place_rule name.now) c.args.form.now.1.now in
    let options = map (λ name. option_rule name.now) c.args.form.now.2.now in
    c.in_ok-add_options.ensures
    ∙ ap (λ rules. rules ++ options) (c.in_ok-add_places.ensures ∙ ap (λ (first : List Arg). map rule_of first ++ places) c.new-arguments.ensures.items)
    ∙ sym (ap₂ (λ (first rest : List Rule). first ++ rest) (map-map place_rule (λ name. name.now) c.args.form.now.1.now)
    (map-map option_rule (λ name. name.now) c.args.form.now.2.now))
