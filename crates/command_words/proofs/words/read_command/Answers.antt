use Rattle.std.proofs.Common.{◌≡◌, ◌∙◌, List, Option, IfOk, map, option_map, string_bytes, rules, ap, subst}
use Rattle.command_words.specs.CommandLines.{found_by}
use Rattle.command_words.specs.Words.{Text, form_of, view_of}
use Rattle.command_words.proofs.Subcommands.{not_taken, taken, with_stray}
use Rattle.command_words.proofs.words.read_command.Goals as goal

pub returns-then-has_stray : goal.returns-then-has_stray
returns-then-has_stray c = with_stray (map form_of c.args.forms.now) (map string_bytes c.args.words.now) (search rules)

pub returns-in-Some : goal.returns-in-Some
returns-in-Some c =
    let forms = map form_of c.args.forms.now in
    let words = map string_bytes c.args.words.now in
    let matches = rw c.in-Some.is at c.in_ok-matches.ensures in
    subst (λ (given : Option (Text × List Text)). IfOk c.command_in.result (λ found. option_map view_of found ≡ given))
    (ap (found_by forms) matches.1 ∙ taken forms words c.requires (search rules) matches.0) c.command_in.ensures

pub returns-in-None : goal.returns-in-None
returns-in-None c =
    not_taken (map form_of c.args.forms.now) (map string_bytes c.args.words.now) c.requires (search rules) (rw c.in-None.is at c.in_ok-matches.ensures)
