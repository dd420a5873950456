use Rattle.std.proofs.Common.{◌∙◌, map, rules, sym}
use Rattle.std.proofs.lemmas.Result.{IfOk-weaker}
use Rattle.decimal_rank.proofs.Lists.{map-map}
use Rattle.command_words.specs.CommandLines.{form_line}
use Rattle.command_words.specs.Words.{form_of}
use Rattle.command_words.proofs.Programs.{program_line_is}
use Rattle.command_words.proofs.command_lines.command_line.Goals as goal

pub returns : goal.returns
returns c = IfOk-weaker c.subcommands.result _ _
    (λ line. program_line_is (map form_of c.args.forms.now) c.disable_help_subcommand-bare.result line c.in_ok-commands.commands.items (search rules)
    (c.in_ok-commands.ensures ∙ sym (map-map form_line form_of c.args.forms.now))) c.subcommands.ensures
