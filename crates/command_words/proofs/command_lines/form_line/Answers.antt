use Rattle.std.proofs.lemmas.Result.{IfOk-weaker}
use Rattle.command_words.specs.Words.{form_of}
use Rattle.command_words.proofs.Programs.{form_line_is}
use Rattle.command_words.proofs.command_lines.form_line.Goals as goal

pub returns : goal.returns
returns c = IfOk-weaker c.args-2.result _ _
    (λ line. form_line_is (form_of c.args.form.now) c.new.result line c.in_ok-arguments.arguments.items c.new.ensures.app c.in_ok-arguments.ensures) c.args-2.ensures
