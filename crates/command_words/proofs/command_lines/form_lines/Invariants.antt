-- The command lines so far are those of the forms so far.
use Rattle.std.proofs.Common.{◌≡◌, map, take}
use Rattle.clap.specs.Words.{app_of}
use Rattle.command_words.specs.CommandLines.{form_line}
use Rattle.command_words.specs.Words.{form_of}
use Rattle.command_words.proofs.command_lines.form_lines.Given as goal

abbrev pub invariant-loop-form : goal.invariant-loop-form
invariant-loop-form l = map app_of l.lines.items ≡ map (λ form. form_line (form_of form)) (take l.form-index l.forms)
