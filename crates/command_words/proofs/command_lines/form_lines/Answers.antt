use Rattle.std.proofs.Common.{[]}
use Rattle.std.specs.Borrow.{Bor}
use Rattle.clap.specs.Words.{app_of}
use Rattle.command_words.specs.CommandLines.{form_line}
use Rattle.command_words.specs.Words.{form_of}
use Rattle.command_words.proofs.ValueLists.{all_pushed, pushed}
use Rattle.command_words.proofs.command_lines.form_lines.Goals as goal

pub loop-form-preserved : goal.loop-form-preserved
loop-form-preserved c =
    pushed app_of (λ form. form_line (form_of form)) [] _ _ _ _ _ (record { ref_ptr = (0, 0); now = [] }, record { ref_ptr = (0, 0); now = [] }, record { ref_ptr = (0, 0); now = [] })
    c.loop-form-test.true c.loop-form.invariant c.in_ok-push.ensures.items c.in_ok-line.ensures

pub returns : goal.returns
returns c = all_pushed app_of (λ form. form_line (form_of form)) [] _ _ _ c.loop-form-test.false c.loop-form.invariant
