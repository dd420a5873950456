use Rattle.std.proofs.Common.{◌≡◌, ◌∙◌, [], Some, true, ap}
use Rattle.std.specs.Borrow.{Bor}
use Rattle.clap.specs.Words.{Rule, rule_of}
use Rattle.command_words.specs.CommandLines.{place_rule}
use Rattle.command_words.specs.Words.{Text}
use Rattle.command_words.proofs.ValueLists.{all_pushed, pushed}
use Rattle.command_words.proofs.command_lines.add_places.Goals as goal

pub loop-name-preserved : goal.loop-name-preserved
loop-name-preserved c =
    let none : Bor Text = record { ref_ptr = (0, 0); now = [] } in
    pushed rule_of (λ name. place_rule name.now) _ _ _ _ _ _ none c.loop-name-test.true c.loop-name.invariant c.in_ok-push.ensures.items
    (ap rule_of c.required-place.ensures ∙ ap (λ (r : Rule). let rule : Rule = record r { required = true } in rule) c.new.ensures.rule)

pub returns : goal.returns
returns c = all_pushed rule_of (λ name. place_rule name.now) _ _ _ _ c.loop-name-test.false c.loop-name.invariant
