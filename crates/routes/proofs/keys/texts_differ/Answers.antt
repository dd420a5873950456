use Rattle.std.proofs.Common.{rules, ◌≡◌, Some, true, false, sym, ◌∙◌}
use Rattle.std.specs.Prelude.{slice_get}
use Rattle.routes.specs.Keys.{caller_text}
use Rattle.routes.proofs.Callers.{repeats_first, differs_first}
use Rattle.routes.proofs.keys.texts_differ.Goals as goal

pub returns-then-has_text : goal.returns-then-has_text
returns-then-has_text c =
    let here : slice_get c.loop-left.left.now 0 ≡ Some c.first-item.result = search (rules, c.first-item.is) in
    let there : c.has_text.result ≡ true = search (rules, c.if-has_text.true) in
    repeats_first (caller_text c.args.which) c.loop-left.left.now c.first-item.result c.text_of.result.now c.has_text.result
    here c.text_of.ensures c.has_text.ensures there ∙ sym c.loop-left.invariant

pub loop-left-preserved : goal.loop-left-preserved
loop-left-preserved c =
    let here : slice_get c.loop-left.left.now 0 ≡ Some c.first-item.result = search (rules, c.first-item.is) in
    let absent : c.has_text.result ≡ false = search (rules, c.if-has_text.false) in
    c.loop-left.invariant
    ∙ differs_first (caller_text c.args.which) c.loop-left.left.now c.first-item.result c.text_of.result.now
    c.has_text.result here c.text_of.ensures c.has_text.ensures absent
