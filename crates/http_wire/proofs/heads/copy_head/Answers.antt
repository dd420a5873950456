use Rattle.std.proofs.Common.{ap, ◌∙◌}
use Rattle.http_wire.specs.Heads.{is_last}
use Rattle.http_wire.proofs.MessageFronts.{says_of}
use Rattle.http_wire.proofs.heads.copy_head.Goals as goal

pub returns : goal.returns
returns c = λ head at.
    says_of c.args.text.now c.args.spans.now c.args.parts.now _ head at (c.in_ok-copy_text.ensures ∙ c.of.ensures)
    (c.in_ok-copy_text-2.ensures ∙ c.of-2.ensures)
    c.in_ok-fields.ensures (c.is_last.ensures ∙ ap (λ fields. is_last c.args.parts.now.version fields) c.items.ensures)
