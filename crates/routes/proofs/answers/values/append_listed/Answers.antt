use Rattle.std.proofs.Common.{rules, ◌≡◌, Some, subst}
use Rattle.std.specs.Prelude.{codes, slice_get}
use Rattle.decimal_rank.specs.Texts.Additions.{Adds}
use Rattle.routes.specs.Json.Objects.{quoted}
use Rattle.routes.proofs.AnswerTexts.ByteParts.{joined_split}
use Rattle.routes.proofs.answers.values.append_listed.Goals as goal

pub returns-in-len1-up : goal.returns-in-len1-up
returns-in-len1-up c =
    let here : slice_get c.args.texts.now 0 ≡ Some c.bytes.result.now = rw c.bytes.ensures (search (rules, c.first-item.is)) in
    subst (λ text. Adds c.args.out.now c.append_some.new.out text c.append_some.result)
    (joined_split quoted (codes "[") (codes "]") c.args.texts.now c.bytes.result.now here) c.append_some.ensures
