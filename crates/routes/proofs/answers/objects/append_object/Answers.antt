use Rattle.std.proofs.Common.{rules, ◌≡◌, Some, subst}
use Rattle.std.specs.Prelude.{slice_get}
use Rattle.decimal_rank.specs.Texts.Additions.{Adds}
use Rattle.routes.specs.Json.MemberValues.{shown}
use Rattle.routes.proofs.AnswerTexts.ByteParts.{members_split}
use Rattle.routes.proofs.answers.objects.append_object.Goals as goal

pub returns-in-len1-up : goal.returns-in-len1-up
returns-in-len1-up c =
    let here : slice_get c.args.members.now 0 ≡ Some c.first-item.result = search (rules, c.first-item.is) in
    subst (λ text. Adds c.args.out.now c.append_some.new.out text c.append_some.result)
    (members_split shown c.args.members.now c.first-item.result here) c.append_some.ensures
