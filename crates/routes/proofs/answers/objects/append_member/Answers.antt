use Rattle.std.proofs.Common.{subst}
use Rattle.decimal_rank.specs.Texts.Additions.{Adds}
use Rattle.routes.specs.Json.MemberValues.{value_text}
use Rattle.routes.proofs.AnswerTexts.ByteParts.{member_behind}
use Rattle.routes.proofs.answers.objects.append_member.Goals as goal

pub returns : goal.returns
returns c =
    subst (λ text. Adds c.args.out.now c.append_named.new.out text c.append_named.result)
    (member_behind c.args.front.now c.args.member.now.0.now (value_text c.args.member.now.1)) c.append_named.ensures
