use Rattle.std.proofs.Common.{◌∙◌, ◌++◌, ap, arith, sym, true, vec_len}
use Rattle.routes.specs.Answers.{body_of, status_of, text_of}
use Rattle.http_wire.specs.Answers.{answer_text}
use Rattle.routes.proofs.AnswerTexts.AnswerSizes.{text_few}
use Rattle.routes.proofs.AnswerTexts.ByteParts.{behind_first}
use Rattle.routes.proofs.answers.write_object.Goals as goal

pub returns-in_err-write_body-clause-few : goal.returns-in_err-write_body-clause-few
returns-in_err-write_body-clause-few c =
    λ plain short. text_few c.args.answer.now c.args.close c.status_of-status.ensures.small (c.write_body.ensures.few plain short)

pub returns-in-Ok-clause-ok : goal.returns-in-Ok-clause-ok
unfolding text_of
returns-in-Ok-clause-ok c =
    behind_first c.args.out.now.items (vec_len c.args.out.now) (body_of c.args.answer.now) c.write_body.new.out.items c.put_head.new.out.items
    (answer_text (status_of c.args.answer.now) true c.args.close) (omega (arith, c.args.out.now.ok.0)) c.in_ok-write_body.ensures.adds.text_added
    (rw (c.len-before.ensures, c.status_of-status.ensures.status) at c.in-Ok.ensures.ok)
    ∙ ap (λ json. c.args.out.now.items ++ answer_text (status_of c.args.answer.now) json c.args.close (body_of c.args.answer.now)) (sym c.requires)

pub returns-in-Ok-clause-few : goal.returns-in-Ok-clause-few
returns-in-Ok-clause-few c = λ plain short. text_few c.args.answer.now c.args.close c.status_of-status.ensures.small (c.write_body.ensures.few plain short)

pub returns-in-Err-clause-few : goal.returns-in-Err-clause-few
returns-in-Err-clause-few c = λ plain short. text_few c.args.answer.now c.args.close c.status_of-status.ensures.small (c.write_body.ensures.few plain short)
