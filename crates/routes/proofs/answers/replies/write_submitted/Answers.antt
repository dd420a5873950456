use Rattle.std.proofs.Common.{rules}
use Rattle.routes.proofs.AnswerTexts.AnswerSizes.{submitted_few}
use Rattle.routes.proofs.answers.replies.write_submitted.Goals as goal

pub returns-clause-few : goal.returns-clause-few
returns-clause-few c = λ name. submitted_few c.args.run.now c.args.topics c.args.lines (search rules) (search rules) name
