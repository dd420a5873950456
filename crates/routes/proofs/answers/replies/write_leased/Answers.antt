use Rattle.std.proofs.Common.{rules}
use Rattle.routes.proofs.AnswerTexts.AnswerSizes.{leased_few}
use Rattle.routes.proofs.answers.replies.write_leased.Goals as goal

pub returns-clause-few : goal.returns-clause-few
returns-clause-few c =
    λ name docno printable. leased_few c.args.lease c.args.topic.now c.args.doc.now c.args.until c.args.title.now
    (search rules) (search rules) name docno printable
