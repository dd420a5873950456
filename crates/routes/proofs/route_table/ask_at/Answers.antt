use Rattle.std.proofs.Common.{arith}
use Rattle.routes.specs.declared.route_table.Question.TheVariants as question
use Rattle.routes.proofs.PathTable.TableRows.{numbered}
use Rattle.routes.proofs.route_table.ask_at.Goals as goal

pub returns-in-Topics-clause-ask : goal.returns-in-Topics-clause-ask
returns-in-Topics-clause-ask c = rw c.in-Topics.is (c.ask_topics.ensures.ask c.args.text.now)

pub returns-in-Pool-clause-ask : goal.returns-in-Pool-clause-ask
returns-in-Pool-clause-ask c = rw c.in-Pool.is (c.ask_pool.ensures c.args.body.now)

pub returns-in-Scores-clause-ask : goal.returns-in-Scores-clause-ask
returns-in-Scores-clause-ask c = rw c.in-Scores.is (c.ask_scores.ensures c.args.body.now)

pub ask_grade-requires : goal.ask_grade-requires
ask_grade-requires c = numbered question.Grade (grind arith) c.args.place c.requires.known c.in-Grade.is c.args.text.now c.requires.fitting

pub ask_release-requires : goal.ask_release-requires
ask_release-requires c = numbered question.Release (grind arith) c.args.place c.requires.known c.in-Release.is c.args.text.now c.requires.fitting

pub path_number-requires : goal.path_number-requires
path_number-requires c = numbered question.ReleaseQrels (grind arith) c.args.place c.requires.known c.in-ReleaseQrels.is c.args.text.now c.requires.fitting

pub path_number-requires-in-ReleaseScores : goal.path_number-requires-in-ReleaseScores
path_number-requires-in-ReleaseScores c =
    numbered question.ReleaseScores (grind arith) c.args.place c.requires.known c.in-ReleaseScores.is c.args.text.now c.requires.fitting
