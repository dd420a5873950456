use Rattle.std.proofs.Common.{◌∙◌}
use Rattle.lease_desk.proofs.CountAnswers.{on_document}
use Rattle.lease_desk.proofs.desk.Desk.live_on.Goals as goal

pub returns : goal.returns
returns c = c.count_on.ensures ∙ on_document c.args.self.now.leases c.args.topic c.args.doc c.args.now
