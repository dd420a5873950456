use Rattle.std.proofs.Common.{◌∙◌, ap, nat_lt}
use Rattle.lease_desk.proofs.CountAnswers.{has_one}
use Rattle.lease_desk.proofs.desk.Desk.has.Goals as goal

pub returns : goal.returns
returns c = ap (nat_lt 0) c.count_on.ensures ∙ has_one c.args.self.now.leases c.args.assessor.now c.args.topic c.args.doc c.args.now
