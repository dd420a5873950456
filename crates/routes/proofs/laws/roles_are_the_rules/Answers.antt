use Rattle.routes.proofs.PathTable.RowAsks.{roles_same}
use Rattle.routes.proofs.laws.roles_are_the_rules.Goals as goal

pub returns : goal.returns
returns c = roles_same
