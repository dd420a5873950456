use Rattle.score_index.proofs.Admissions.{bit-within}
use Rattle.score_index.proofs.filters.Filter.admits.Goals as goal

pub is_on-requires : goal.is_on-requires
is_on-requires g c = bit-within c.self.inside.count c.self.inside.bits c.args.doc c.self.invariant.0 c.self.invariant.1
