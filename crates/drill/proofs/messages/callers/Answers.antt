use Rattle.std.proofs.Common.{◌≡◌, List, true, IsTrue, refl, subst, sym}
use Rattle.routes.specs.Keys.{are_rows}
use Rattle.routes.specs.declared.keys.KeyRow.{KeyRow}
use Rattle.trec_formats.specs.Names.{is_name}
use Rattle.drill.specs.Messages.{callers}
use Rattle.drill.proofs.messages.callers.Goals as goal

are-callers : are_rows callers ≡ true
unfolding is_name
are-callers = refl

pub new-requires : goal.new-requires
new-requires c = subst (λ (rows : List KeyRow). IsTrue (are_rows rows)) (sym c.in_ok-rows.ensures) are-callers
