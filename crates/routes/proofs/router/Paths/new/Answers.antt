use Rattle.std.proofs.Common.{◌∙◌, refl}
use Rattle.matchit.proofs.OnLiterals.{matchit_on_literals}
use Rattle.routes.proofs.PathTable.CodeRows.{code_table}
use Rattle.routes.proofs.router.Paths.new.Goals as goal

pub invariant_of-result : goal.invariant_of-result
invariant_of-result c = (rw c.new-router.ensures at c.in_ok-add_rows.ensures) ∙ code_table

pub returns : goal.returns
returns c = (rw c.new-router.ensures at c.in_ok-add_rows.ensures) ∙ code_table

pub add_rows-requires : goal.add_rows-requires
unfolding matchit_on_literals
add_rows-requires c = rw c.new-router.ensures refl
