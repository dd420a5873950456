-- Whether the board has the runs' lists.
use Rattle.std.proofs.Common.{◌≡◌, refl}
use Rattle.assessment.specs.Changes.{Facts, after_change}
use Rattle.assessment.specs.declared.change.Change.{Change}
use Rattle.assessment.specs.declared.change.Change.TheVariants as change

-- no change takes them off or puts them on
pub stays-on : (c : Change) (known : Facts) → (after_change c known).on_board ≡ known.on_board
stays-on change.Nothing known = refl
stays-on (change.Topics given) known = refl
stays-on (change.Run run lists) known = refl
stays-on (change.Withdraw run) known = refl
stays-on (change.Lease grant) known = refl
stays-on (change.Grade number label) known = refl
stays-on (change.Release number) known = refl
stays-on (change.Amend label) known = refl
stays-on (change.Rule ruling) known = refl
