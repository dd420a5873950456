-- Each image agrees with the last sync.
use Rattle.disk_model.proofs.Syncs.{agrees}
use Rattle.disk_model.proofs.laws.images_agree_with_the_last_sync.Goals as goal

pub returns : goal.returns
returns c = agrees
