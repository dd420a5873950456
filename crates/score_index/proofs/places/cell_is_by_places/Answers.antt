use Rattle.score_index.proofs.Cells.ByPlaces.{by-places}
use Rattle.score_index.proofs.places.cell_is_by_places.Goals as goal

pub returns : goal.returns
returns c = λ grades r n level. by-places grades r n level
