use Rattle.std.proofs.lemmas.List.{take_rest}
use Rattle.trec_formats.proofs.runs.lists.group_at.Goals as goal

pub returns : goal.returns
returns c = rw take_rest at c.first_group.ensures
