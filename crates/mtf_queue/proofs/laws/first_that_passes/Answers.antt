use Rattle.mtf_queue.proofs.FirstRuns.{first-passes}
use Rattle.mtf_queue.proofs.laws.first_that_passes.Goals as goal

pub returns : goal.returns
returns c = first-passes
