use Rattle.std.proofs.Common.{subst}
use Rattle.trec_formats.specs.RunFormat.RunStates.{IsRunAt}
use Rattle.trec_formats.proofs.RunTexts.RunEnds.{faulty_here}
use Rattle.trec_formats.proofs.runs.run_reader.end_progress.Goals as goal

pub returns-in-Faulty-clause-fault : goal.returns-in-Faulty-clause-fault
returns-in-Faulty-clause-fault c = λ text after. faulty_here text c.in-Faulty.fault (subst (IsRunAt text) c.in-Faulty.is after)
