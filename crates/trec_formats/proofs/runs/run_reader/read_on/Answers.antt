use Rattle.std.proofs.Common.{arith, ◌++◌}
use Rattle.trec_formats.proofs.runs.run_reader.read_on.Goals as goal

pub returns-in-Ok-clause-held : goal.returns-in-Ok-clause-held
returns-in-Ok-clause-held c = λ fed held.
    let w = rw c.in-Reads.is at held in
    (c.in-Ok.ensures.within, omega (arith, w.1, c.in-Ok.ensures.number), (w.2.0 ++ c.args.piece.now, c.in-Ok.ensures.ok w.2.0 w.2.1))
