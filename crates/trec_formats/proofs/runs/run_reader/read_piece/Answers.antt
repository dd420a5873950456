use Rattle.std.proofs.Common.{arith, subst, take, ◌++◌}
use Rattle.std.proofs.lemmas.Result.{err_from_is_err_and}
use Rattle.trec_formats.specs.RunFormat.RunStates.{IsFaulty, IsRunRead}
use Rattle.trec_formats.proofs.RunTexts.RunFeeds.{piece_more, piece_whole}
use Rattle.trec_formats.proofs.RunTexts.RunLines.{of_fault_weaker}
use Rattle.trec_formats.proofs.runs.run_reader.read_piece.Goals as goal

pub returns-in_err-at-clause-fault : goal.returns-in_err-at-clause-fault
returns-in_err-at-clause-fault c =
    let p = err_from_is_err_and c.from_residual.result c.from_residual.ensures.1 in
    rw (p.1, p.2) (of_fault_weaker c.in_err-at.field-0.0 (λ fault faulty text w.
    subst (λ t. IsFaulty t fault) (piece_whole text c.args.piece.now c.loop-at.at)
    (faulty (text ++ take c.loop-at.at c.args.piece.now) (c.loop-at.invariant.3 text w))) c.in_err-at.ensures.fault)

pub loop-at-preserved : goal.loop-at-preserved
loop-at-preserved c =
    let taken = c.in_ok-at.ensures.taken in
    let w = c.loop-at.invariant in (
      omega (arith, taken.1, w.0),
      omega (arith, taken.2, w.1),
      c.in_ok-at.ensures.within,
      (λ text read.
          subst (λ t. IsRunRead t c.advance.new.reading) (piece_more text c.args.piece.now c.loop-at.at c.in_ok-at.field-0)
          (c.in_ok-at.ensures.ok (text ++ take c.loop-at.at c.args.piece.now) (w.3 text read))),
    )
