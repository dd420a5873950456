use Rattle.std.proofs.Common.{arith, sym, ◌∙◌}
use Rattle.mtf_queue.proofs.OrderedQueues.{grade_set, same_grade, same_regraded}
use Rattle.mtf_queue.proofs.moves.set_grade.Goals as goal

pub returns-clause-trail : goal.returns-clause-trail
returns-clause-trail c =
    grade_set c.args.trail.now.items c.args.index c.index_mut.result.now c.args.relevant (omega (arith, c.args.trail.now.ok.0)) c.index_mut.ensures.value

pub returns-clause-same : goal.returns-clause-same
returns-clause-same c = λ no.
    grade_set c.args.trail.now.items c.args.index c.index_mut.result.now c.args.relevant (omega (arith, c.args.trail.now.ok.0)) c.index_mut.ensures.value
    ∙ same_regraded c.args.trail.now.items c.args.index c.index.result.now c.args.relevant (omega (arith, c.args.trail.now.ok.0)) c.index.ensures
    (same_grade c.index.result.now.relevant c.args.relevant (sym c.ne-is_other.ensures ∙ no))
