use Rattle.std.proofs.Common.{◌+◌, sym, ap, subst, ◌∙◌}
use Rattle.judging_tests.proofs.QueuedTopicSteps.{IsListed, listed_less, listed_more}
use Rattle.judging_tests.proofs.queued_topics.ranking_of.Goals as goal
use Rattle.judging_tests.proofs.queued_topics.ranking_of.Goals.{then-contains+in_ok-push, else-contains}

pub loop-doc-preserved : goal.loop-doc-preserved
loop-doc-preserved c =
    let listed = c.loop-doc.listed.items in
    let next = c.loop-doc.doc-counter in
    elim c.if-contains.branch [
      | then-contains+in_ok-push w ↦ subst (λ docs. IsListed docs (next + 1)) (sym (ap (λ v. v.items) w.listed-is ∙ w.in_ok-push.ensures.items))
          (listed_more listed next c.loop-doc.invariant)
      | else-contains w ↦ subst (λ docs. IsListed docs (next + 1)) (sym (ap (λ v. v.items) w.listed-is)) (listed_less listed next c.loop-doc.invariant)
    ]
