-- No entry of the trail so far is of the document.
use Rattle.std.proofs.Common.{◌≡◌, take}
use Rattle.std.specs.List.{All}
use Rattle.judging_tests.proofs.queued_topics.is_judged.Given as goal

abbrev pub invariant-loop-judged : goal.invariant-loop-judged
invariant-loop-judged l = All (λ judged. judged.doc ≡ l.doc → ⊥) (take l.judged-index l.trail)
