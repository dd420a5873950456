use Rattle.std.proofs.Common.{arith, ap, inr, length}
use Rattle.std.proofs.lemmas.List.{length-map}
use Rattle.std.proofs.lemmas.Result.{err_from_is_err_and}
use Rattle.trec_formats.proofs.RunTexts.RunLines.{of_fault_weaker}
use Rattle.trec_formats.proofs.TopicTexts.TopicIds.{distinct_ids, twice_ids}
use Rattle.trec_formats.proofs.TopicTexts.TopicLimits.{sound_topics, topic_in}
use Rattle.trec_formats.proofs.topics.read_topics.Goals as goal

pub returns-in_err-table_of-clause-fault : goal.returns-in_err-table_of-clause-fault
returns-in_err-table_of-clause-fault c =
    let p = err_from_is_err_and c.from_residual-in_err-table_of.result c.from_residual-in_err-table_of.ensures.1 in
    rw (p.1, p.2) (of_fault_weaker c.in_err-table_of.field-0.0 (λ fault twice.
    inr (c.in_ok-found.found.items, c.in_ok-found.ensures.topics, twice_ids c.in_ok-found.found.items fault (rw (← c.as_slice.ensures.value) twice)))
    c.in_err-table_of.ensures.fault)

pub returns-clause-topics : goal.returns-clause-topics
returns-clause-topics c =
    let distinct = distinct_ids c.in_ok-found.found.items (rw (← c.as_slice.ensures.value) c.in_ok-table_of.ensures.distinct) in
    (c.in_ok-found.found.items, (c.in_ok-found.ensures.topics, distinct), c.in_ok-without_lines.ensures)

pub returns-clause-sound : goal.returns-clause-sound
returns-clause-sound c =
    let distinct = distinct_ids c.in_ok-found.found.items (rw (← c.as_slice.ensures.value) c.in_ok-table_of.ensures.distinct) in
    rw c.in_ok-without_lines.ensures (sound_topics c.in_ok-found.found.items c.in_ok-found.ensures.within.0 distinct)

pub returns-clause-few : goal.returns-clause-few
returns-clause-few c =
    omega (arith, c.in_ok-found.ensures.within.1, ap length c.in_ok-without_lines.ensures, length-map c.in_ok-found.found.items topic_in)
