-- What is counted is of the documents so far.
use Rattle.std.proofs.Common.{◌≡◌, [], get_or, take}
use Rattle.rulebook.specs.Judgements.Grades.{labelled_documents}
use Rattle.rulebook.specs.Words.{Text}
use Rattle.campaign_core.specs.Assessments.Topics.{topic_ids}
use Rattle.leave_out.specs.ReducedJudgements.{reduced_in}
use Rattle.leave_out.proofs.reduced_judgements.reduced_on.Given as goal

abbrev pub invariant-loop-doc : goal.invariant-loop-doc
invariant-loop-doc l =
    let H = l.state.history in
    let id : Text = get_or (topic_ids H) l.topic [] in
    l.judgements ≡ reduced_in H l.group id (take l.doc-index (labelled_documents H id))
