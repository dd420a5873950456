-- The pairs are those of the documents so far.
use Rattle.std.proofs.Common.{◌≡◌, [], get_or, take}
use Rattle.std.specs.List.{filter_map}
use Rattle.rulebook.specs.Judgements.Grades.{labelled_documents, labels_on}
use Rattle.rulebook.specs.Words.{Text}
use Rattle.campaign_core.specs.Assessments.Topics.{topic_ids}
use Rattle.leave_out.specs.Agreement.{two_grades}
use Rattle.leave_out.proofs.assessors.pairs_on.Given as goal

abbrev pub invariant-loop-doc : goal.invariant-loop-doc
invariant-loop-doc l =
    let H = l.state.history in
    let id : Text = get_or (topic_ids H) l.topic [] in
    l.pairs.items ≡ filter_map (λ doc. two_grades (labels_on H id doc)) (take l.doc-index (labelled_documents H id))
