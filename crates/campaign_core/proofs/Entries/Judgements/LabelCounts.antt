-- No more labels and grades than entries, with one more label or ruling.
use Rattle.std.proofs.Common.{◌≤◌, ◌+◌, ℕ, suc, Bool, true, false, List, ◌∷◌, [], Option, length, arith}
use Rattle.std.specs.Prelude.{◌==◌, if◌then◌else◌}
use Rattle.std.specs.Str.{bytes_eq}
use Rattle.decimal_rank.specs.declared.naming.DocId.{DocId}
use Rattle.labels.specs.declared.given.Given.{Given}
use Rattle.labels.specs.DocumentLabels.{with_label}
use Rattle.labels.specs.LabelledDocuments.{given_at, with_label_at, with_ruling_at}
use Rattle.qrels_view.specs.Grades.{with_grade}
use Rattle.qrels_view.proofs.NewGrades.{one_more_at_most}
use Rattle.rulebook.specs.Words.{Text}
use Rattle.campaign_core.specs.CampaignStates.{HasFewLabels}
use Rattle.campaign_core.specs.Assessments.Topics.{LabelledTopic}
use Rattle.campaign_core.proofs.Entries.Judgements.LabelSteps.{GivenFollow, GivenStay}

with-label-long : (assessor : Text) (grade : ℕ) (given : List Given) → length (with_label assessor grade given) ≤ length given + 1
with-label-long assessor grade [] = omega arith
with-label-long assessor grade (x ∷ given) = step (bytes_eq x.assessor assessor) (with-label-long assessor grade given)
  where
    step : (t : Bool) → length (with_label assessor grade given) ≤ length given + 1
        → length (if t then (record x { grade = grade }) ∷ given else x ∷ with_label assessor grade given) ≤ suc (length given) + 1
    step true rest = omega arith
    step false rest = omega (arith, rest)

pub few-here : (given_follow : GivenFollow) (entries : ℕ) (t : LabelledTopic) (doc : DocId) (assessor : Text) (grade : ℕ) (o : Option ℕ)
    → HasFewLabels entries t
    → HasFewLabels (entries + 1) (record { id = t.id; marked = with_label_at doc assessor grade t.marked; graded = with_grade doc o t.graded })
few-here given_follow entries t doc assessor grade o few = record {
  few_labels = λ other. rw (given_follow doc other assessor grade t.marked) (step other (other.0 == doc.0));
  few_grades = omega (arith, one_more_at_most doc o t.graded, few.few_grades);
}
  where
    step : (other : DocId) (b : Bool) → length (if b then with_label assessor grade (given_at t.marked doc) else given_at t.marked other) ≤ entries + 1
    step other true = omega (arith, with-label-long assessor grade (given_at t.marked doc), few.few_labels doc)
    step other false = omega (arith, few.few_labels other)

pub few-more : (entries : ℕ) (t : LabelledTopic) → HasFewLabels entries t → HasFewLabels (entries + 1) t
few-more entries t few = record { few_labels = λ other. omega (arith, few.few_labels other); few_grades = omega (arith, few.few_grades) }

pub few-ruled : (given_stay : GivenStay) (entries : ℕ) (t : LabelledTopic) (doc : DocId) (grade : ℕ) (o : Option ℕ) → HasFewLabels entries t
    → HasFewLabels (entries + 1) (record { id = t.id; marked = with_ruling_at doc grade t.marked; graded = with_grade doc o t.graded })
few-ruled given_stay entries t doc grade o few = record {
  few_labels = λ other. rw (given_stay doc other grade t.marked) (omega (arith, few.few_labels other));
  few_grades = omega (arith, one_more_at_most doc o t.graded, few.few_grades);
}
