use Rattle.assessment.proofs.DoneDocs.{done-label, done-ruling}
use Rattle.assessment.proofs.FrontSteps.{fronts-stay}
use Rattle.assessment.proofs.topic.AssessedTopic.mark.Goals as goal

pub invariant_of-self : goal.invariant_of-self
invariant_of-self g c =
    let t = c.self.inside in
    let label = c.in-Label.label in (
      c.self.invariant.0,
      rw c.set.ensures.marked
          (fronts-stay t.need t.marks.marked _ t.pool.runs t.fronts
          (λ assessor doc. done-label t.need assessor label.doc label.assessor label.grade t.marks.marked doc) c.self.invariant.1),
    )

pub invariant_of-self-in-Ruling : goal.invariant_of-self-in-Ruling
invariant_of-self-in-Ruling g c =
    let t = c.self-in-Ruling.inside in
    let ruling = c.in-Ruling.ruling in (
      c.self-in-Ruling.invariant.0,
      rw c.rule.ensures.marked
          (fronts-stay t.need t.marks.marked _ t.pool.runs t.fronts
          (λ assessor doc. done-ruling t.need assessor ruling.doc ruling.grade t.marks.marked doc) c.self-in-Ruling.invariant.1),
    )
