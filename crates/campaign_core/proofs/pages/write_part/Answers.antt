use Rattle.std.proofs.Common.{◌≡◌, ◌<◌, ◌++◌, ◌∙◌, ap, length, subst, sym}
use Rattle.std.specs.Prelude.{All, OnOk}
use Rattle.qrels_view.specs.declared.grades.Graded.{Graded}
use Rattle.qrels_view.specs.Lines.{qrels_text}
use Rattle.campaign_core.proofs.PageTexts.QrelsLines.{grades-within, qrels-same}
use Rattle.campaign_core.proofs.pages.write_part.Goals as goal

pub write_by-requires : goal.write_by-requires
write_by-requires c = record {
  docs_named = subst (All (λ (g : Graded). g.doc.0 < length c.args.docnos.now)) (sym c.grades.ensures.graded)
      (grades-within c.requires.knows.0 c.args.docnos.now c.args.topic.now.facts c.requires.knows.1);
}

pub returns-in-Qrels : goal.returns-in-Qrels
returns-in-Qrels c = λ H now is lives.
    let topic = c.args.topic.now.facts in
    let lines = ap (λ id. qrels_text id c.args.docnos.now c.grades.result.now.graded) c.id.ensures
    ∙ ap (qrels_text topic.id c.args.docnos.now) c.grades.ensures.graded ∙ qrels-same H c.args.docnos.now topic c.graded_are_on_trail.ensures is in
    rw c.in-Qrels.is (subst (λ text. OnOk c.write_by.result (c.write_by.new.out.items ≡ c.args.out.now.items ++ text)) lines c.write_by.ensures.ok)
