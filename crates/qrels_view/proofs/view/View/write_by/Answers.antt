use Rattle.std.proofs.Common.{◌≡◌, ◌∙◌, ◌++◌, OnOk, ap, map, subst, sym}
use Rattle.std.specs.List.{flat_map}
use Rattle.std.proofs.lemmas.List.Folds.{flat_map-map}
use Rattle.qrels_view.specs.declared.grades.Placed.{Placed}
use Rattle.qrels_view.specs.Lines.{by_docno, qrels_line, qrels_text}
use Rattle.qrels_view.specs.GradeViews.{GradeView}
use Rattle.qrels_view.proofs.view.View.write_by.Goals as goal

pub returns-clause-ok : goal.returns-clause-ok
returns-clause-ok c =
    let topic = c.args.topic.now in
    let names = c.args.names.now in
    let placed = c.in_ok-placed.placed.items in
    let sorted : map (λ (one : Placed). one.graded) placed ≡ by_docno names c.args.self.now.graded =
    c.in_ok-placed.ensures.placed ∙ ap (λ (view : GradeView). by_docno names view.graded) c.self.view_is in
    let lines : flat_map (λ (one : Placed). qrels_line topic names one.graded) placed ≡ qrels_text topic names c.args.self.now.graded =
    sym (flat_map-map (qrels_line topic names) (λ (one : Placed). one.graded) placed) ∙ ap (flat_map (qrels_line topic names)) sorted in
    subst (λ text. OnOk c.write_lines.result (c.write_lines.new.out.items ≡ c.args.out.now.items ++ text))
    (ap (flat_map (λ (one : Placed). qrels_line topic names one.graded)) c.as_slice.ensures.value ∙ lines) c.write_lines.ensures.ok
