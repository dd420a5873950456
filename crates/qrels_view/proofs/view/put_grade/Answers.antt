use Rattle.std.proofs.Common.{◌≡◌, ◌∙◌, true, false, cond, eqb, [], ◌∷◌, ◌++◌, is_some, ap, sym, rules}
use Rattle.std.specs.Map.{lookup}
use Rattle.indexmap.specs.IndexMap.{insert_entry}
use Rattle.qrels_view.specs.Grades.{graded_docs, graded_of}
use Rattle.qrels_view.proofs.NewGrades.{docs_then, put_in}
use Rattle.qrels_view.proofs.view.put_grade.Goals as goal

pub returns-then-is_none-clause-trail_is : goal.returns-then-is_none-clause-trail_is
returns-then-is_none-clause-trail_is c =
    let doc = c.args.doc in
    let before = c.args.grades.now.entries in
    let entries : c.insert.new.self.entries ≡ insert_entry eqb before doc.0 c.args.grade = search rules in
    let is_new : is_some (lookup (eqb doc.0) before) ≡ false = search rules in
    let pushed : c.push.new.self.items ≡ c.args.trail.now.items ++ doc ∷ [] = search rules in
    let docs = graded_docs (graded_of before) in
    pushed ∙ ap (λ t. t ++ doc ∷ []) c.requires.trail_is ∙ sym (docs_then doc c.args.grade before ∙ ap (λ b. cond b docs (docs ++ doc ∷ [])) is_new)
    ∙ ap (λ es. graded_docs (graded_of es)) (sym entries)

pub returns-then-is_none-clause-graded : goal.returns-then-is_none-clause-graded
returns-then-is_none-clause-graded c =
    let entries : c.insert.new.self.entries ≡ insert_entry eqb c.args.grades.now.entries c.args.doc.0 c.args.grade = search rules in
    ap graded_of entries ∙ put_in c.args.doc c.args.grade c.args.grades.now.entries c.requires.not_none_twice

pub returns-else-is_none-clause-trail_is : goal.returns-else-is_none-clause-trail_is
returns-else-is_none-clause-trail_is c =
    let doc = c.args.doc in
    let before = c.args.grades.now.entries in
    let entries : c.insert.new.self.entries ≡ insert_entry eqb before doc.0 c.args.grade = search rules in
    let is_old : is_some (lookup (eqb doc.0) before) ≡ true = search rules in
    let docs = graded_docs (graded_of before) in
    c.requires.trail_is ∙ sym (docs_then doc c.args.grade before ∙ ap (λ b. cond b docs (docs ++ doc ∷ [])) is_old)
    ∙ ap (λ es. graded_docs (graded_of es)) (sym entries)

pub returns-else-is_none-clause-graded : goal.returns-else-is_none-clause-graded
returns-else-is_none-clause-graded c =
    let entries : c.insert.new.self.entries ≡ insert_entry eqb c.args.grades.now.entries c.args.doc.0 c.args.grade = search rules in
    ap graded_of entries ∙ put_in c.args.doc c.args.grade c.args.grades.now.entries c.requires.not_none_twice
