use Rattle.std.proofs.Common.{◌∙◌, ◌++◌, ap}
use Rattle.measures.specs.ScoreLines.{cell_text, count_lines, measure_names, value_lines}
use Rattle.measures.proofs.score_lines.write_cell.Goals as goal

pub returns-clause-ok : goal.returns-clause-ok
unfolding cell_text
returns-clause-ok c =
    let run = c.args.run.now in
    let topic = c.args.topic.now in
    let cell = c.args.cell.now in
    let counts = count_lines run topic cell.ret cell.rel cell.rel_ret in
    c.in_ok-extend_from_slice.ensures.items
    ∙ ap (λ text. c.args.out.now.items ++ text)
    (c.deref.ensures.value ∙ c.in_ok-write_values.ensures
    ∙ ap (λ text. text ++ value_lines run topic measure_names c.values_of.result) (c.in_ok-write_counts.ensures ∙ ap (λ text. text ++ counts) c.new-lines.ensures.items)
    ∙ ap (λ values. counts ++ value_lines run topic measure_names values) c.values_of.ensures.values)
