use Rattle.std.proofs.Common.{◌≡◌, ◌∙◌, ◌++◌, ℕ, [], List, ap}
use Rattle.std.specs.Prelude.{codes}
use Rattle.measures.specs.ScoreLines.{count_line, count_lines, measure_names, summary_text, value_lines}
use Rattle.measures.proofs.score_lines.write_summary.Goals as goal

-- three texts, one behind another
joined : (one two three empty first second third : List ℕ) → empty ≡ [] → first ≡ empty ++ one → second ≡ first ++ two → third ≡ second ++ three
    → third ≡ one ++ two ++ three
joined one two three empty first second third none a b c =
    c ∙ ap (λ text. text ++ three) (b ∙ ap (λ text. text ++ two) (a ∙ ap (λ text. text ++ one) none))

pub returns-clause-ok : goal.returns-clause-ok
unfolding summary_text
returns-clause-ok c =
    let run = c.args.run.now in
    let all = codes "all" in
    let summary = c.args.summary.now in
    let topics = count_line run all (codes "num_q") summary.topics in
    let counts = count_lines run all summary.ret summary.rel summary.rel_ret in
    let values = value_lines run all measure_names in
    let text =
    joined topics counts (values c.means_in.result) _ _ _ _ c.new-page.ensures.items c.in_ok-write_count.ensures c.in_ok-write_counts.ensures
    c.in_ok-write_values.ensures in
    c.in_ok-extend_from_slice.ensures.items
    ∙ ap (λ text. c.args.out.now.items ++ text) (c.deref.ensures.value ∙ text ∙ ap (λ means. topics ++ counts ++ values means) c.means_in.ensures)
