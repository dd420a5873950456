use Rattle.trec_formats.specs.RunFormat.LineViews.{view_shown}
use Rattle.trec_formats.proofs.RunTexts.RunLines.{full_line}
use Rattle.trec_formats.proofs.runs.run_reader.add_line.Goals as goal

pub returns-then-not-branch-clause-fault : goal.returns-then-not-branch-clause-fault
returns-then-not-branch-clause-fault c =
    let full = rw c.if-not-branch.true at c.in_ok-count_line.ensures.counted in
    rw c.at.ensures (full_line c.args.ended.now (view_shown c.args.line) full)
