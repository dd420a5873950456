-- Lines of runs and of qrels as they are lent.
use Rattle.trec_formats.specs.declared.runs.line_views.LineView.{LineView}
use Rattle.trec_formats.specs.declared.qrels.QrelLine.{QrelLine}
use Rattle.trec_formats.specs.declared.qrels.QrelView.{QrelView}
use Rattle.trec_formats.specs.declared.runs.run_views.RunView.{RunView}
use Rattle.trec_formats.specs.declared.runs.RunLine.{RunLine}

-- the line that a view shows
abbrev pub view_shown : LineView → RunLine
view_shown view = record { line = view.line; topic = view.topic.now; doc = view.doc.now; score = view.score.now }

abbrev pub run_shown : RunView → RunLine
run_shown view = record { line = view.line; topic = view.topic.now; doc = view.doc.now; score = view.score }

abbrev pub qrel_shown : QrelView → QrelLine
qrel_shown view = record { line = view.line; topic = view.topic.now; doc = view.doc.now; grade = view.grade }
