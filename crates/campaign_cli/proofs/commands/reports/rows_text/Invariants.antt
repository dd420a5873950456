-- The text is that of the rows so far.
use Rattle.std.proofs.Common.{◌≡◌, take}
use Rattle.std.specs.List.{flat_map}
use Rattle.campaign_cli.specs.Ends.ReportEnds.{history_line}
use Rattle.campaign_cli.proofs.commands.reports.rows_text.Given as goal

abbrev pub invariant-loop-row : goal.invariant-loop-row
invariant-loop-row l = l.text.items ≡ flat_map history_line (take l.row-index l.rows)
