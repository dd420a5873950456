-- The text is that of the rows so far.
use Rattle.std.proofs.Common.{◌≡◌, take}
use Rattle.std.specs.List.{flat_map}
use Rattle.campaign_cli.specs.ShownTexts.{agreed_line}
use Rattle.campaign_cli.proofs.commands.agreements.agreed_lines.Given as goal

abbrev pub invariant-loop-row : goal.invariant-loop-row
invariant-loop-row l = l.text.items ≡ flat_map agreed_line (take l.row-index l.rows)
