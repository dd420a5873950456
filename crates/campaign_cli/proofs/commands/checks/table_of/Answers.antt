-- The table is what a campaign tells whoever asks for it.
use Rattle.std.proofs.Common.{refl}
use Rattle.rulebook.specs.Reports.Scores.{table_page}
use Rattle.campaign_cli.proofs.commands.checks.table_of.Goals as goal

pub page_of-requires-clause-paged : goal.page_of-requires-clause-paged
page_of-requires-clause-paged g c = (table_page c.args.book.now.history, λ who now. refl)

pub returns-clause-table : goal.returns-clause-table
returns-clause-table g c = c.in_ok-table.ensures.page (table_page c.args.book.now.history) (λ who now. refl)
