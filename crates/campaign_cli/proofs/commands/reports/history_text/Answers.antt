-- The maps of the rows are means.
use Rattle.campaign_cli.proofs.SoundReleases.{history_means}
use Rattle.campaign_cli.proofs.commands.reports.history_text.Goals as goal

pub rows_text-requires : goal.rows_text-requires
rows_text-requires c = rw (c.deref.ensures.value, c.in_ok-rows.ensures) (history_means c.args.run.now c.args.all.now c.requires)
