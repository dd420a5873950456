use Rattle.campaign_cli.proofs.ByStatus.{by_status}
use Rattle.campaign_cli.proofs.laws.each_status_says.Goals as goal

pub returns : goal.returns
returns g c = by_status g.D.Disk.seen c.never_both.ensures
