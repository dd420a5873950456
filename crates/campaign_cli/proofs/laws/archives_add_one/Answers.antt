use Rattle.campaign_cli.proofs.ArchiveWays.{archives_one}
use Rattle.campaign_cli.proofs.laws.archives_add_one.Goals as goal

pub returns : goal.returns
returns g c = archives_one g.D.Disk.seen
