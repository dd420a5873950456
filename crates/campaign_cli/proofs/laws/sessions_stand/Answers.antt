use Rattle.campaign_cli.proofs.CommandWays.{session_stands}
use Rattle.campaign_cli.proofs.laws.sessions_stand.Goals as goal

pub returns : goal.returns
returns g c = session_stands g.D.Disk.seen
