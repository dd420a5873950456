use Rattle.campaign_cli.proofs.CommandWays.{server_stands}
use Rattle.campaign_cli.proofs.laws.servers_stand.Goals as goal

pub returns : goal.returns
returns g c = server_stands g.D.Disk.seen
