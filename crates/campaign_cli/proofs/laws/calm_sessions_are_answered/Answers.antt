use Rattle.campaign_cli.proofs.CalmTalks.{calm_sessions}
use Rattle.campaign_cli.proofs.laws.calm_sessions_are_answered.Goals as goal

pub returns : goal.returns
returns g c = calm_sessions g.D.Disk.seen
