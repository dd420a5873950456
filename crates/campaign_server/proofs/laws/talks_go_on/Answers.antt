use Rattle.campaign_server.proofs.TalkSteps.LongerTalks.{talk_laws}
use Rattle.campaign_server.proofs.laws.talks_go_on.Goals as goal

pub returns : goal.returns
returns c = talk_laws
