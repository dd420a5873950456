use Rattle.campaign_settings.proofs.Sound.{sound}
use Rattle.campaign_settings.proofs.settings.read_settings.Goals as goal

pub returns-in-Some-clause-rules : goal.returns-in-Some-clause-rules
returns-in-Some-clause-rules c = sound _ c.settings_in.result c.settings_in.ensures
