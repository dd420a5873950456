use Rattle.campaign_core.proofs.NamedDocuments.NumberedHolders.{holders-numbered}
use Rattle.campaign_core.proofs.laws.holders_by_numbers.Goals as goal

pub returns : goal.returns
returns c = holders-numbered
