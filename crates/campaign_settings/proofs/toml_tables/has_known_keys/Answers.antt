use Rattle.toml.specs.View.{view}
use Rattle.campaign_settings.proofs.TableKeys.{known_keys}
use Rattle.campaign_settings.proofs.toml_tables.has_known_keys.Goals as goal

pub returns-in-Some : goal.returns-in-Some
returns-in-Some c = known_keys c.args.known.now (view c.args.tree.now) c.in-Some.table.now c.are_known.result c.in-Some.ensures c.are_known.ensures
