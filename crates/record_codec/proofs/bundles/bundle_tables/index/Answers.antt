-- Where the bytes stand.
use Rattle.std.proofs.Common.{◌∙◌, sym}
use Rattle.std.specs.Prelude.{bytes_eq}
use Rattle.record_codec.proofs.BundleCodes.TableSteps.{index_found, index_missed}
use Rattle.record_codec.proofs.bundles.bundle_tables.index.Goals as goal

pub returns-in-Some : goal.returns-in-Some
returns-in-Some c = index_found bytes_eq c.args.table.now c.args.bytes.now c.in-Some.place.0 (sym c.in-Some.ensures)

pub returns-in-None : goal.returns-in-None
returns-in-None c = c.len.ensures.len ∙ index_missed bytes_eq c.args.table.now c.args.bytes.now (sym c.in-None.ensures)
