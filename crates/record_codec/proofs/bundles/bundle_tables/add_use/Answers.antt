-- What is there is not added again.
use Rattle.std.proofs.Common.{◌∙◌, sym}
use Rattle.std.specs.Prelude.{bytes_eq}
use Rattle.decimal_rank.specs.Names.{number_of}
use Rattle.decimal_rank.specs.declared.naming.DocId.{DocId}
use Rattle.record_codec.proofs.BundleCodes.TableSteps.{some_mapped, there_stays}
use Rattle.record_codec.proofs.bundles.bundle_tables.add_use.Goals as goal

pub returns-then-is_some : goal.returns-then-is_some
returns-then-is_some c =
    there_stays bytes_eq c.args.table.now c.args.bytes.now
    (some_mapped (λ (doc : DocId). doc.0) c.find.result (number_of c.args.table.now c.args.bytes.now) c.find.ensures
    (sym c.is_some.ensures ∙ c.if-is_some.true))
