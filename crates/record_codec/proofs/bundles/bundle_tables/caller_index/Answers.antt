-- Where the bytes of the caller stand, the caller does.
use Rattle.std.proofs.Common.{◌∙◌, List, ap, bytes_eq}
use Rattle.rulebook.specs.Words.{Text}
use Rattle.record_codec.specs.Bundles.{caller_bytes}
use Rattle.record_codec.specs.Tables.{index_of, same_caller}
use Rattle.record_codec.proofs.BundleCodes.TableSteps.{callers_agree, index_spelled}
use Rattle.record_codec.proofs.bundles.bundle_tables.caller_index.Goals as goal

pub returns : goal.returns
returns c = λ table is.
    c.index.ensures
    ∙ ap (λ (spelled : Text). index_of bytes_eq c.args.callers.now spelled) (c.as_slice.ensures.value ∙ c.in_ok-spell.ensures)
    ∙ ap (λ (callers : List Text). index_of bytes_eq callers (caller_bytes c.args.caller.now)) is
    ∙ index_spelled same_caller caller_bytes callers_agree table c.args.caller.now
