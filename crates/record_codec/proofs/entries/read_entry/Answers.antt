use Rattle.std.proofs.Common.{arith}
use Rattle.record_codec.proofs.FieldCodes.EntryCodes.{is_no_spelling, is_spelling}
use Rattle.record_codec.proofs.entries.read_entry.Goals as goal

pub returns-clause-entry : goal.returns-clause-entry
returns-clause-entry c =
    is_spelling c.args.bytes.now c.whole_entry.result (λ i. omega (arith, c.type_inv.bytes i)) c.whole_entry.ensures

pub returns-clause-none : goal.returns-clause-none
returns-clause-none c = is_no_spelling c.args.bytes.now c.whole_entry.result c.whole_entry.ensures
