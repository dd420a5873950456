-- What was read is the payload, or there is none.
use Rattle.std.proofs.Common.{arith}
use Rattle.record_codec.proofs.BundleCodes.BundleLaws.{is_payload, is_no_payload}
use Rattle.record_codec.proofs.payloads.read_payload.Goals as goal

pub returns-clause-entries : goal.returns-clause-entries
returns-clause-entries c =
    is_payload c.args.bytes.now c.payload.result (λ cores. cores.items) (λ i. omega (arith, c.type_inv.bytes i)) c.payload.ensures

pub returns-clause-none : goal.returns-clause-none
returns-clause-none c = is_no_payload c.args.bytes.now c.payload.result (λ cores. cores.items) c.payload.ensures
