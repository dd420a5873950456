-- The area of the packed records.
use Rattle.std.proofs.Common.{List, Vec, ℕ, ap, ◌∙◌}
use Rattle.std.specs.declared.alloc.Global.{Global}
use Rattle.journal.specs.KeptRecords.{payloads as payloads_of}
use Rattle.book.proofs.Payloads.CompactedRecords.{area_of}
use Rattle.book.proofs.compacting.packed_area.Goals as goal

pub returns : goal.returns
returns c =
    area_of c.of.result (payloads_of c.deref.result.now) (payloads_of c.args.records.now) c.of.ensures
    (λ H story. ap (λ (payloads : List (Vec ℕ Global)). payloads_of payloads) c.deref.ensures.value ∙ c.in_ok-payloads.ensures.packed H story)
