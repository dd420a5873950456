use Rattle.std.proofs.Common.{arith, ◌∙◌}
use Rattle.trec_formats.proofs.RunTexts.KeptFields.{holds_all, holds_some}
use Rattle.trec_formats.proofs.runs.run_fields.hold.Goals as goal

pub returns-in_ok-extend_from_slice : goal.returns-in_ok-extend_from_slice
returns-in_ok-extend_from_slice c = c.in_ok-extend_from_slice.ensures.items
    ∙ holds_all c.args.held.now.items c.args.part.now (omega (arith, c.if-part-room.true, c.len-room.ensures, c.args.held.now.ok.0, c.requires))

pub returns-in_ok-extend_from_slice-2 : goal.returns-in_ok-extend_from_slice-2
returns-in_ok-extend_from_slice-2 c = c.in_ok-extend_from_slice-2.ensures.items
    ∙ holds_some c.args.held.now.items c.args.part.now _ (omega (arith, c.len-room.ensures, c.args.held.now.ok.0, c.requires))
