use Rattle.std.proofs.Common.{◌∙◌, ◌++◌, ◌∷◌, [], ap}
use Rattle.trec_formats.proofs.RankedLists.KeptDocnos.{pushed_ends, pushed_parts}
use Rattle.trec_formats.proofs.documents.docnos.Docnos.push.Goals as goal

pub invariant_of-self-2 : goal.invariant_of-self-2
invariant_of-self-2 c =
    pushed_ends c.self.inside.ends.items c.self.inside.bytes.items c.args.docno.now c.self.invariant c.append_part.new.ends.items c.append_part.new.bytes.items
    c.in_ok-append_part.ensures.bytes c.in_ok-append_part.ensures.ends

pub returns-clause-added : goal.returns-clause-added
returns-clause-added c =
    pushed_parts c.self.inside.ends.items c.self.inside.bytes.items c.args.docno.now c.self.invariant c.append_part.new.ends.items c.append_part.new.bytes.items
    c.in_ok-append_part.ensures.bytes c.in_ok-append_part.ensures.ends
    ∙ ap (λ parts. parts ++ c.args.docno.now ∷ []) c.self.view_is
