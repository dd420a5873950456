use Rattle.std.proofs.Common.{◌∙◌, ◌&&◌, ap, bytes_eq, sym}
use Rattle.std.specs.Cmp.Lexicographic.{pointwise}
use Rattle.std.proofs.lemmas.Bool.Decides.{Decides-eqb}
use Rattle.std.proofs.lemmas.Slice.Eq.{bytes_eq-Decides, slice_eq-Decides}
use Rattle.trec_formats.specs.DocnoParts.{parts_from}
use Rattle.trec_formats.proofs.RankedLists.KeptDocnos.{parts_alike}
use Rattle.trec_formats.proofs.documents.docnos.DocnosPartialEq.eq.Goals as goal

pub returns-then-eq : goal.returns-then-eq
returns-then-eq c =
    let a = c.self.inside in
    let b = c.other.inside in
    sym (ap (λ t. t && c.eq-then-eq.result) c.if-eq.true)
    ∙ parts_alike a.ends.items b.ends.items a.bytes.items b.bytes.items c.self.invariant c.other.invariant c.eq.result c.eq-then-eq.result
    (slice_eq-Decides Decides-eqb _ _ _ c.eq.ensures) (slice_eq-Decides Decides-eqb _ _ _ c.eq-then-eq.ensures)
    ∙ ap (λ parts. pointwise bytes_eq parts (parts_from 0 b.ends.items b.bytes.items)) c.self.view_is
    ∙ ap (pointwise bytes_eq c.args.self.now) c.other.view_is

pub returns-else-eq : goal.returns-else-eq
returns-else-eq c =
    let a = c.self.inside in
    let b = c.other.inside in
    c.if-eq.false ∙ sym (ap (λ t. t && bytes_eq a.bytes.items b.bytes.items) c.if-eq.false)
    ∙ parts_alike a.ends.items b.ends.items a.bytes.items b.bytes.items c.self.invariant c.other.invariant c.eq.result (bytes_eq a.bytes.items b.bytes.items)
    (slice_eq-Decides Decides-eqb _ _ _ c.eq.ensures) (bytes_eq-Decides a.bytes.items b.bytes.items)
    ∙ ap (λ parts. pointwise bytes_eq parts (parts_from 0 b.ends.items b.bytes.items)) c.self.view_is
    ∙ ap (pointwise bytes_eq c.args.self.now) c.other.view_is
