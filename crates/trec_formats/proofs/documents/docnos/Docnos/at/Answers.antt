use Rattle.std.proofs.Common.{◌≡◌, ◌-◌, ◌<◌, ◌∙◌, ◌∷◌, Some, ap, arith, drop, get_or, length, sym, take}
use Rattle.std.specs.Prelude.{slice_get}
use Rattle.trec_formats.proofs.RankedLists.KeptDocnos.{part_read, parts_count}
use Rattle.trec_formats.proofs.documents.docnos.Docnos.at.Goals as goal

pub start_of-start-requires : goal.start_of-start-requires
start_of-start-requires c =
    omega (arith, c.requires, ap length c.as_slice.ensures.value, parts_count 0 c.self.inside.ends.items c.self.inside.bytes.items, ap length c.self.view_is)

pub index-requires : goal.index-requires
index-requires c =
    omega (arith, c.requires, c.self.inside.ends.ok.0, parts_count 0 c.self.inside.ends.items c.self.inside.bytes.items, ap length c.self.view_is)

pub slice_bounds-result-count : goal.slice_bounds-result-count
slice_bounds-result-count c =
    let ends = c.self.inside.ends.items in
    let bytes = c.self.inside.bytes.items in
    let less : c.args.place < length ends = omega (arith, c.requires, parts_count 0 ends bytes, ap length c.self.view_is) in
    let start : c.start_of-start.result ≡ get_or (0 ∷ ends) c.args.place 0 =
    c.start_of-start.ensures ∙ ap (λ e. get_or (0 ∷ e) c.args.place 0) c.as_slice.ensures.value in
    (part_read ends bytes c.args.place c.start_of-start.result c.index.result.now c.self.invariant less start c.index.ensures).ordered

pub slice_bounds-result-start : goal.slice_bounds-result-start
slice_bounds-result-start c =
    let ends = c.self.inside.ends.items in
    let bytes = c.self.inside.bytes.items in
    let less : c.args.place < length ends = omega (arith, c.requires, parts_count 0 ends bytes, ap length c.self.view_is) in
    let start : c.start_of-start.result ≡ get_or (0 ∷ ends) c.args.place 0 =
    c.start_of-start.ensures ∙ ap (λ e. get_or (0 ∷ e) c.args.place 0) c.as_slice.ensures.value in
    (part_read ends bytes c.args.place c.start_of-start.result c.index.result.now c.self.invariant less start c.index.ensures).ordered

pub slice_bounds-result-end : goal.slice_bounds-result-end
slice_bounds-result-end c =
    let ends = c.self.inside.ends.items in
    let bytes = c.self.inside.bytes.items in
    let less : c.args.place < length ends = omega (arith, c.requires, parts_count 0 ends bytes, ap length c.self.view_is) in
    let start : c.start_of-start.result ≡ get_or (0 ∷ ends) c.args.place 0 =
    c.start_of-start.ensures ∙ ap (λ e. get_or (0 ∷ e) c.args.place 0) c.as_slice.ensures.value in
    let read = part_read ends bytes c.args.place c.start_of-start.result c.index.result.now c.self.invariant less start c.index.ensures in
    omega (arith, read.within, ap length c.deref.ensures.value)

pub returns : goal.returns
returns c =
    let ends = c.self.inside.ends.items in
    let bytes = c.self.inside.bytes.items in
    let less : c.args.place < length ends = omega (arith, c.requires, parts_count 0 ends bytes, ap length c.self.view_is) in
    let start : c.start_of-start.result ≡ get_or (0 ∷ ends) c.args.place 0 =
    c.start_of-start.ensures ∙ ap (λ e. get_or (0 ∷ e) c.args.place 0) c.as_slice.ensures.value in
    let read = part_read ends bytes c.args.place c.start_of-start.result c.index.result.now c.self.invariant less start c.index.ensures in
    ap (λ parts. slice_get parts c.args.place) (sym c.self.view_is) ∙ read.part
    ∙ ap (λ b. Some (take (c.index.result.now - c.start_of-start.result) (drop c.start_of-start.result b))) (sym c.deref.ensures.value)
