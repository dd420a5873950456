use Rattle.std.proofs.Common.{◌≡◌, ◌∙◌, Some, None, ap, refl, sym, slice_get}
use Rattle.std.proofs.lemmas.Option.{slice_get_past, slice_get_read}
use Rattle.depth_pool.specs.Holdings.{Held}
use Rattle.depth_pool.proofs.ByNumber.{docs_found, docs_looked_up}
use Rattle.depth_pool.proofs.runs.docs_of.Goals as goal

pub returns-in-Some : goal.returns-in-Some
returns-in-Some c =
    let runs = c.args.runs.now in
    let held = c.in-Some.held.now in
    let at : slice_get runs c.index_of.result ≡ Some held =
    slice_get_read runs _ c.index_of.result held refl c.in-Some.ensures.lookup.3.0 c.in-Some.ensures.lookup.1 in
    c.as_slice.ensures.value ∙ ap (λ (one : Held). one.docs) c.held.view_is ∙ ap docs_found (sym at)
    ∙ ap (λ i. docs_found (slice_get runs i)) c.index_of.ensures
    ∙ docs_looked_up c.args.run runs

pub returns-in-None : goal.returns-in-None
returns-in-None c =
    let runs = c.args.runs.now in
    let past : slice_get runs c.index_of.result ≡ None = slice_get_past runs c.index_of.result c.in-None.ensures.lookup.3 in
    ap docs_found (sym past) ∙ ap (λ i. docs_found (slice_get runs i)) c.index_of.ensures ∙ docs_looked_up c.args.run runs
