use Rattle.std.proofs.Common.{◌≡◌, ◌<◌, ◌∙◌, ap, arith, get_or, length}
use Rattle.std.specs.List.{remove, position_or_len}
use Rattle.decimal_rank.proofs.Lists.{place_within}
use Rattle.depth_pool.specs.Holdings.{Held, has_doc}
use Rattle.depth_pool.proofs.ByNumber.{is_run, removed, docs_at}
use Rattle.depth_pool.proofs.runs.take_run.Goals as goal

pub remove-requires : goal.remove-requires
remove-requires c =
    let runs = c.args.runs.now.items in
    let at : c.index_of-index.result ≡ position_or_len (is_run c.args.run) runs =
    c.index_of-index.ensures ∙ ap (position_or_len (is_run c.args.run)) c.as_slice.ensures.value in
    let within : position_or_len (is_run c.args.run) runs < length runs = place_within (is_run c.args.run) runs c.requires.is_in in
    omega (arith, c.as_slice.ensures.len, ap length c.as_slice.ensures.value)

pub returns-clause-runs : goal.returns-clause-runs
returns-clause-runs c =
    let runs = c.args.runs.now.items in
    let at : c.index_of-index.result ≡ position_or_len (is_run c.args.run) runs =
    c.index_of-index.ensures ∙ ap (position_or_len (is_run c.args.run)) c.as_slice.ensures.value in
    c.remove.ensures.items ∙ ap (remove runs) at ∙ removed c.args.run runs c.requires.by_number c.requires.is_in

pub returns-clause-docs : goal.returns-clause-docs
returns-clause-docs c = λ doc.
    let runs = c.args.runs.now.items in
    let at : c.index_of-index.result ≡ position_or_len (is_run c.args.run) runs =
    c.index_of-index.ensures ∙ ap (position_or_len (is_run c.args.run)) c.as_slice.ensures.value in
    ap (λ (held : Held). has_doc doc held.docs) (c.docs.view_is ∙ c.remove.ensures.value ∙ ap (λ i. get_or runs i c.remove.result) at)
    ∙ docs_at c.args.run runs c.remove.result doc c.requires.by_number c.requires.is_in
