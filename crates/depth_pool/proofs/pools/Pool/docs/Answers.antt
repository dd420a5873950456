use Rattle.std.proofs.Common.{◌≡◌, ◌∙◌, ◌<◌, ap, sym, subst, eqb, nat_lt, length, rules}
use Rattle.std.specs.List.{All, IsDistinct}
use Rattle.std.specs.Ordering.{is_lt}
use Rattle.std.proofs.lemmas.Cmp.{nat_list_cmp_total}
use Rattle.std.proofs.lemmas.Fn.{always_returns_same}
use Rattle.std.proofs.lemmas.List.Sorted.{list_any-IsPermutation, ranks_by}
use Rattle.std.proofs.lemmas.Map.Keys.{IsDistinct-IsPermutation}
use Rattle.decimal_rank.specs.Names.{docno_of}
use Rattle.decimal_rank.specs.declared.naming.DocId.{DocId}
use Rattle.decimal_rank.proofs.TruthValues.{eqb_swap}
use Rattle.depth_pool.specs.Holdings.{Holdings, has_doc, some_run_holds}
use Rattle.depth_pool.proofs.Holders.{any_holder}
use Rattle.depth_pool.proofs.ListedDocs.{ascend, docno_cmp, held_in_range, listed, listed_once, own, same_doc}
use Rattle.depth_pool.proofs.pools.Pool.docs.Goals as goal

pub returns-clause-each : goal.returns-clause-each
returns-clause-each c = λ doc.
    let index = c.self.inside.index in
    sym (list_any-IsPermutation
    (λ (other : DocId). eqb other.0 doc.0) c.in_ok-docs.docs.items c.sort_unstable_by.new.self.items c.sort_unstable_by.ensures.permutation)
    ∙ ap (has_doc doc) c.in_ok-docs.ensures.docs
    ∙ listed doc index.entries c.docs_held.ensures.ordered
    ∙ ap (λ holders. nat_lt 0 (length holders)) (c.self.invariant.0.holders doc)
    ∙ any_holder doc c.self.inside.runs.items
    ∙ ap (λ (view : Holdings). some_run_holds doc view.runs) c.self.view_is

pub returns-clause-ascending : goal.returns-clause-ascending
returns-clause-ascending c =
    let names = c.args.names.now in
    let docs = c.sort_unstable_by.new.self.items in
    let once : IsDistinct same_doc c.in_ok-docs.docs.items =
    subst (IsDistinct same_doc) (sym c.in_ok-docs.ensures.docs) (listed_once c.self.inside.index.entries c.docs_held.ensures.ordered) in
    let within : All (λ (doc : DocId). doc.0 < length names) docs = λ k d h.
    held_in_range (length names) c.args.self.now.runs c.requires.docs_named _ (sym (returns-clause-each c _) ∙ own docs k d h) in
    let lt = λ (a b : DocId). is_lt (docno_cmp names a b) in
    ascend names docs c.len.ensures.distinct
    (IsDistinct-IsPermutation same_doc (λ x y. eqb_swap x.0 y.0) _ _ c.sort_unstable_by.ensures.permutation once) within
    (c.sort_unstable_by.ensures.sorted lt (ranks_by nat_list_cmp_total (λ (doc : DocId). docno_of names doc.0))
    (always_returns_same _ (λ a r. is_lt r ≡ lt a.0.now a.1.0.now) _ (λ a r f' q. (ap is_lt (search rules), search rules))))
