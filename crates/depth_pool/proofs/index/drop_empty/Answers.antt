use Rattle.std.proofs.Common.{◌≡◌, ◌∙◌, ap, sym, eqb, true, length, rules, [], Some, None}
use Rattle.std.specs.BTreeMap.{get}
use Rattle.std.specs.Option.{option_map_or}
use Rattle.depth_pool.specs.Index.{doc_cmp}
use Rattle.depth_pool.proofs.Lists.{no_elements}
use Rattle.depth_pool.proofs.Writes.{IsWrittenAt, kept_holders, taken_out, vacant_others}
use Rattle.depth_pool.proofs.index.drop_empty.Goals as goal

pub returns-then-is_empty-clause-gone : goal.returns-then-is_empty-clause-gone
returns-then-is_empty-clause-gone c = taken_out c.args.index.now c.remove.new.self c.args.doc (record { each = c.remove.ensures.updates.0 })

pub returns-then-is_empty-clause-others : goal.returns-then-is_empty-clause-others
returns-then-is_empty-clause-others c = vacant_others c.args.index.now c.remove.new.self c.args.doc (record { each = c.remove.ensures.updates.0 })

pub returns-then-is_empty-clause-holders : goal.returns-then-is_empty-clause-holders
returns-then-is_empty-clause-holders c =
    let found : get doc_cmp c.args.index.now c.args.doc ≡ Some c.in-Some.holders.now = search rules in
    let none : eqb (length c.in-Some.holders.now.items) 0 ≡ true = sym c.is_empty.ensures ∙ c.if-is_empty.true in
    let written : IsWrittenAt c.args.index.now c.remove.new.self c.args.doc None = record { each = c.remove.ensures.updates.0 } in
    kept_holders c.args.index.now c.remove.new.self c.args.doc None written (sym (ap (λ e. option_map_or (λ v. v.items) e []) found ∙ no_elements _ none))
