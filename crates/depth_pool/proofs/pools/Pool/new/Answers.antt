use Rattle.std.proofs.Common.{◌∙◌, ap, arith, sym, subst, []}
use Rattle.std.specs.BTreeMap.{is_at}
use Rattle.std.specs.Map.{lookup}
use Rattle.std.specs.Option.{option_map_or}
use Rattle.smallvec.specs.SmallVec.{SmallVec}
use Rattle.depth_pool.specs.declared.runs.RunId.{RunId}
use Rattle.depth_pool.specs.Holdings.{AreByNumber, IsCount, holders_of, some_run_holds}
use Rattle.depth_pool.specs.Index.{doc_cmp}
use Rattle.depth_pool.proofs.Counts.{none_counted}
use Rattle.depth_pool.proofs.pools.Pool.new.Goals as goal

pub invariant_of-result : goal.invariant_of-result
invariant_of-result c = (
  record {
    by_number = subst AreByNumber (sym c.new.ensures.items) (λ i j d h lt. absurd (omega arith));
    holders = λ doc.
        ap (λ entries. option_map_or (λ (holders : SmallVec RunId). holders.items) (lookup (is_at (doc_cmp doc)) entries) []) c.new-2.ensures.empty
        ∙ ap (holders_of doc) (sym c.new.ensures.items);
    count = subst (λ runs. IsCount (λ doc. some_run_holds doc runs) 0) (sym c.new.ensures.items) none_counted;
  },
  λ docs is. absurd (cc),
)
