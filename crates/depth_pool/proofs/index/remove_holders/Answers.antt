use Rattle.std.proofs.Common.{◌≡◌, ◌∙◌, ◌+◌, arith, ap, cond, eqb, not, refl, subst, sym, get_or, take}
use Rattle.std.proofs.lemmas.List.Folds.{list_any_more}
use Rattle.depth_pool.specs.Holdings.{IsCount, has_doc}
use Rattle.depth_pool.specs.Index.{has_holder, holders_at, without_holder}
use Rattle.decimal_rank.specs.declared.naming.DocId.{DocId}
use Rattle.depth_pool.specs.declared.runs.RunId.{RunId}
use Rattle.depth_pool.proofs.Counts.{one_more_at_most, step_removed, stepped, taken_away}
use Rattle.depth_pool.proofs.Lists.{filter_twice}
use Rattle.depth_pool.proofs.Writes.{numbered, one_more}
use Rattle.depth_pool.proofs.index.remove_holders.Goals as goal
use Rattle.depth_pool.proofs.index.remove_holders.Goals.{then-was_last, else-was_last}

pub loop-doc-init : goal.loop-doc-init
loop-doc-init c = record {
  holders = λ other. refl;
  rooms = λ other h. h;
  few = omega arith;
  count = λ n counts docs once are. let same = counts docs once are in omega arith;
}

pub loop-doc-preserved : goal.loop-doc-preserved
loop-doc-preserved c =
    let docs = c.args.docs.now in
    let i = c.loop-doc.doc-index in
    let doc = get_or docs i (numbered 0) in
    let was_last = c.remove_holder-was_last.result in
    let fewer : c.if-was_last.fewer ≡ cond was_last (c.loop-doc.fewer + 1) c.loop-doc.fewer =
    elim c.if-was_last.branch [
      | then-was_last w ↦ w.fewer-is ∙ sym (ap (λ t. cond t (c.loop-doc.fewer + 1) c.loop-doc.fewer) w.if-was_last.true)
      | else-was_last w ↦ w.fewer-is ∙ sym (ap (λ t. cond t (c.loop-doc.fewer + 1) c.loop-doc.fewer) w.if-was_last.false)
    ] in
    record {
      holders = λ other.
          one_more (without_holder c.args.run) (holders_at c.args.index.now other) (holders_at c.loop-doc.index other)
          (holders_at c.remove_holder-was_last.new.index other)
          (eqb doc.0 other.0) (has_doc other (take i docs)) (has_doc other (take (i + 1) docs))
          (list_any_more (λ (d : DocId). eqb d.0 other.0) docs i (numbered 0) c.loop-doc-test.true)
          (λ _ _. filter_twice (λ (holder : RunId). not (eqb holder.0 c.args.run.0)) (holders_at c.args.index.now other))
          (c.remove_holder-was_last.ensures.holders other) (c.loop-doc.invariant.holders other);
      rooms = λ other h. c.remove_holder-was_last.ensures.rooms other (c.loop-doc.invariant.rooms other h);
      few = one_more_at_most was_last c.loop-doc.fewer i _ c.loop-doc.invariant.few fewer;
      count = λ count counts.
          let before = stepped (has_holder c.remove_holder-was_last.new.index) (has_holder c.loop-doc.index) doc was_last count
          (step_removed c.args.run c.loop-doc.index c.remove_holder-was_last.new.index doc was_last
          c.remove_holder-was_last.ensures.holders c.remove_holder-was_last.ensures.last)
          counts in
          subst (IsCount (has_holder c.args.index.now)) (taken_away was_last count c.loop-doc.fewer ∙ ap (λ m. count + m) (sym fewer))
          (c.loop-doc.invariant.count _ before);
    }
