use Rattle.std.proofs.Common.{◌≡◌, ◌≢◌, ◌∙◌, ◌<◌, ◌+◌, ap, cond, rules, subst, sym, arith, eqb, get_or, take}
use Rattle.std.proofs.lemmas.Bool.{false≢true}
use Rattle.std.proofs.lemmas.List.Folds.{list_any_more}
use Rattle.depth_pool.specs.Holdings.{IsCount, has_doc}
use Rattle.depth_pool.specs.Index.{has_holder, holders_at, with_holder}
use Rattle.decimal_rank.specs.declared.naming.DocId.{DocId}
use Rattle.depth_pool.proofs.Counts.{added, one_more_at_most, step_added, stepped}
use Rattle.depth_pool.proofs.Writes.{numbered, one_more, not_before}
use Rattle.depth_pool.proofs.index.add_holders.Goals as goal
use Rattle.depth_pool.proofs.index.add_holders.Goals.{then-is_first, else-is_first}

pub loop-doc-init : goal.loop-doc-init
loop-doc-init c =
    record {
      room = λ k _ h. c.requires.room k (numbered 0) h;
      holders = λ other. search rules;
      few = omega arith;
      count = λ n counts docs once are. let same =
          counts docs once are in omega arith;
    }

pub add_holder-is_first-requires : goal.add_holder-is_first-requires
add_holder-is_first-requires c = c.loop-doc.invariant.room c.loop-doc.doc-index (omega arith) c.loop-doc-test.true

pub loop-doc-preserved : goal.loop-doc-preserved
loop-doc-preserved c =
    let docs = c.args.docs.now in
    let i = c.loop-doc.doc-index in
    let doc = get_or docs i (numbered 0) in
    let is_first = c.add_holder-is_first.result in
    let more : c.if-is_first.more ≡ cond is_first (c.loop-doc.more + 1) c.loop-doc.more =
    elim c.if-is_first.branch [
      | then-is_first w ↦ w.more-is ∙ sym (ap (λ t. cond t (c.loop-doc.more + 1) c.loop-doc.more) w.if-is_first.true)
      | else-is_first w ↦ w.more-is ∙ sym (ap (λ t. cond t (c.loop-doc.more + 1) c.loop-doc.more) w.if-is_first.false)
    ] in
    record {
      room = λ k from h.
          let later : i < k = omega arith in
          let apart : get_or docs k (numbered 0) ≢ doc = λ e. c.requires.distinct i k (numbered 0) later h (sym e) in
          c.add_holder-is_first.ensures.rooms (get_or docs k (numbered 0)) apart ∙ c.loop-doc.invariant.room k (omega arith) h;
      holders = λ other.
          let before = has_doc other (take i docs) in
          one_more (with_holder c.args.run) (holders_at c.args.index.now other) (holders_at c.loop-doc.index other)
          (holders_at c.add_holder-is_first.new.index other)
          (eqb doc.0 other.0) before (has_doc other (take (i + 1) docs))
          (list_any_more (λ (d : DocId). eqb d.0 other.0) docs i (numbered 0) c.loop-doc-test.true)
          (λ here there. absurd (false≢true (sym (not_before docs i other c.requires.distinct c.loop-doc-test.true here) ∙ there)))
          (c.add_holder-is_first.ensures.holders other) (c.loop-doc.invariant.holders other);
      few = one_more_at_most is_first c.loop-doc.more i _ c.loop-doc.invariant.few more;
      count = λ count counts.
          let next = stepped (has_holder c.loop-doc.index) (has_holder c.add_holder-is_first.new.index) doc is_first (count + c.loop-doc.more)
          (step_added c.args.run c.loop-doc.index c.add_holder-is_first.new.index doc is_first
          c.add_holder-is_first.ensures.holders c.add_holder-is_first.ensures.first)
          (c.loop-doc.invariant.count count counts) in
          subst (IsCount (has_holder c.add_holder-is_first.new.index)) (added is_first count c.loop-doc.more ∙ ap (λ m. count + m) (sym more)) next;
    }
