use Rattle.std.proofs.Common.{◌≡◌, ◌∙◌, false, take}
use Rattle.std.proofs.lemmas.List.Elements.{All-more, All-weaker}
use Rattle.decimal_rank.specs.declared.naming.DocId.{DocId}
use Rattle.depth_pool.specs.Index.{is_vacant}
use Rattle.depth_pool.proofs.index.drop_empties.Goals as goal

pub loop-doc-preserved : goal.loop-doc-preserved
loop-doc-preserved c =
    let none : DocId = record { 0 = 0 } in
    let docs = c.args.docs.now in
    let i = c.loop-doc.doc-index in
    let after = c.drop_empty.new.index in (
      λ other. c.drop_empty.ensures.holders other ∙ c.loop-doc.invariant.0 other,
      All-more (λ doc. is_vacant after doc ≡ false) docs i none c.loop-doc-test.true
          (All-weaker (λ doc. is_vacant c.loop-doc.index doc ≡ false) (λ doc. is_vacant after doc ≡ false) c.drop_empty.ensures.others
          (take i docs) c.loop-doc.invariant.1) c.drop_empty.ensures.gone,
    )
