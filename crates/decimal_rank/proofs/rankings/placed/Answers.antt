use Rattle.std.proofs.Common.{ap, sym, ◌∙◌, ◌++◌, ◌∷◌, [], get_or, ◌+◌}
use Rattle.decimal_rank.proofs.Standings.ListPlaces.{entries_in-more, entry_of, numbered}
use Rattle.decimal_rank.proofs.rankings.placed.Goals as goal

pub loop-i-preserved : goal.loop-i-preserved
loop-i-preserved c =
    c.in_ok-push.ensures.items
    ∙ ap (λ entries. entries ++ entry_of (c.loop-i.i + 1, get_or c.args.docs.now c.loop-i.i (numbered 0)) ∷ []) c.loop-i.invariant
    ∙ sym (entries_in-more c.args.docs.now c.loop-i.i (numbered 0) c.loop-i-test.true)
