use Rattle.std.proofs.Common.{◌<◌, refl, sym, subst}
use Rattle.std.proofs.lemmas.Cmp.{ranked}
use Rattle.std.proofs.lemmas.Option.{get_or_from_slice_get}
use Rattle.decimal_rank.specs.declared.rankings.Entry.{Entry}
use Rattle.decimal_rank.proofs.Standings.Search.{goes_up, goes_down}
use Rattle.decimal_rank.proofs.rankings.place_among.Goals as goal

pub loop-low-preserved-in-Less : goal.loop-low-preserved-in-Less
loop-low-preserved-in-Less g c =
    let read = get_or_from_slice_get c.args.entries.now _ c.at-entry.result c.at-entry.result c.at-entry.ensures.item in
    rw c.at-entry.ensures.cost (goes_up _ _ _ _ _ _ _ c.at-entry.result c.requires c.loop-low.invariant c.loop-low-test.true refl
    (let P : Entry → Type 0 = λ entry. entry.doc < c.args.doc in subst P (sym read) (ranked _ _ _ c.in-Less.ensures)))

pub loop-low-preserved : goal.loop-low-preserved
loop-low-preserved g c =
    let read = get_or_from_slice_get c.args.entries.now _ c.at-entry.result c.at-entry.result c.at-entry.ensures.item in
    rw c.at-entry.ensures.cost (goes_down _ _ _ _ _ _ _ c.at-entry.result c.requires c.loop-low.invariant c.loop-low-test.true refl
    (let P : Entry → Type 0 = λ entry. c.args.doc < entry.doc in subst P (sym read) (ranked _ _ _ c.in-Greater.ensures)))
