use Rattle.std.proofs.Common.{◌-◌, false, refl, set, sym, true}
use Rattle.score_index.proofs.Cells.MovedSums.{same_sums, set-again, set-back}
use Rattle.score_index.proofs.sums.put_mark.Goals as goal

pub moved_lower-requires-clause-sums : goal.moved_lower-requires-clause-sums
moved_lower-requires-clause-sums g c =
    same_sums c.args.cap c.args.trees.now.relevant c.args.trees.now.lower c.set_lower.new.self.relevant
    (set c.set_lower.new.self.lower (c.args.place - 1) false) c.args.sums
    (sym c.set_lower.ensures.relevant)
    (sym (set-back c.args.trees.now.lower c.set_lower.new.self.lower (c.args.place - 1) true false c.set_lower.ensures.lower c.requires.unjudged.lower.2))
    c.requires.sums

pub returns-in-Lower-clause-sums : goal.returns-in-Lower-clause-sums
returns-in-Lower-clause-sums g c =
    let now = c.set_lower.new.self in
    same_sums c.args.cap now.relevant (set now.lower (c.args.place - 1) true) now.relevant now.lower c.moved_lower.result
    refl (set-again c.args.trees.now.lower now.lower (c.args.place - 1) true c.set_lower.ensures.lower) c.moved_lower.ensures.sums
