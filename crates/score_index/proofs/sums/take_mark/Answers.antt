use Rattle.std.proofs.Common.{◌-◌, false, refl, set, sym, true}
use Rattle.score_index.proofs.Cells.MovedSums.{same_sums, set-again, set-back}
use Rattle.score_index.proofs.sums.take_mark.Goals as goal

pub moved_relevant-requires-clause-sums : goal.moved_relevant-requires-clause-sums
moved_relevant-requires-clause-sums g c =
    let on = c.requires.mark.relevant.2 in
    same_sums c.args.cap c.args.trees.now.relevant c.args.trees.now.lower
    (set c.set_relevant.new.self.relevant (c.args.place - 1) true) c.set_relevant.new.self.lower c.args.sums
    (sym (set-back c.args.trees.now.relevant c.set_relevant.new.self.relevant (c.args.place - 1) false true c.set_relevant.ensures.relevant
    (rw c.in-Relevant.is at on))) (sym c.set_relevant.ensures.lower) c.requires.sums

pub returns-in-Relevant-clause-sums : goal.returns-in-Relevant-clause-sums
returns-in-Relevant-clause-sums g c =
    let now = c.set_relevant.new.self in
    same_sums c.args.cap (set now.relevant (c.args.place - 1) false) now.lower now.relevant now.lower c.moved_relevant.result
    (set-again c.args.trees.now.relevant now.relevant (c.args.place - 1) false c.set_relevant.ensures.relevant) refl c.moved_relevant.ensures.sums
