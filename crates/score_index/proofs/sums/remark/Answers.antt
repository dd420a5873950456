use Rattle.std.proofs.Common.{◌∙◌, ◌-◌, Bool, List, ap, false, set}
use Rattle.std.proofs.lemmas.List.{set-set}
use Rattle.score_index.specs.KeptSums.{is_lower_standing, is_relevant_standing}
use Rattle.score_index.proofs.sums.remark.Goals as goal

pub returns-clause-relevant : goal.returns-clause-relevant
returns-clause-relevant g c =
    c.put_mark-put.ensures.relevant
    ∙ ap (λ (on : List Bool). set on (c.args.place - 1) (is_relevant_standing c.args.marks.1)) c.take_mark-taken.ensures.relevant
    ∙ set-set c.args.trees.now.relevant (c.args.place - 1) false (is_relevant_standing c.args.marks.1)

pub returns-clause-lower : goal.returns-clause-lower
returns-clause-lower g c =
    c.put_mark-put.ensures.lower ∙ ap (λ (on : List Bool). set on (c.args.place - 1) (is_lower_standing c.args.marks.1)) c.take_mark-taken.ensures.lower
    ∙ set-set c.args.trees.now.lower (c.args.place - 1) false (is_lower_standing c.args.marks.1)
