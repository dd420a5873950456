use Rattle.std.proofs.Common.{◌∙◌, ap}
use Rattle.score_index.specs.Places.{Places, first_from}
use Rattle.score_index.proofs.Cells.SumSteps.{first-of, first-of-none}
use Rattle.score_index.proofs.trees.Trees.first_relevant.Goals as goal

pub returns-in-Some-clause-first : goal.returns-in-Some-clause-first
returns-in-Some-clause-first g c =
    first-of c.self.inside.relevant c.in-Some.place c.in-Some.ensures.place ∙ ap (λ (p : Places). first_from 1 p.relevant) c.self.view_is

pub returns-in-None-clause-first : goal.returns-in-None-clause-first
returns-in-None-clause-first g c = first-of-none c.self.inside.relevant c.in-None.ensures.place ∙ ap (λ (p : Places). first_from 1 p.relevant) c.self.view_is
