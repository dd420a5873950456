use Rattle.std.proofs.Common.{◌∙◌, ap, sym}
use Rattle.decimal_rank.specs.Rankings.Places.{place_in}
use Rattle.score_index.specs.Scores.{ScoreList}
use Rattle.score_index.proofs.Admissions.{absent-place}
use Rattle.score_index.proofs.lists.RunList.place_of.Goals as goal

pub returns-then-not-admits-clause-place : goal.returns-then-not-admits-clause-place
returns-then-not-admits-clause-place g c =
    sym (absent-place c.self.inside.filter c.self.inside.ranking c.args.doc c.self.invariant.admitted (sym c.admits.ensures.admits ∙ c.if-not-admits.true))
    ∙ ap (λ (list : ScoreList). place_in list.docs c.args.doc) c.self.view_is
