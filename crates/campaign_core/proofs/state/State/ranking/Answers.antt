use Rattle.std.proofs.Common.{◌∙◌, None, Option, [], ap, arith, sym}
use Rattle.std.specs.Option.{option_map_or}
use Rattle.std.proofs.lemmas.Option.{slice_get-get_or}
use Rattle.rulebook.specs.Words.{Text}
use Rattle.campaign_core.specs.Numbering.Numbers.{names_of}
use Rattle.campaign_core.specs.Assessments.RunScores.{ranked_on, run_at}
use Rattle.campaign_core.specs.Assessments.Topics.{topic_ids}
use Rattle.campaign_core.proofs.state.State.ranking.Goals as goal

pub ranking-requires : goal.ranking-requires
ranking-requires c = omega (arith, c.requires, c.board.ensures.as_many)

pub returns : goal.returns
returns c =
    let H = c.args.self.now.history in
    c.ranking.ensures
    ∙ c.board.ensures.board.scored.lists_are c.args.run c.args.topic [] c.requires
    ∙ sym (ap (λ (id : Option Text). option_map_or (λ topic. option_map_or (ranked_on (names_of H) topic) (run_at H c.args.run) None) id None)
    (slice_get-get_or (topic_ids H) c.args.topic [] c.requires))
