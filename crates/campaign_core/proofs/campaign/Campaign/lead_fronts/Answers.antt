use Rattle.std.proofs.Common.{◌≡◌, ◌∙◌, Bool, List, [], Some, ap, arith, map, sym}
use Rattle.std.specs.List.{position}
use Rattle.std.specs.Str.{bytes_eq}
use Rattle.std.proofs.lemmas.List.{length-map}
use Rattle.std.proofs.lemmas.List.Quantifiers.{position-Some}
use Rattle.assessment.specs.Changes.{AssessmentView}
use Rattle.assessment.specs.TopicFacts.{TopicFacts, TopicView, facts_of}
use Rattle.campaign_core.specs.declared.campaign.Campaign.{Campaign}
use Rattle.campaign_core.proofs.campaign.Campaign.lead_fronts.Goals as goal

pub lead_fronts-requires : goal.lead_fronts-requires
lead_fronts-requires c =
    let is_it : TopicFacts → Bool = λ topic. bytes_eq topic.id c.bytes.result.now in
    let topics = c.args.self.now.assessment.topics.topics in
    let at : position is_it (map facts_of topics) ≡ Some c.in-Some.number =
    sym (c.topic_number.ensures ∙ ap (λ (all : List TopicView). position is_it (map facts_of all)) c.topics.ensures) ∙ c.in-Some.is in
    let none : TopicFacts = record { id = []; need = 0; level = 0; depth = 0; pool = []; marked = []; graded = [] } in
    let within = (position-Some is_it (map facts_of topics) c.in-Some.number none at).0 in
    omega (arith, within, length-map topics facts_of)

-- the campaign with this assessment
abbrev holding : Campaign → AssessmentView → Campaign
holding campaign assessment = record campaign { assessment = assessment }

pub returns-clause-unchanged : goal.returns-clause-unchanged
returns-clause-unchanged c = ap (holding c.args.self.now) c.lead_fronts.ensures

pub returns-in_err-lead_fronts-clause-unchanged : goal.returns-in_err-lead_fronts-clause-unchanged
returns-in_err-lead_fronts-clause-unchanged c = ap (holding c.args.self.now) c.lead_fronts.ensures
