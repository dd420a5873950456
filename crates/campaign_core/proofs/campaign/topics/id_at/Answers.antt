-- The id of the topic at the number, and no byte where there is none.
use Rattle.std.proofs.Common.{◌≡◌, ◌∙◌, ℕ, [], List, None, ap, arith, get_or, map, sym}
use Rattle.assessment.specs.TopicFacts.{TopicFacts, TopicView, facts_of}
use Rattle.campaign_core.specs.Assessments.Topics.{fact_ids}
use Rattle.campaign_core.proofs.Lists.Elements.{get-map}
use Rattle.campaign_core.proofs.campaign.topics.id_at.Goals as goal

-- what stands for a topic where there is none
abbrev none : TopicView
none = record {
  facts = record { id = []; need = 0; level = 0; depth = 0; pool = []; marked = []; graded = [] };
  pool_room = None;
  label_room = None;
  grade_room = 0;
  queue_room = 0;
}

listed : (topics : List TopicView) (number : ℕ) → (get_or topics number none).facts.id ≡ get_or (fact_ids (map facts_of topics)) number []
listed topics number =
    ap (λ (t : TopicFacts). t.id) (sym (get-map facts_of topics number none))
    ∙ sym (get-map (λ (t : TopicFacts). t.id) (map facts_of topics) number none.facts)

pub returns-in-Some : goal.returns-in-Some
returns-in-Some c =
    c.id.ensures ∙ ap (λ (t : TopicView). t.facts.id) (c.in-Some.ensures.lookup.4 (omega arith) none) ∙ listed c.args.topics.now c.args.number

pub returns-in-None : goal.returns-in-None
returns-in-None c = ap (λ (t : TopicView). t.facts.id) (c.in-None.ensures.lookup.4 (omega arith) none) ∙ listed c.args.topics.now c.args.number
