use Rattle.std.proofs.Common.{◌≡◌, ◌∙◌, List, ap, false, map, sym, subst}
use Rattle.decimal_rank.proofs.Lists.{map-map}
use Rattle.assessment.specs.TopicFacts.{TopicFacts, new_topic}
use Rattle.assessment.specs.TopicsFacts.{TopicsFacts}
use Rattle.assessment.specs.declared.topic.TopicRules.{TopicRules}
use Rattle.rulebook.specs.declared.rules.Phase.TheVariants.{Collecting}
use Rattle.rulebook.specs.declared.rules.Rules.{Rules}
use Rattle.rulebook.specs.Answers.{command_outcome}
use Rattle.rulebook.specs.Campaign.{has_topics, level_in, phase}
use Rattle.trec_formats.specs.declared.Topic.{Topic}
use Rattle.campaign_core.specs.Assessments.Topics.{KeptTopic, empty_topic, kept_topic, labelled_of}
use Rattle.campaign_core.proofs.Rulings.CollectingRulings.{collecting-from, topics-accepted}
use Rattle.rulebook.specs.Requests.Refusals.{is_phase}
use Rattle.campaign_core.specs.Commands.Decisions.{IsDecision}
use Rattle.campaign_core.proofs.Rulings.TestOrder.{out-of-phase}
use Rattle.campaign_core.specs.Numbering.Numbers.{names_of}
use Rattle.campaign_core.proofs.decisions.topics.topics_decision.Goals as goal

-- the levels of topics of which this is kept
levels-made : (made : List TopicRules) (given : List Topic) (rules : Rules) → map kept_topic (map new_topic made) ≡ map (λ t. empty_topic rules t.id) given
    → map (λ one. one.level) made ≡ map (λ t. level_in rules t.id) given
levels-made made given rules is =
    sym (map-map (λ (t : TopicFacts). t.level) new_topic made) ∙ sym (map-map (λ (k : KeptTopic). k.level) kept_topic (map new_topic made))
    ∙ ap (map (λ (k : KeptTopic). k.level)) is ∙ map-map (λ (k : KeptTopic). k.level) (λ (t : Topic). empty_topic rules t.id) given

pub returns-then-not-is_in : goal.returns-then-not-is_in
returns-then-not-is_in c =
    let campaign = c.args.campaign.now in
    let core = c.args.core.now in
    let other : false ≡ is_phase Collecting campaign.phase = sym c.if-not-is_in.true ∙ c.is_in.ensures in
    subst (IsDecision campaign (names_of campaign.history.items) core) (sym c.wrong_phase.ensures)
    (ap (command_outcome campaign.history.items core.caller core.moment) c.requires.command_is
    ∙ out-of-phase campaign.history.items Collecting campaign.phase _ _ c.requires.asked.known.phase_is other)

pub returns : goal.returns
returns c =
    let campaign = c.args.campaign.now in
    let H = campaign.history.items in
    let given = c.args.topics.now in
    let known = c.requires.asked.known in
    let collecting : phase H ≡ Collecting = sym known.phase_is ∙ collecting-from campaign.phase (sym c.if-not-is_in.ensures) in
    let none : has_topics H ≡ false = sym c.has_topics.ensures ∙ c.if-has_topics.false in (
      ap (command_outcome H c.args.core.now.caller c.args.core.now.moment) c.requires.command_is ∙ topics-accepted H given collecting none c.if-topics.false,
      (
        given,
        c.requires.command_is,
        ap (λ (all : TopicsFacts). map kept_topic all.topics) c.in_ok-numbered.ensures.facts ∙ c.in_ok-made.ensures.kept
            ∙ ap (λ (r : Rules). map (λ (t : Topic). empty_topic r t.id) given) c.rules-rules.ensures,
        ap (λ (all : TopicsFacts). map labelled_of all.topics) c.in_ok-numbered.ensures.facts ∙ c.in_ok-made.ensures.labelled,
        record {
          levels_are = ap (λ (all : TopicsFacts). all.levels) c.in_ok-numbered.ensures.facts
              ∙ levels-made c.in_ok-made.made.items given c.rules-rules.result.now c.in_ok-made.ensures.kept
              ∙ ap (λ (r : Rules). map (λ (t : Topic). level_in r t.id) given) c.rules-rules.ensures;
          empty = ap (λ (all : TopicsFacts). all.lists) c.in_ok-numbered.ensures.facts;
          no_room = c.in_ok-numbered.ensures.none;
        },
      ),
    )
