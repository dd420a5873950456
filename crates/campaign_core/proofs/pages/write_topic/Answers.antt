use Rattle.std.proofs.Common.{◌≡◌, ◌++◌, ◌∙◌, List, ap, arith, map, sym, subst}
use Rattle.std.specs.Prelude.{OnOk}
use Rattle.std.proofs.lemmas.List.{length-map}
use Rattle.assessment.specs.TopicFacts.{facts_of}
use Rattle.rulebook.specs.Reports.Pages.{live_count}
use Rattle.rulebook.specs.Words.{Text}
use Rattle.campaign_core.specs.Views.PrintedPages.{IsTopicOf, part_of}
use Rattle.campaign_core.proofs.Numbers.TopicPlaces.{as-long, view-at}
use Rattle.campaign_core.proofs.pages.write_topic.Goals as goal

pub overflow_cast-number : goal.overflow_cast-number
overflow_cast-number c =
    let from = c.args.source.now in
    let knows = c.requires.knows.1 in
    omega (
      arith,
      c.requires.within,
      length-map from.topics.now facts_of,
      as-long c.requires.knows.0 (map facts_of from.topics.now) from.desk.now.leases knows,
      knows.topics_fit,
    )

pub write_part-requires : goal.write_part-requires
write_part-requires c =
    let from = c.args.source.now in
    let H = c.requires.knows.0 in
    let topic = c.index-topics-number.result in
    let at = view-at H from.topics.now from.desk.now.leases c.args.number topic c.requires.knows.1 c.requires.within c.index-topics-number.is in
    record { knows = (H, subst (λ (names : List Text). IsTopicOf H names topic.facts) (sym c.requires.knows.2) at.is_topic) }

pub returns : goal.returns
returns c = λ H knows names_are.
    let from = c.args.source.now in
    let topic = c.index-topics-number.result in
    let at = view-at H from.topics.now from.desk.now.leases c.args.number topic knows c.requires.within c.index-topics-number.is in
    let lives = c.live_on_topic-live.ensures ∙ at.live_is from.moment ∙ sym (ap (live_count H from.moment) at.id_is) in
    subst (λ id. OnOk c.write_part.result (c.write_part.new.out.items ≡ c.args.out.now.items ++ part_of c.args.page H from.moment id)) at.id_is
    (c.write_part.ensures H from.moment (subst (λ (names : List Text). IsTopicOf H names topic.facts) (sym names_are) at.is_topic) lives)
