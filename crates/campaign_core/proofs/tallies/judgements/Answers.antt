use Rattle.std.proofs.Common.{◌≡◌, ◌+◌, ◌∙◌, ◌<◌, ◌≤◌, ap, arith, get_or, length, map, sym}
use Rattle.std.proofs.lemmas.List.{length-map}
use Rattle.rulebook.specs.Judgements.Grades.{relevant_count}
use Rattle.assessment.specs.TopicFacts.{facts_of}
use Rattle.campaign_core.specs.Numbering.Numbers.{names_of}
use Rattle.campaign_core.specs.Views.Tallies.{judged_on}
use Rattle.campaign_core.specs.Assessments.Topics.{topic_ids}
use Rattle.campaign_core.proofs.Lists.Elements.{get-map}
use Rattle.campaign_core.proofs.Numbers.TopicPlaces.{as-long, sum-all, sum-more, topic-at}
use Rattle.campaign_core.proofs.tallies.judgements.Goals as goal

pub loop-topic-preserved : goal.loop-topic-preserved
loop-topic-preserved c =
    let topics = map facts_of c.args.topics.now in
    let i = c.loop-topic.topic-index in
    let s = c.topic-item.result.facts in
    let within : i < length topics = omega (arith, c.loop-topic-test.true, length-map c.args.topics.now facts_of) in
    let is : s ≡ get_or topics i s = ap facts_of c.topic-item.is ∙ sym (get-map facts_of c.args.topics.now i c.topic-item.result) in
    record {
      relevant_is = λ H desk knows.
          let page = topic-at H topics desk knows i s within is in
          let counts = c.counts_of-more.ensures H (names_of H) page.is_topic in
          sum-more (relevant_count H) (topic_ids H) i c.loop-topic.relevant c.from-relevant.result (omega (arith, within, as-long H topics desk knows))
          (c.loop-topic.invariant.relevant_is H desk knows)
          (c.from-relevant.ensures ∙ counts.0 ∙ ap (relevant_count H) page.id_is);
      judged_is = λ H desk knows.
          let page = topic-at H topics desk knows i s within is in
          let counts = c.counts_of-more.ensures H (names_of H) page.is_topic in
          sum-more (judged_on H) (topic_ids H) i c.loop-topic.judged (c.from.result + c.from-in-loop-topic.result)
          (omega (arith, within, as-long H topics desk knows))
          (c.loop-topic.invariant.judged_is H desk knows)
          (ap (λ n. n + c.from-in-loop-topic.result) (c.from.ensures ∙ counts.0)
          ∙ ap (λ n. relevant_count H s.id + n) (c.from-in-loop-topic.ensures ∙ counts.1)
          ∙ ap (judged_on H) page.id_is);
      relevant_fits = omega (arith, c.loop-topic.invariant.relevant_fits, c.from-relevant.ensures, c.counts_of-more.type_inv);
      judged_fits = omega (arith, c.loop-topic.invariant.judged_fits, c.from.ensures, c.from-in-loop-topic.ensures, c.counts_of-more.type_inv);
    }

pub returns : goal.returns
returns c = λ H desk knows.
    let topics = map facts_of c.args.topics.now in
    let past : length (topic_ids H) ≤ c.loop-topic.topic-index =
    omega (arith, c.loop-topic-test.false, as-long H topics desk knows, length-map c.args.topics.now facts_of) in (
      sum-all (relevant_count H) (topic_ids H) c.loop-topic.topic-index c.loop-topic.relevant past (c.loop-topic.invariant.relevant_is H desk knows),
      sum-all (judged_on H) (topic_ids H) c.loop-topic.topic-index c.loop-topic.judged past (c.loop-topic.invariant.judged_is H desk knows),
    )
