use Rattle.std.proofs.Common.{◌≡◌, ◌≤◌, ◌<◌, ◌+◌, ◌*◌, ◌^◌, ◌∙◌, ℕ, [], None, Option, Some, ap, arith, get_or, length, rules, sym, take, vec_len}
use Rattle.std.specs.Prelude.{count_by, unwrap_or}
use Rattle.std.proofs.lemmas.Option.{slice_get-get_or}
use Rattle.rulebook.specs.Campaign.{Run}
use Rattle.rulebook.specs.Judgements.Grades.{graded_documents, labelled_documents}
use Rattle.rulebook.specs.Requests.Limits.{max_entries}
use Rattle.rulebook.specs.Words.{Text, contains_text}
use Rattle.campaign_core.specs.Views.LentTopics.{topic_at}
use Rattle.campaign_core.specs.Assessments.Topics.{topic_ids}
use Rattle.leave_out.specs.ReducedJudgements.{IsLive, reduced_in, sums_in, value_on, with_topic}
use Rattle.leave_out.specs.Reuse.{own}
use Rattle.leave_out.specs.declared.reduced_judgements.ReducedJudgements.{ReducedJudgements}
use Rattle.leave_out.specs.declared.reusability.Sums.{Sums}
use Rattle.leave_out.proofs.Reductions.GroupPlaces.{topic-few, topic-reduced, topic-within}
use Rattle.leave_out.proofs.Reductions.ReducedDocs.{own-are}
use Rattle.leave_out.proofs.Reductions.ReducedTopics.{sums-more}
use Rattle.leave_out.proofs.reusability.sums_of.Goals as goal

-- the sums stay small
small : (owned most : ℕ) (value : Option ℕ) (sums : Sums) → owned ≤ max_entries → unwrap_or value 0 ≤ 10 ^ 15
    → sums.own ≤ most * max_entries → sums.topics ≤ most → sums.precisions ≤ sums.topics * 10 ^ 15
    → ((with_topic owned value sums).own ≤ (most + 1) * max_entries) × ((with_topic owned value sums).topics ≤ most + 1)
    × ((with_topic owned value sums).precisions ≤ (with_topic owned value sums).topics * 10 ^ 15)
small owned most None sums few fits own topics precisions = (omega (arith, few, own), omega (arith, topics), omega (arith, precisions))
small owned most (Some v) sums few fits own topics precisions = (omega (arith, few, own), omega (arith, topics), omega (arith, fits, precisions))

pub index-reduced-requires : goal.index-reduced-requires
index-reduced-requires c =
    let H = c.args.state.now.history in
    let within : c.loop-topic.topic < length (topic_ids H) = omega (arith, c.loop-topic-test.true, c.topics-topic-end.ensures) in
    let there = topic-within H c.args.judgements.now.group c.args.judgements.now.topics.items c.requires.reduced c.loop-topic.topic within in
    let counted : length c.args.judgements.now.topics.items ≡ vec_len c.args.judgements.now.topics = search rules in
    omega (arith, there, counted)

pub value_on-requires-clause-judgements : goal.value_on-requires-clause-judgements
value_on-requires-clause-judgements c = λ id at.
    let H = c.args.state.now.history in
    let within : c.loop-topic.topic < length (topic_ids H) = omega (arith, c.loop-topic-test.true, c.topics-topic-end.ensures) in
    topic-reduced H c.args.judgements.now.group c.args.judgements.now.topics.items c.requires.reduced c.loop-topic.topic within
    c.index-reduced.result.now c.index-reduced.ensures id at
    ∙ ap (λ (group : Text). reduced_in H group id (labelled_documents H id)) (sym c.bytes.ensures)

pub value_on-requires-clause-few : goal.value_on-requires-clause-few
value_on-requires-clause-few c =
    let H = c.args.state.now.history in
    let within : c.loop-topic.topic < length (topic_ids H) = omega (arith, c.loop-topic-test.true, c.topics-topic-end.ensures) in
    topic-few H c.args.judgements.now.group c.args.judgements.now.topics.items c.requires.reduced c.loop-topic.topic within
    c.index-reduced.result.now c.index-reduced.ensures

pub loop-topic-preserved : goal.loop-topic-preserved
loop-topic-preserved c =
    let H = c.args.state.now.history in
    let group = c.args.judgements.now.group in
    let i = c.loop-topic.topic in
    let ids = topic_ids H in
    let id : Text = get_or ids i [] in
    let within : i < length ids = omega (arith, c.loop-topic-test.true, c.topics-topic-end.ensures) in
    let at : topic_at H i ≡ Some id = slice_get-get_or ids i [] within in
    let reduced = c.index-reduced.result.now in
    let reduced_is : reduced ≡ reduced_in H group id (labelled_documents H id) =
    topic-reduced H group c.args.judgements.now.topics.items c.requires.reduced i within reduced c.index-reduced.ensures id at in
    let owned : ℕ = count_by (contains_text (own H group id)) (graded_documents H id) in
    let own_is : reduced.own ≡ owned = ap (λ (one : ReducedJudgements). one.own) reduced_is ∙ sym (own-are H group id) in
    let few : reduced.own ≤ max_entries =
    (topic-few H group c.args.judgements.now.topics.items c.requires.reduced i within reduced c.index-reduced.ensures).own in
    let value_is : (one : ℕ × Run) → IsLive H c.args.run one → c.in_ok-value.value ≡ value_on H group one.1 id = λ one live.
    c.in_ok-value.ensures.value id one at live ∙ ap (λ (group : Text). value_on H group one.1 id) c.bytes.ensures in
    let was = c.loop-topic.sums in
    let kept = small reduced.own i c.in_ok-value.value was few c.in_ok-value.ensures.mean c.loop-topic.invariant.own c.loop-topic.invariant.topics
    c.loop-topic.invariant.precisions in
    let now_is = c.with_topic-sums.ensures in
    record {
      sums = λ one live.
          now_is
          ∙ ap (with_topic reduced.own c.in_ok-value.value) (c.loop-topic.invariant.sums one live)
          ∙ ap (λ n. with_topic n c.in_ok-value.value (sums_in H group one.1 (take i ids))) own_is
          ∙ ap (λ (v : Option ℕ). with_topic owned v (sums_in H group one.1 (take i ids))) (value_is one live)
          ∙ sym (sums-more H group one.1 ids i within);
      own = omega (arith, ap (λ (s : Sums). s.own) now_is, kept.0);
      topics = omega (arith, ap (λ (s : Sums). s.topics) now_is, kept.1);
      precisions = omega (arith, ap (λ (s : Sums). s.precisions) now_is, ap (λ (s : Sums). s.topics) now_is, kept.2);
    }
