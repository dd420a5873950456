use Rattle.std.proofs.Common.{◌≡◌, ◌<◌, ◌≤◌, ◌++◌, ◌∷◌, ◌∙◌, List, [], Some, ap, arith, get_or, length, map, subst, sym, take, take_all}
use Rattle.std.specs.Prelude.{All}
use Rattle.std.proofs.lemmas.List.{map_more}
use Rattle.std.proofs.lemmas.List.Elements.{All-push}
use Rattle.std.proofs.lemmas.Option.{slice_get-get_or}
use Rattle.rulebook.specs.Judgements.Grades.{labelled_documents}
use Rattle.rulebook.specs.Words.{Text}
use Rattle.campaign_core.specs.Views.LentTopics.{topic_at}
use Rattle.campaign_core.specs.Assessments.Topics.{topic_ids}
use Rattle.leave_out.specs.ReducedJudgements.{AreFew, reduced_in}
use Rattle.leave_out.specs.declared.reduced_judgements.ReducedJudgements.{ReducedJudgements}
use Rattle.leave_out.proofs.groups.reduced_by_topic.Goals as goal

pub loop-topic-preserved : goal.loop-topic-preserved
loop-topic-preserved c =
    let H = c.args.state.now.history in
    let i = c.loop-topic.topic in
    let ids = topic_ids H in
    let id : Text = get_or ids i [] in
    let within : i < length ids = omega (arith, c.loop-topic-test.true, c.topics-topic-end.ensures) in
    let at : topic_at H i ≡ Some id = slice_get-get_or ids i [] within in
    let of : Text → ReducedJudgements = λ topic. reduced_in H c.args.group.now topic (labelled_documents H topic) in
    record {
      topics_are =
          c.in_ok-push.ensures.items
          ∙ ap (λ (topics : List ReducedJudgements). topics ++ c.reduced_on.result ∷ []) c.loop-topic.invariant.topics_are
          ∙ ap (λ (one : ReducedJudgements). map of (take i ids) ++ one ∷ []) (c.reduced_on.ensures.judgements id at)
          ∙ sym (map_more of ids i [] within);
      few = subst (All AreFew) (sym c.in_ok-push.ensures.items)
          (All-push AreFew c.loop-topic.topics.items c.reduced_on.result c.loop-topic.invariant.few c.reduced_on.ensures.few);
    }

pub returns : goal.returns
returns c =
    let H = c.args.state.now.history in
    let of : Text → ReducedJudgements = λ topic. reduced_in H c.args.group.now topic (labelled_documents H topic) in
    let past : length (topic_ids H) ≤ c.loop-topic.topic = omega (arith, c.loop-topic-test.false, c.topics-topic-end.ensures) in
    record {
      topics_are = c.loop-topic.invariant.topics_are ∙ ap (map of) (take_all c.loop-topic.topic (topic_ids H) past);
      few = c.loop-topic.invariant.few;
    }
