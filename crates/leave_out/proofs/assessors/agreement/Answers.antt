use Rattle.std.proofs.Common.{◌≡◌, ◌<◌, ◌≤◌, ◌++◌, ◌∙◌, List, [], Option, Some, ap, arith, get_or, length, map, sym, take, take_all}
use Rattle.std.specs.List.{cons_option, filter_map}
use Rattle.decimal_rank.proofs.Lists.{slice-there}
use Rattle.rulebook.specs.Reports.Pages.{topics_in_order}
use Rattle.rulebook.specs.Words.{Text}
use Rattle.campaign_core.specs.Views.LentTopics.{topic_at}
use Rattle.campaign_core.specs.Assessments.Topics.{topic_ids}
use Rattle.leave_out.specs.Agreement.{agreed_on}
use Rattle.leave_out.specs.declared.assessors.Agreed.{Agreed}
use Rattle.leave_out.proofs.Agreements.AgreedTopics.{agreed-topics}
use Rattle.leave_out.proofs.Elements.{filter_map-more, there-at, there-long, told}
use Rattle.leave_out.proofs.assessors.agreement.Goals as goal

pub agreed_on-requires : goal.agreed_on-requires
agreed_on-requires c =
    let H = c.args.state.now.history in
    let topics = c.deref-topic-items.result.now in
    let are : map (topic_at H) topics ≡ map Some (topics_in_order H) = ap (map (topic_at H)) c.deref-topic-items.ensures.value ∙ c.in_ok-topics.ensures in
    let i = c.loop-topic.topic-index in
    let at = there-at (topic_at H) topics (topics_in_order H) i 0 [] are c.loop-topic-test.true in
    (slice-there (topic_ids H) (get_or topics i 0) [] (get_or (topics_in_order H) i []) at).0

pub loop-topic-preserved : goal.loop-topic-preserved
loop-topic-preserved c =
    let H = c.args.state.now.history in
    let topics = c.deref-topic-items.result.now in
    let ordered : List Text = topics_in_order H in
    let are : map (topic_at H) topics ≡ map Some ordered = ap (map (topic_at H)) c.deref-topic-items.ensures.value ∙ c.in_ok-topics.ensures in
    let i = c.loop-topic.topic-index in
    let id : Text = get_or ordered i [] in
    let at : topic_at H (get_or topics i 0) ≡ Some id = there-at (topic_at H) topics ordered i 0 [] are c.loop-topic-test.true in
    let within : i < length ordered = omega (arith, c.loop-topic-test.true, there-long (topic_at H) topics ordered are) in
    let row = c.in_ok-agreed_on.field-0 in
    let row_is : agreed_on H id ≡ row = told (topic_at H (get_or topics i 0)) id (agreed_on H) row at c.in_ok-agreed_on.ensures in
    c.in_ok-push_some.ensures
    ∙ ap (λ (rows : List Agreed). rows ++ cons_option row []) c.loop-topic.invariant
    ∙ ap (λ (o : Option Agreed). filter_map (agreed_on H) (take i ordered) ++ cons_option o []) (sym row_is)
    ∙ sym (filter_map-more (agreed_on H) ordered i [] within)

pub returns : goal.returns
returns c =
    let H = c.args.state.now.history in
    let topics = c.deref-topic-items.result.now in
    let ordered : List Text = topics_in_order H in
    let are : map (topic_at H) topics ≡ map Some ordered = ap (map (topic_at H)) c.deref-topic-items.ensures.value ∙ c.in_ok-topics.ensures in
    let past : length ordered ≤ c.loop-topic.topic-index = omega (arith, c.loop-topic-test.false, there-long (topic_at H) topics ordered are) in
    c.loop-topic.invariant ∙ ap (filter_map (agreed_on H)) (take_all c.loop-topic.topic-index ordered past) ∙ agreed-topics H ordered
