use Rattle.std.proofs.Common.{◌≡◌, ◌∙◌, ℕ, List, [], Option, Some, ap, map, subst, sym}
use Rattle.std.specs.BTreeMap.{insert_entry}
use Rattle.std.specs.BTreeSet.{insert_key}
use Rattle.std.proofs.lemmas.List.Sums.{fold_more}
use Rattle.decimal_rank.proofs.Lists.{slice-there}
use Rattle.rulebook.specs.Words.{Text}
use Rattle.campaign_core.specs.Views.LentTopics.{topic_at}
use Rattle.campaign_core.specs.Assessments.Topics.{topic_ids}
use Rattle.campaign_core.proofs.Lists.ByteOrder.{text_cmp}
use Rattle.leave_out.specs.TopicOrder.{AreTopicNumbers}
use Rattle.leave_out.proofs.TopicsById.{keys-put, numbered-put}
use Rattle.leave_out.proofs.topic_order.topic_ids.Goals as goal

pub loop-topic-preserved : goal.loop-topic-preserved
loop-topic-preserved c =
    let H = c.args.state.now.history in
    let ids = topic_ids H in
    let i = c.loop-topic.topic in
    let was = c.loop-topic.ids.entries in
    let id : Text = c.in_ok-id.id in
    let at : topic_at H i ≡ Some id = c.topic_name.ensures ∙ ap (λ (text : Text). let o : Option Text = Some text in o) (sym c.in_ok-id.ensures.text) in
    let there = slice-there ids i [] id at in
    let now_is : c.insert.new.self.entries ≡ insert_entry text_cmp was id i = c.in_ok-insert.ensures.entries in
    record {
      by_id =
          ap (map (λ (one : Text × ℕ). one.0)) now_is
          ∙ keys-put was id i
          ∙ ap (λ (keys : List Text). insert_key text_cmp keys id) c.loop-topic.invariant.by_id
          ∙ ap (insert_key text_cmp _) (sym there.1)
          ∙ sym (fold_more (insert_key text_cmp) [] ids i [] there.0);
      numbered = subst (AreTopicNumbers H) (sym now_is) (numbered-put H was id i at c.loop-topic.invariant.numbered);
    }
