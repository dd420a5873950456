use Rattle.std.proofs.Common.{◌≡◌, ◌++◌, ◌∷◌, [], ◌∙◌, ◌+◌, ◌≤◌, ℕ, ap, arith, sym, get_or, map, subst, take, take_all, length, rules}
use Rattle.std.specs.List.{flat_map}
use Rattle.std.proofs.lemmas.List.{flat_map_more, length-map, take_more}
use Rattle.std.proofs.lemmas.List.Folds.{flat_map-map}
use Rattle.rulebook.specs.declared.reply.Reply.TheVariants as reply
use Rattle.rulebook.specs.Words.{Text}
use Rattle.campaign_core.specs.Views.PrintedPages.{part_of}
use Rattle.campaign_core.specs.Assessments.Topics.{AreById, topic_ids}
use Rattle.assessment.specs.TopicFacts.{facts_of}
use Rattle.campaign_core.proofs.PageTexts.PageTopics.{ids-differ, numbered-by-id}
use Rattle.campaign_core.proofs.pages.page_reply.Goals as goal

pub numbers_by_id-requires : goal.numbers_by_id-requires
numbers_by_id-requires c =
    let from = c.args.source.now in
    ids-differ c.requires.knows.0 (map facts_of from.topics.now) from.desk.now.leases c.requires.knows.1

pub loop-number-init : goal.loop-number-init
loop-number-init c = record {
  by_id = subst (AreById (map facts_of c.args.source.now.topics.now)) (sym c.deref-number-items.ensures.value) c.in_ok-numbers_by_id.ensures;
  printed = λ H knows names_are. c.new-out.ensures.items;
}

pub write_topic-requires : goal.write_topic-requires
write_topic-requires c = record {
  knows = c.requires.knows;
  within = omega
      (arith, c.loop-number.invariant.by_id.within c.loop-number.number-index 0 c.loop-number-test.true, length-map c.args.source.now.topics.now facts_of);
}

pub loop-number-preserved : goal.loop-number-preserved
loop-number-preserved c = record {
  by_id = c.loop-number.invariant.by_id;
  printed = λ H knows names_are.
      let items = c.deref-number-items.result.now in
      let at = c.loop-number.number-index in
      let part : ℕ → Text = λ number. part_of c.args.page H c.args.source.now.moment (get_or (topic_ids H) number []) in
      c.in_ok-write_topic.ensures H knows names_are
      ∙ ap (λ text. text ++ part (get_or items at 0)) (c.loop-number.invariant.printed H knows names_are)
      ∙ flat_map_more part [] (take at items) (get_or items at 0)
      ∙ ap (flat_map part) (sym (take_more items at 0 c.loop-number-test.true));
}

pub returns : goal.returns
returns c = λ H knows names_are.
    let from = c.args.source.now in
    let items = c.deref-number-items.result.now in
    let part : Text → Text = part_of c.args.page H from.moment in
    let id_at : ℕ → Text = λ number. get_or (topic_ids H) number [] in
    let past : length items ≤ c.loop-number.number-index = search rules in
    ap (λ text. reply.Page text) (c.new.ensures
    ∙ c.loop-number.invariant.printed H knows names_are
    ∙ ap (flat_map (λ number. part (id_at number))) (take_all c.loop-number.number-index items past)
    ∙ sym (flat_map-map part id_at items)
    ∙ ap (flat_map part) (numbered-by-id H (map facts_of from.topics.now) items knows.topics_are c.loop-number.invariant.by_id))
