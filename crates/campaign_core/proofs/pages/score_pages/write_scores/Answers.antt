use Rattle.std.proofs.Common.{◌≡◌, ◌++◌, ◌∷◌, [], ◌∙◌, ◌+◌, ◌≤◌, ℕ, ap, arith, sym, get_or, map, take, take_all, length, rules, append_assoc, subst}
use Rattle.std.specs.Prelude.{OnOk}
use Rattle.std.specs.List.{flat_map}
use Rattle.std.proofs.lemmas.List.{append-nil, flat_map_more, length-map, take_more}
use Rattle.std.proofs.lemmas.List.Folds.{flat_map-map}
use Rattle.rulebook.specs.Reports.Pages.{topics_in_order}
use Rattle.rulebook.specs.Reports.Scores.{cell_lines, summary_lines}
use Rattle.rulebook.specs.Words.{Text}
use Rattle.campaign_core.specs.Assessments.Topics.{AreById, topic_ids}
use Rattle.assessment.specs.TopicFacts.{facts_of}
use Rattle.campaign_core.proofs.PageTexts.PageTopics.{ids-differ, numbered-by-id}
use Rattle.campaign_core.proofs.pages.score_pages.write_scores.Goals as goal

pub numbers_by_id-requires : goal.numbers_by_id-requires
numbers_by_id-requires c =
    let knows = c.requires.knows.2 in
    ids-differ c.requires.knows.0 (map facts_of c.args.topics.now) knows.desk knows.knows

pub loop-number-init : goal.loop-number-init
loop-number-init c = record {
  by_id = subst (AreById (map facts_of c.args.topics.now)) (sym c.deref-number-items.ensures.value) c.in_ok-numbers_by_id.ensures;
  printed = λ H r knows name_is. sym (append-nil c.args.out.now.items);
}

pub write_topic_cell-requires : goal.write_topic_cell-requires
write_topic_cell-requires c = record {
  knows = c.requires.knows;
  within = omega (arith, c.loop-number.invariant.by_id.within c.loop-number.number-index 0 c.loop-number-test.true, length-map c.args.topics.now facts_of);
}

pub loop-number-preserved : goal.loop-number-preserved
loop-number-preserved c = record {
  by_id = c.loop-number.invariant.by_id;
  printed = λ H r knows name_is.
      let items = c.deref-number-items.result.now in
      let at = c.loop-number.number-index in
      let part : ℕ → Text = λ number. cell_lines H r (get_or (topic_ids H) number []) in
      c.in_ok-write_topic_cell.ensures H r knows name_is
      ∙ ap (λ text. text ++ part (get_or items at 0)) (c.loop-number.invariant.printed H r knows name_is)
      ∙ flat_map_more part c.args.out.now.items (take at items) (get_or items at 0)
      ∙ ap (λ numbers. c.args.out.now.items ++ flat_map part numbers) (sym (take_more items at 0 c.loop-number-test.true));
}

pub returns : goal.returns
returns c = λ H r knows name_is.
    let items = c.deref-number-items.result.now in
    let before = c.args.out.now.items in
    let part : Text → Text = cell_lines H r in
    let id_at : ℕ → Text = λ number. get_or (topic_ids H) number [] in
    let past : length items ≤ c.loop-number.number-index = search rules in
    let cells : c.loop-number.out.items ≡ before ++ flat_map part (topics_in_order H) =
    c.loop-number.invariant.printed H r knows name_is
    ∙ ap (λ numbers. before ++ flat_map (λ number. part (id_at number)) numbers) (take_all c.loop-number.number-index items past)
    ∙ ap (λ text. before ++ text)
    (sym (flat_map-map part id_at items)
    ∙ ap (flat_map part) (numbered-by-id H (map facts_of c.args.topics.now) items knows.knows.topics_are c.loop-number.invariant.by_id)) in
    let whole : c.loop-number.out.items ++ summary_lines H r ≡ before ++ (flat_map part (topics_in_order H) ++ summary_lines H r) =
    ap (λ text. text ++ summary_lines H r) cells ∙ append_assoc before (flat_map part (topics_in_order H)) (summary_lines H r) in
    subst (λ text. OnOk c.write_run_summary.result (c.write_run_summary.new.out.items ≡ text)) whole (c.write_run_summary.ensures H r knows name_is)
