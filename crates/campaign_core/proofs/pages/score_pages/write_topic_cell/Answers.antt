use Rattle.std.proofs.Common.{◌≡◌, ◌<◌, ◌++◌, ◌∙◌, ℕ, true, false, List, [], ap, sym, arith, get_or, length, map}
use Rattle.std.specs.Prelude.{if◌then◌else◌}
use Rattle.std.proofs.lemmas.List.{append-nil, length-map}
use Rattle.measures.specs.ScoreLines.{cell_text}
use Rattle.measures.specs.declared.cells.Cell.{Cell}
use Rattle.assessment.specs.TopicFacts.{TopicView, facts_of}
use Rattle.rulebook.specs.Reports.Scores.{cell_on, is_counted}
use Rattle.rulebook.specs.Words.{Text}
use Rattle.campaign_core.specs.Numbering.Numbers.{names_of}
use Rattle.campaign_core.specs.Assessments.Topics.{topic_ids}
use Rattle.campaign_core.proofs.Lists.Elements.{get-map}
use Rattle.campaign_core.proofs.Numbers.TopicPlaces.{as-long, found-at, view-at}
use Rattle.campaign_core.proofs.PageTexts.RunCells.{as-many, cell-at}
use Rattle.campaign_core.proofs.pages.score_pages.write_topic_cell.Goals as goal

long : (topics : List TopicView) (number : ℕ) → number < length topics → number < length (map facts_of topics)
long topics number within = omega (arith, within, length-map topics facts_of)

at-place : (topics : List TopicView) (number : ℕ) (topic : TopicView) → topic ≡ get_or topics number topic
    → topic.facts ≡ get_or (map facts_of topics) number topic.facts
at-place topics number topic is = ap facts_of is ∙ sym (get-map facts_of topics number topic)

pub cell-requires : goal.cell-requires
cell-requires c =
    let H = c.requires.knows.0 in
    let topics = c.args.topics.now in
    omega (
      arith,
      long topics c.args.number c.requires.within,
      as-many H (map facts_of topics) c.args.board.now c.args.run c.requires.knows.1 c.requires.knows.2,
    )

pub overflow_cast-number : goal.overflow_cast-number
overflow_cast-number c =
    let H = c.requires.knows.0 in
    let topics = c.args.topics.now in
    let knows = c.requires.knows.2 in
    omega (
      arith,
      long topics c.args.number c.requires.within,
      as-long H (map facts_of topics) knows.desk knows.knows,
      knows.knows.topics_fit,
    )

pub returns-then-not-is_counted : goal.returns-then-not-is_counted
returns-then-not-is_counted c = λ H r knows name_is.
    let topic = c.index-topics-number.result in
    let id = get_or (topic_ids H) c.args.number [] in
    let page = view-at H c.args.topics.now knows.desk c.args.number topic knows.knows c.requires.within c.index-topics-number.is in
    let none : false ≡ is_counted H id = c.if-not-is_counted.ensures H (names_of H) page.is_topic ∙ ap (is_counted H) page.id_is in
    sym (append-nil c.args.out.now.items) ∙ ap (λ t. c.args.out.now.items ++ (if t then cell_text r.name id (cell_on H r id) else [])) none

pub returns : goal.returns
returns c = λ H r knows name_is.
    let topics = c.args.topics.now in
    let topic = c.index-topics-number.result in
    let before = c.args.out.now.items in
    let id = get_or (topic_ids H) c.args.number [] in
    let page = view-at H topics knows.desk c.args.number topic knows.knows c.requires.within c.index-topics-number.is in
    let some : true ≡ is_counted H id = c.if-not-is_counted.ensures H (names_of H) page.is_topic ∙ ap (is_counted H) page.id_is in
    let cell : c.cell.result.now ≡ cell_on H r id = c.cell.ensures.cell _ knows.scored.stands
    ∙ cell-at H (map facts_of topics) c.args.board.now c.args.run r knows c.graded_are_on_trail.ensures c.graded_are_there.ensures id
    c.args.number topic.facts (found-at H (map facts_of topics) knows.desk knows.knows c.args.number (long topics c.args.number c.requires.within))
    (at-place topics c.args.number topic c.index-topics-number.is) in
    c.in_ok-write_cell.ensures.ok
    ∙ ap (λ (name : Text). before ++ cell_text name c.id.result.now c.cell.result.now) name_is
    ∙ ap (λ (shown_id : Text). before ++ cell_text r.name shown_id c.cell.result.now) (c.id.ensures ∙ page.id_is)
    ∙ ap (λ (cell : Cell). before ++ cell_text r.name id cell) cell
    ∙ ap (λ t. before ++ (if t then cell_text r.name id (cell_on H r id) else [])) some
