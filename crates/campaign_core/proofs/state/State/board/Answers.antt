use Rattle.std.proofs.Common.{◌≡◌, ◌∙◌, ap, arith, length, map, subst}
use Rattle.std.proofs.lemmas.List.{length-map}
use Rattle.std.proofs.lemmas.Slice.Zip.{AllZip-long}
use Rattle.score_index.specs.BoardGrades.{StandsAt, StandsFor}
use Rattle.assessment.specs.Changes.{facts}
use Rattle.assessment.specs.TopicFacts.{facts_of, view_grades}
use Rattle.assessment.specs.TopicsFacts.{TopicsFacts, TopicsView, topics_facts}
use Rattle.campaign_core.specs.Views.Lendings.{IsBoardOf}
use Rattle.campaign_core.specs.Numbering.Numbers.{names_of}
use Rattle.campaign_core.specs.Assessments.RunScores.{AreListed}
use Rattle.campaign_core.specs.StateViews.{StateView}
use Rattle.campaign_core.specs.Assessments.Topics.{kept_topic, kept_topic_of, topic_ids}
use Rattle.campaign_core.proofs.PageTexts.KnownRuns.{board-of, listed-at}
use Rattle.campaign_core.proofs.state.State.board.Goals as goal

pub returns-clause-board : goal.returns-clause-board
returns-clause-board c =
    let H = c.self.inside.campaign.history.items in
    let all = c.self.inside.campaign.assessment.topics in
    let known = c.self.invariant.known.assessed in
    let told_is : (facts c.self.inside.campaign.assessment).topics ≡ topics_facts all =
    c.topics.ensures.lists c.self.invariant.on_board ∙ ap topics_facts c.topics.ensures.topics in
    let listed = subst (λ (facts : TopicsFacts). AreListed H (names_of H) facts.lists) told_is (listed-at H (names_of H) _ known.lists_are) in
    subst (λ (s : StateView). IsBoardOf s.history c.board.result.now) c.self.view_is
    (board-of H all c.board.result.now c.self.inside.campaign.assessment.leases known.knows known.levels_are listed
    (c.board.ensures.board ∙ ap (λ (topics : TopicsView). topics.board) c.topics.ensures.topics)
    (subst (λ (topics : TopicsView). StandsFor c.board.result.now (map view_grades topics.topics)) c.topics.ensures.topics c.board.ensures.stands))

pub returns-clause-as_many : goal.returns-clause-as_many
returns-clause-as_many c =
    let H = c.self.inside.campaign.history.items in
    let all = c.self.inside.campaign.assessment.topics in
    let board = c.board.result.now in
    let stands = subst (λ (topics : TopicsView). StandsFor board (map view_grades topics.topics)) c.topics.ensures.topics c.board.ensures.stands in
    let long = AllZip-long StandsAt board.topics (map view_grades all.topics) stands in
    let many = ap length c.self.invariant.known.assessed.knows.topics_are in
    let ids : length (topic_ids H) ≡ length (topic_ids c.args.self.now.history) = ap (λ (s : StateView). length (topic_ids s.history)) c.self.view_is in
    omega (
      arith,
      long,
      many,
      ids,
      length-map all.topics view_grades,
      length-map (map facts_of all.topics) kept_topic,
      length-map all.topics facts_of,
      length-map (topic_ids H) (kept_topic_of H),
    )
