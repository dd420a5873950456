-- What is known of a run, by the topics and the board.
use Rattle.std.proofs.Common.{◌≡◌, ◌∙◌, ℕ, List, None, Some, ap, map, subst, sym}
use Rattle.std.specs.Option.{option_map_or}
use Rattle.std.proofs.lemmas.Option.{slice_get-get_or}
use Rattle.decimal_rank.proofs.Lists.{map-map}
use Rattle.depth_pool.specs.declared.runs.RunId.{RunId}
use Rattle.lease_desk.specs.declared.leases.Lease.{Lease}
use Rattle.score_index.specs.Scores.{Scores, board_levels, run_docs_at}
use Rattle.score_index.specs.BoardGrades.{StandsFor}
use Rattle.assessment.specs.Changes.{facts}
use Rattle.assessment.specs.RunLists.{RankedLists}
use Rattle.assessment.specs.TopicFacts.{TopicView, facts_of, view_grades as graded_in}
use Rattle.assessment.specs.TopicsFacts.{TopicsFacts, TopicsView, topics_facts}
use Rattle.rulebook.specs.Campaign.{History, Run, level}
use Rattle.rulebook.specs.Histories.Legal.{IsLegal}
use Rattle.rulebook.specs.Words.{Text}
use Rattle.campaign_core.specs.CampaignStates.{IsKnown, KnowsAll, KnowsRun}
use Rattle.campaign_core.specs.Views.Lendings.{IsBoardOf}
use Rattle.campaign_core.specs.Numbering.Numbers.{names_of}
use Rattle.campaign_core.specs.Assessments.RunScores.{AreListed, fact_grades, list_in, ranked_on, run_at}
use Rattle.campaign_core.specs.Assessments.Topics.{topic_ids}
use Rattle.campaign_core.specs.declared.campaign.Campaign.{Campaign}

pub knows-run : (H : History) (all : TopicsView) (items : List TopicView) (board : Scores) (desk : List Lease) (number : RunId) (run : Run)
    → IsLegal H → KnowsAll H (topics_facts all).topics desk
    → (topics_facts all).levels ≡ map (level H) (topic_ids H) → AreListed H (names_of H) (topics_facts all).lists
    → items ≡ all.topics → board ≡ all.board → StandsFor board (map graded_in all.topics)
    → run_at H number ≡ Some run → KnowsRun H (map facts_of items) board number run
knows-run H all items board desk number run legal knows levels_are lists_are items_are board_is stands run_is = record {
  legal = legal;
  desk = desk;
  knows = subst (λ (topics : List TopicView). KnowsAll H (map facts_of topics) desk) (sym items_are) knows;
  scored = record {
    levels_are = ap board_levels board_is ∙ levels_are;
    stands = subst (StandsFor board)
        (sym (ap (λ (topics : List TopicView). map fact_grades (map facts_of topics)) items_are ∙ map-map fact_grades facts_of all.topics)) stands;
    lists_are = λ run on d within. ap (λ (b : Scores). run_docs_at b run on) board_is ∙ lists_are run on d within;
  };
  run_is = run_is;
}

pub board-of : (H : History) (all : TopicsView) (board : Scores) (desk : List Lease) → KnowsAll H (topics_facts all).topics desk
    → (topics_facts all).levels ≡ map (level H) (topic_ids H)
    → AreListed H (names_of H) (topics_facts all).lists → board ≡ all.board → StandsFor board (map graded_in all.topics) → IsBoardOf H board
board-of H all board desk knows levels_are lists_are board_is stands = record {
  topics = map facts_of all.topics;
  desk = desk;
  knows = knows;
  scored = record {
    levels_are = ap board_levels board_is ∙ levels_are;
    stands = subst (StandsFor board) (sym (map-map fact_grades facts_of all.topics)) stands;
    lists_are = λ run on d within. ap (λ (b : Scores). run_docs_at b run on) board_is ∙ lists_are run on d within;
  };
}

-- the lists by topic number are those by topic id
pub listed-at : (H : History) (names : List Text) (lists : RankedLists)
    → ((run : RunId) (on : ℕ) → lists run on ≡ list_in names (topic_ids H) (run_at H run) on) → AreListed H names lists
listed-at H names lists are = λ run on d within.
    are run on ∙ ap (λ id. option_map_or (λ topic. option_map_or (ranked_on names topic) (run_at H run) None) id None)
    (slice_get-get_or (topic_ids H) on d within)

-- a live run, by the topics and the board that a campaign lends
pub known-run : (campaign : Campaign) (all : TopicsView) (items : List TopicView) (board : Scores) (number : RunId) (run : Run)
    → IsKnown campaign → (facts campaign.assessment).topics ≡ topics_facts all
    → items ≡ all.topics → board ≡ all.board → StandsFor board (map graded_in all.topics) → run_at campaign.history.items number ≡ Some run
    → KnowsRun campaign.history.items (map facts_of items) board number run
known-run campaign all items board number run known told_is items_are board_is stands run_is =
    let H = campaign.history.items in
    knows-run H all items board campaign.assessment.leases number run known.legal
    (subst (λ (facts : TopicsFacts). KnowsAll H facts.topics campaign.assessment.leases) told_is known.assessed.knows)
    (ap (λ (facts : TopicsFacts). facts.levels) (sym told_is) ∙ known.assessed.levels_are)
    (subst (λ (facts : TopicsFacts). AreListed H (names_of H) facts.lists) told_is (listed-at H (names_of H) _ known.assessed.lists_are))
    items_are board_is stands run_is
