-- The board that a state lends has the cells of the rules.
use Rattle.std.proofs.Common.{◌≡◌, ◌<◌, ℕ, zero, suc, List, [], ◌∷◌, Some, get_or, length, map, refl, sym, arith}
use Rattle.std.specs.List.{position}
use Rattle.std.specs.Str.{bytes_eq}
use Rattle.assessment.specs.TopicFacts.{TopicFacts}
use Rattle.score_index.specs.Scores.{Scores}
use Rattle.rulebook.specs.Campaign.{History}
use Rattle.rulebook.specs.Histories.Entries.{GradedAreOnTrail, GradedAreThere}
use Rattle.rulebook.specs.Histories.Legal.{IsLegal}
use Rattle.campaign_core.specs.CampaignStates.{KnowsRun}
use Rattle.campaign_core.specs.Assessments.DeskLeases.{topic_in}
use Rattle.campaign_core.specs.Views.LendingLaws.{HasRulesCells}
use Rattle.campaign_core.specs.Views.Lendings.{IsBoardOf}
use Rattle.campaign_core.specs.Assessments.RunScores.{fact_grades}
use Rattle.campaign_core.specs.Assessments.Topics.{topic_ids}
use Rattle.campaign_core.proofs.Numbers.TopicNumbers.{topic-found}
use Rattle.campaign_core.proofs.PageTexts.RunCells.{cell-at}
use Rattle.campaign_core.proofs.Rulings.KeptTopics.{known-topic}
use Rattle.campaign_core.proofs.Numbers.TopicIds.{state-ids}

got-at : {X : Type 0} (xs : List X) (i : ℕ) → i < length xs → (x : X) × (x ≡ get_or xs i x)
got-at [] i h = absurd (omega arith)
got-at (y ∷ xs) zero h = (y, refl)
got-at (y ∷ xs) (suc i) h = got-at xs i (omega arith)

pub board-ruled : GradedAreOnTrail → GradedAreThere → (H : History) (board : Scores) → IsLegal H → IsBoardOf H board → HasRulesCells H board
board-ruled on_trail there H board legal lent = record {
  grades = map fact_grades lent.topics;
  stands = lent.scored.stands;
  cells = λ number run topic run_is listed.
      let at = topic_in (topic_ids H) topic in
      let knows : KnowsRun H lent.topics board number run =
      record { legal = legal; desk = lent.desk; knows = lent.knows; scored = lent.scored; run_is = run_is } in
      let found : Some at ≡ position (λ (s : TopicFacts). bytes_eq s.id topic) lent.topics =
      sym (topic-found lent.topics (topic_ids H) topic (state-ids H lent.topics (topic_ids H) lent.knows.topics_are) listed) in
      let here = got-at lent.topics at (known-topic H lent.topics topic at lent.knows.topics_are found).within in
      cell-at H lent.topics board number run knows on_trail there topic at here.0 found here.1;
}
