-- The ranked list of a live run on a topic, by numbers and by documents.
use Rattle.std.proofs.Common.{◌≡◌, ◌∙◌, ℕ, List, [], ◌∷◌, None, Option, Some, ap, refl}
use Rattle.std.specs.Option.{option_map_or}
use Rattle.decimal_rank.specs.declared.naming.DocId.{DocId}
use Rattle.depth_pool.specs.declared.runs.RunId.{RunId}
use Rattle.assessment.specs.RunLists.{unless_empty}
use Rattle.rulebook.specs.Campaign.{History, Run, docs_on}
use Rattle.rulebook.specs.Words.{Text}
use Rattle.campaign_core.specs.Views.LentTopics.{topic_at}
use Rattle.campaign_core.specs.Numbering.Numbers.{docs_in, names_of}
use Rattle.campaign_core.specs.Assessments.RunScores.{list_in, ranked_on, run_at}
use Rattle.campaign_core.specs.Assessments.Topics.{topic_ids}
use Rattle.leave_out.specs.ReducedJudgements.{IsLive}

listed : (H : History) (topic : ℕ) (id : Text) (number : RunId) (one : ℕ × Run) → topic_at H topic ≡ Some id → IsLive H number one
    → list_in (names_of H) (topic_ids H) (run_at H number) topic ≡ ranked_on (names_of H) id one.1
listed H topic id number one at live =
    ap (λ (o : Option Text). option_map_or (λ id. option_map_or (ranked_on (names_of H) id) (run_at H number) None) o None) at
    ∙ ap (λ (o : Option Run). option_map_or (ranked_on (names_of H) id) o None) live.run_is

module _ (H : History) (topic : ℕ) (id : Text) (number : RunId) (one : ℕ × Run) (at : topic_at H topic ≡ Some id) (live : IsLive H number one) where
  -- a list that is there is that of the run's documents
  pub list-there : (docs : List DocId) → Some docs ≡ list_in (names_of H) (topic_ids H) (run_at H number) topic
      → docs ≡ docs_in (names_of H) (docs_on one.1.lists id)
  list-there docs is = step (docs_on one.1.lists id) (is ∙ listed H topic id number one at live)
    where
      step : (listed_docs : List Text) → Some docs ≡ unless_empty (docs_in (names_of H) listed_docs) → docs ≡ docs_in (names_of H) listed_docs
      step [] is = cc is
      step (d ∷ ds) is = let same : docs ≡ docs_in (names_of H) (d ∷ ds) = cc is in same

  -- where there is none, the run has no documents
  pub list-none : None ≡ list_in (names_of H) (topic_ids H) (run_at H number) topic → docs_on one.1.lists id ≡ []
  list-none is = step (docs_on one.1.lists id) (is ∙ listed H topic id number one at live)
    where
      step : (listed_docs : List Text) → ◌≡◌ {A = Option (List DocId)} None (unless_empty (docs_in (names_of H) listed_docs)) → listed_docs ≡ []
      step [] is = refl
      step (d ∷ ds) is = cc is
