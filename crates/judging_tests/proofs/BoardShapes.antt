-- How many topics a board has, by their levels.
use Rattle.std.proofs.Common.{◌≡◌, ◌∙◌, ℕ, [], ◌∷◌, ap, length, sym}
use Rattle.std.proofs.lemmas.List.{length-map}
use Rattle.score_index.specs.Scores.{Scores, TopicScores, board_levels}

counted : (board : Scores) → length (board_levels board) ≡ length board.topics
counted board = length-map board.topics (λ (topic : TopicScores). topic.level)

-- a board that keeps its levels has as many topics
pub as_many : (old new : Scores) → board_levels new ≡ board_levels old → length old.topics ≡ 2 → length new.topics ≡ 2
as_many old new same two = sym (counted new) ∙ ap length same ∙ counted old ∙ two

-- a board of two levels has two topics
pub two_topics : (board : Scores) (first second : ℕ) → board_levels board ≡ first ∷ second ∷ [] → length board.topics ≡ 2
two_topics board first second levels_are = sym (counted board) ∙ ap length levels_are
