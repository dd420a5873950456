use Rattle.std.proofs.Common.{◌+◌, ◌/◌, ◌∙◌, List, ℕ, ap}
use Rattle.rank_trees.specs.Words.{places_in}
use Rattle.rank_trees.proofs.Words.{places-none}
use Rattle.rank_trees.proofs.place_words.PlaceWords.new.Goals as goal

pub returns : goal.returns
returns c = ap (λ (words : List ℕ). places_in 64 words) (c.in_ok-words.ensures.items_if_clones_equal (λ y e. e)) ∙ places-none 64 (c.args.places / 64 + 1)
