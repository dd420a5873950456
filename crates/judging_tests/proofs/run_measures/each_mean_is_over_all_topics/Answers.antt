use Rattle.std.proofs.Common.{◌∷◌, []}
use Rattle.std.proofs.lemmas.List.Elements.{All-cons, All-nil}
use Rattle.measures.specs.Cells.{IsSound}
use Rattle.judging_tests.proofs.run_measures.each_mean_is_over_all_topics.Goals as goal

pub mean-summary-requires-clause-sound : goal.mean-summary-requires-clause-sound
mean-summary-requires-clause-sound g c =
    let one = All-cons IsSound c.scratch-unjudged.result [] c.scratch-unjudged.ensures.sound (All-nil IsSound) in
    let two = All-cons IsSound c.scratch-absent.result (c.scratch-unjudged.result ∷ []) c.scratch-absent.ensures.sound one in
    let three = All-cons IsSound c.scratch-other.result (c.scratch-absent.result ∷ c.scratch-unjudged.result ∷ []) c.scratch-other.ensures.sound two in
    All-cons IsSound c.scratch-one.result (c.scratch-other.result ∷ c.scratch-absent.result ∷ c.scratch-unjudged.result ∷ []) c.scratch-one.ensures.sound three
