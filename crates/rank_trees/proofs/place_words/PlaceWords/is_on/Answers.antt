use Rattle.std.proofs.Common.{◌≡◌, ◌+◌, ◌-◌, ◌%◌, ◌==◌, ◌∙◌, false, ℕ, List, Bool, ap, arith, get_or, take, drop}
use Rattle.std.proofs.lemmas.List.{get_or-drop, get_or-take}
use Rattle.rank_trees.proofs.Words.{head-on}
use Rattle.rank_trees.proofs.place_words.PlaceWords.is_on.Goals as goal

pub returns-clause-on : goal.returns-clause-on
returns-clause-on g c =
    let i : ℕ = c.args.index in
    let on : List Bool = c.args.self.now in
    let back : i + 0 ≡ i = omega arith in
    ap (λ (n : ℕ). n % 2 == 1) c.from.ensures.places
    ∙ head-on (take (64 - i % 64) (drop i on))
    ∙ get_or-take (64 - i % 64) (drop i on) 0 false (omega arith)
    ∙ get_or-drop i on 0 false
    ∙ ap (λ (n : ℕ). get_or on n false) back
