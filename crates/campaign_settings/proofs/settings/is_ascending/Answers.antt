use Rattle.std.proofs.Common.{◌≡◌, ◌∙◌, ℕ, List, ap, rules}
use Rattle.std.proofs.lemmas.Fn.{always_returns_same}
use Rattle.std.proofs.lemmas.List.{map-id}
use Rattle.rulebook.specs.Spelling.{is_ascending}
use Rattle.campaign_settings.proofs.AscendingNeighbours.{ascending, is_before}
use Rattle.campaign_settings.proofs.settings.is_ascending.Goals as goal

pub returns : goal.returns
returns c =
    ascending (λ (name : List ℕ). name) c.args.names.now c.is_sorted_by.result
    (c.is_sorted_by.ensures.cases (is_before (λ (name : List ℕ). name))
    (always_returns_same _ (λ a r. r ≡ is_before (λ (name : List ℕ). name) a.0.now a.1.0.now) _ (λ a r f' q. (search rules, search rules))))
    ∙ ap is_ascending (map-id c.args.names.now)
