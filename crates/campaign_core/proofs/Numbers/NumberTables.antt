-- A table of numbers by caller and number.
use Rattle.std.proofs.Common.{◌≡◌, ◌&&◌, ◌==◌, ℕ, Bool, true, false, cond, List, [], ◌∷◌, Some, find, map, refl, ap, ◌∙◌}
use Rattle.std.specs.Option.{option_map}
use Rattle.std.specs.Str.{bytes_eq}
use Rattle.std.specs.Map.{lookup}
use Rattle.decimal_rank.proofs.TruthValues.{eqb_swap, bytes_eq-swap}
use Rattle.rulebook.specs.Words.{Text}
use Rattle.campaign_core.specs.Numbering.NumberedRequests.{NumberedRequest, is_number_of, numbered_at, place_of_number}

abbrev pub is_key : Text → ℕ → Text × ℕ → Bool
is_key name number key = bytes_eq name key.0 && (number == key.1)

abbrev pub shown : (Text × ℕ) × ℕ → NumberedRequest
shown entry = numbered_at entry.1 entry.0.0 entry.0.1

-- what is found by a key is the place of the number
pub lookup-place : (name : Text) (number : ℕ) (es : List ((Text × ℕ) × ℕ))
    → lookup (is_key name number) es ≡ place_of_number name number (map shown es)
lookup-place name number [] = refl
lookup-place name number (e ∷ es) =
    ap (λ t. cond (t && (number == e.0.1)) (Some e.1) (lookup (is_key name number) es)) (bytes_eq-swap name e.0.0)
    ∙ ap (λ t. cond (bytes_eq e.0.0 name && t) (Some e.1) (lookup (is_key name number) es)) (eqb_swap number e.0.1)
    ∙ step (is_number_of name number (shown e)) (lookup-place name number es)
  where
    step : (t : Bool) → lookup (is_key name number) es ≡ place_of_number name number (map shown es)
        → cond t (Some e.1) (lookup (is_key name number) es)
        ≡ option_map (λ (one : NumberedRequest). one.place) (cond t (Some (shown e)) (find (is_number_of name number) (map shown es)))
    step true rest = refl
    step false rest = rest
