-- The items of arrays.
use Rattle.std.proofs.Common.{◌≡◌, List, [], ◌∷◌, Some, map, refl, ap, ◌∙◌, option_map}
use Rattle.toml.specs.Data.{Data, as_array}
use Rattle.toml.specs.View.{view, items_view}
use Rattle.toml.specs.declared.value.Value.{Value}
use Rattle.campaign_settings.specs.TomlTables.{array_items}

pub list_is : (values : List Value) → map view values ≡ array_items (items_view values)
list_is [] = refl
list_is (value ∷ values) = ap (λ ds. view value ∷ ds) (list_is values)

-- the items of an array
pub listed : (values : List Value) (found : Data) → Some (items_view values) ≡ as_array found → Some (map view values) ≡ option_map array_items (as_array found)
listed values found is = ap Some (list_is values) ∙ ap (option_map array_items) is
