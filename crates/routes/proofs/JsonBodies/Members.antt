-- How many members an object has.
use Rattle.std.proofs.Common.{◌≡◌, ℕ, List, [], ◌∷◌, Some, None, false, length, refl, sym, ap, ◌∙◌, nat_eq, suc}
use Rattle.std.specs.Prelude.{String}
use Rattle.std.specs.declared.alloc.Global.{Global}
use Rattle.std.specs.Option.{option_map_or}
use Rattle.serde_json.specs.Data.{Data}
use Rattle.serde_json.specs.Find.{as_object}
use Rattle.serde_json.specs.View.{members_view}
use Rattle.serde_json.specs.declared.value.Value.{Value}
use Rattle.routes.specs.Json.Bodies.{member_count, has_members}

member_count-view : (members : List (String Global × Value)) → member_count (members_view members) ≡ length members
member_count-view [] = refl
member_count-view (m ∷ members) = ap suc (member_count-view members)

pub counted : (value : Data) (members : List (String Global × Value)) (size count : ℕ) → Some (members_view members) ≡ as_object value
    → size ≡ length members → nat_eq size count ≡ has_members count value
counted value members size count object is =
    ap (λ n. nat_eq n count) (is ∙ sym (member_count-view members)) ∙ ap (λ o. option_map_or (λ ms. nat_eq (member_count ms) count) o false) object

pub uncounted : (value : Data) (count : ℕ) → None ≡ as_object value → false ≡ has_members count value
uncounted value count none = ap (λ o. option_map_or (λ ms. nat_eq (member_count ms) count) o false) none
