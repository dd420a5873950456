-- The keys of tables.
use Rattle.std.proofs.Common.{◌≡◌, ◌||◌, ◌&&◌, ℕ, List, [], ◌∷◌, Bool, Some, None, false, length, map, refl, sym, ap, ap₂, ◌∙◌, nat_eq, suc, String, Global, string_bytes, bytes_eq, Bor, BTreeMap}
use Rattle.std.specs.BTreeMap.{keys}
use Rattle.std.specs.List.{list_all, list_any}
use Rattle.std.specs.Map.{keys_of}
use Rattle.std.specs.Option.{option_map_or}
use Rattle.toml.specs.Data.{Data, as_table}
use Rattle.toml.specs.View.{members_view, table_view}
use Rattle.toml.specs.declared.value.Value.{Value}
use Rattle.campaign_settings.specs.TomlTables.{key_count, has_keys, are_known, has_known_keys}

member_count-view : (entries : List (String Global × Value)) → key_count (members_view entries) ≡ length entries
member_count-view [] = refl
member_count-view (m ∷ entries) = ap suc (member_count-view entries)

pub counted : (value : Data) (entries : List (String Global × Value)) (size count : ℕ) → Some (members_view entries) ≡ as_table value
    → size ≡ length entries → nat_eq size count ≡ has_keys count value
counted value entries size count is_table is =
    ap (λ n. nat_eq n count) (is ∙ sym (member_count-view entries)) ∙ ap (λ o. option_map_or (λ ms. nat_eq (key_count ms) count) o false) is_table

pub uncounted : (value : Data) (count : ℕ) → None ≡ as_table value → false ≡ has_keys count value
uncounted value count none = ap (λ o. option_map_or (λ ms. nat_eq (key_count ms) count) o false) none

any_shown : (known : List (Bor (List ℕ))) (text : List ℕ) → list_any (λ k. bytes_eq k.now text) known ≡ list_any (λ k. bytes_eq k text) (map (λ k. k.now) known)
any_shown [] text = refl
any_shown (k ∷ known) text = ap (λ t. bytes_eq k.now text || t) (any_shown known text)

all_known : (known : List (Bor (List ℕ))) (entries : List (String Global × Value))
    → list_all (λ key. list_any (λ k. bytes_eq k.now (string_bytes key)) known) (keys_of entries) ≡ are_known (map (λ k. k.now) known) (members_view entries)
all_known known [] = refl
all_known known (m ∷ entries) = ap₂ (λ a b. a && b) (any_shown known (string_bytes m.0)) (all_known known entries)

-- a table whose keys are known
pub known_keys : (known : List (Bor (List ℕ))) (value : Data) (map_now : BTreeMap (String Global) Value) (result : Bool)
    → Some (table_view map_now) ≡ as_table value
    → result ≡ list_all (λ key. list_any (λ k. bytes_eq k.now (string_bytes key)) known) (keys map_now) → result ≡ has_known_keys (map (λ k. k.now) known) value
known_keys known value map_now result is_table is =
    is ∙ all_known known map_now.entries ∙ ap (λ o. option_map_or (are_known (map (λ k. k.now) known)) o false) is_table

pub no_keys : (known : List (Bor (List ℕ))) (value : Data) → None ≡ as_table value → false ≡ has_known_keys (map (λ k. k.now) known) value
no_keys known value none = ap (λ o. option_map_or (are_known (map (λ k. k.now) known)) o false) none
