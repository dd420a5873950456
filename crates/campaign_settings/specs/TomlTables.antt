-- What the tables of a TOML text have at their keys.
use Rattle.std.specs.Prelude.{◌==◌, ℕ, suc, ℤ, pos, negsuc, Bool, true, false, ◌&&◌, List, [], ◌∷◌, Option, Some, None, bytes_eq, nat_le, option_and_then, option_map, if◌then◌else◌}
use Rattle.std.specs.List.{list_any}
use Rattle.std.specs.Option.{option_map_or}
use Rattle.std.specs.Str.{is_utf8}
use Rattle.toml.specs.Data.{Data, table, Items, no_items, item, Members, no_members, member, get, as_str, as_integer, as_array, as_table}
use Rattle.toml.specs.Parse.{parse_document}

-- the data of a text as TOML
abbrev pub data_of : List ℕ → Option Data
data_of text = option_map table (if is_utf8 text then parse_document text else None)

-- a number that isn't negative
abbrev pub natural : ℤ → Option ℕ
natural (pos n) = Some n
natural (negsuc n) = None

-- a number that is within these bounds, both included
abbrev pub number_within : ℕ → ℕ → ℕ → Option ℕ
number_within low high n = if nat_le low n && nat_le n high then Some n else None

-- the whole number at a key, within these bounds
abbrev pub whole_number_at : List ℕ → ℕ → ℕ → Data → Option ℕ
whole_number_at key low high d = option_and_then (number_within low high) (option_and_then natural (option_and_then as_integer (get key d)))

-- the text at a key
abbrev pub text_at : List ℕ → Data → Option (List ℕ)
text_at key d = option_and_then as_str (get key d)

abbrev pub array_items : Items → List Data
array_items no_items = []
array_items (item d items) = d ∷ array_items items

-- the items of the array at a key; where the key is absent there are none
abbrev pub array_at : List ℕ → Data → Option (List Data)
array_at key d = option_map_or (λ v. option_map array_items (as_array v)) (get key d) (Some [])

abbrev pub key_count : Members → ℕ
key_count no_members = 0
key_count (member key value members) = suc (key_count members)

-- a table with so many keys
abbrev pub has_keys : ℕ → Data → Bool
has_keys count d = option_map_or (λ members. key_count members == count) (as_table d) false

abbrev pub are_known : List (List ℕ) → Members → Bool
are_known known no_members = true
are_known known (member key value members) = list_any (λ k. bytes_eq k key) known && are_known known members

-- a table with no other keys
abbrev pub has_known_keys : List (List ℕ) → Data → Bool
has_known_keys known d = option_map_or (are_known known) (as_table d) false

-- what each is read as, where each can be read
abbrev pub each_of : {X : Type 0} → (Data → Option X) → List Data → Option (List X)
each_of read [] = Some []
each_of read (d ∷ ds) = option_and_then (λ x. option_map (λ xs. x ∷ xs) (each_of read ds)) (read d)
