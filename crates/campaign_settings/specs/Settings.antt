-- The settings that the bytes of `campaign.toml` give.
use Rattle.std.specs.Prelude.{◌≡◌, ℕ, Bool, ◌&&◌, ◌||◌, List, [], ◌∷◌, Option, Some, None, Result, Ok, Err, length, bytes_eq, nat_le, codes, map, option_and_then, if◌then◌else◌}
use Rattle.std.specs.List.{list_all}
use Rattle.toml.specs.Data.{Data, as_str}
use Rattle.trec_formats.specs.Names.{is_between, is_name}
use Rattle.rulebook.specs.declared.rules.Role.{Role}
use Rattle.rulebook.specs.declared.rules.Role.TheVariants.{Organiser, Group, Assessor}
use Rattle.rulebook.specs.declared.rules.Rules.{Rules}
use Rattle.rulebook.specs.declared.rules.TopicLevel.{TopicLevel}
use Rattle.rulebook.specs.Requests.Limits.{max_depth, max_hold, max_term, max_top_grade, max_topics}
use Rattle.rulebook.specs.Spelling.{is_ascending}
use Rattle.routes.specs.declared.keys.KeyRow.{KeyRow}
use Rattle.routes.specs.Keys.{are_rows}
use Rattle.campaign_settings.specs.declared.faults.SettingsEnd.{SettingsEnd}
use Rattle.campaign_settings.specs.declared.faults.SettingsEnd.TheVariants as end
use Rattle.campaign_settings.specs.declared.settings.Settings.{Settings}
use Rattle.campaign_settings.specs.TomlTables.{data_of, whole_number_at, text_at, array_at, has_keys, has_known_keys, each_of}

infixl 10 ◌>>=◌
-- what is read of what was read, where both can be
abbrev pub ◌>>=◌ : {A B : Type 0} → Option A → (A → Option B) → Option B
found >>= read = option_and_then read found

-- a text that the test takes
abbrev pub text_if : (List ℕ → Bool) → List ℕ → Option (List ℕ)
text_if test text = if test text then Some text else None

abbrev pub name_of : Data → Option (List ℕ)
name_of d = as_str d >>= text_if is_name

-- the name at a key
abbrev pub name_setting : List ℕ → Data → Option (List ℕ)
name_setting key d = text_at key d >>= text_if is_name

-- the names of the topics whose documents need two labels: at most 250, strictly ascending
abbrev pub doubles_of : List (List ℕ) → Option (List (List ℕ))
doubles_of names = if nat_le (length names) max_topics && is_ascending names then Some names else None

abbrev pub doubles_setting : Data → Option (List (List ℕ))
doubles_setting d = array_at (codes "doubles") d >>= each_of name_of >>= doubles_of

-- a level of a topic's own: a table with the topic and the level, which is at most the greatest grade, and nothing else
unfoldable pub level_setting : ℕ → Data → Option TopicLevel
level_setting top d = do
  topic ← name_setting (codes "topic") d
  level ← whole_number_at (codes "level") 1 top d
  (if has_keys 2 d then Some (record { topic = topic; level = level }) else None)

-- the levels of topics: at most 250, the topics strictly ascending
abbrev pub ascending_levels : List TopicLevel → Option (List TopicLevel)
ascending_levels levels = if nat_le (length levels) max_topics && is_ascending (map (λ own. own.topic) levels) then Some levels else None

abbrev pub levels_setting : ℕ → Data → Option (List TopicLevel)
levels_setting top d = array_at (codes "levels") d >>= each_of (level_setting top) >>= ascending_levels

-- the rules, each within its bounds
unfoldable pub rules_setting : Data → Option Rules
rules_setting d = do
  depth ← whole_number_at (codes "depth") 1 max_depth d
  term ← whole_number_at (codes "term") 1 max_term d
  hold ← whole_number_at (codes "hold") 1 max_hold d
  top_grade ← whole_number_at (codes "top_grade") 1 max_top_grade d
  level ← whole_number_at (codes "level") 1 top_grade d
  doubles ← doubles_setting d
  levels ← levels_setting top_grade d
  Some (record { depth = depth; term = term; hold = hold; level = level; top_grade = top_grade; doubles = doubles; levels = levels })

abbrev pub role_setting : List ℕ → Option Role
role_setting text = if bytes_eq text (codes "organiser") then Some Organiser
    else (if bytes_eq text (codes "group") then Some Group
    else (if bytes_eq text (codes "assessor") then Some Assessor else None))

-- a letter or a digit
abbrev pub is_key_byte : ℕ → Bool
is_key_byte b = is_between 48 57 b || is_between 65 90 b || is_between 97 122 b

-- 16 to 64 letters and digits
abbrev pub is_key : List ℕ → Bool
is_key text = is_between 16 64 (length text) && list_all is_key_byte text

abbrev pub role_in : Data → Option Role
role_in d = text_at (codes "role") d >>= role_setting

abbrev pub key_in : Data → Option (List ℕ)
key_in d = text_at (codes "key") d >>= text_if is_key

-- a caller: a table with a name, a role and a key, and nothing else
unfoldable pub caller_setting : Data → Option KeyRow
caller_setting d = do
  name ← name_setting (codes "name") d
  role ← role_in d
  key ← key_in d
  (if has_keys 3 d then Some (record { name = name; role = role; key = key }) else None)

-- the most callers
abbrev pub most_callers : ℕ
most_callers = 500

-- so many callers at most, of which no two have one name or one key
abbrev pub distinct_callers : List KeyRow → Option (List KeyRow)
distinct_callers rows = if nat_le (length rows) most_callers && are_rows rows then Some rows else None

abbrev pub callers_at : Data → Option (List KeyRow)
callers_at d = array_at (codes "caller") d >>= each_of caller_setting >>= distinct_callers

-- the keys that settings may have
abbrev pub setting_names : List (List ℕ)
setting_names = codes "depth" ∷ codes "term" ∷ codes "hold" ∷ codes "level" ∷ codes "top_grade" ∷ codes "doubles" ∷ codes "levels" ∷ codes "caller" ∷ []

unfoldable pub settings_in : Data → Option Settings
settings_in d = do
  rules ← rules_setting d
  callers ← callers_at d
  (if has_known_keys setting_names d then Some (record { rules = rules; callers = callers }) else None)

-- The settings that a text gives, or none where it is refused.
abbrev pub settings_of : List ℕ → Option Settings
settings_of text = data_of text >>= settings_in

-- What a call gave, seen by the view, is what is read, or nothing is. Nothing is said of want of memory.
abbrev pub GivesSetting : {X A : Type 0} → (X → A) → Result X SettingsEnd → Option A → Type 0
GivesSetting view (Ok x) read = read ≡ Some (view x)
GivesSetting view (Err end.Refused) read = read ≡ None
GivesSetting view (Err end.Memory) read = Unit {0}
