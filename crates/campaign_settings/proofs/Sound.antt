-- Rules that are read are within their bounds.
use Rattle.std.proofs.Common.{◌≡◌, ◌&&◌, ℕ, Bool, true, List, [], ◌∷◌, Option, Some, None, Result, Ok, Err, length, map, refl, subst, codes, option_map}
use Rattle.std.specs.Prelude.{IfOk, IsTrue, nat_le, option_and_then}
use Rattle.std.specs.List.{list_all}
use Rattle.std.proofs.lemmas.Bool.{and_parts, and_from}
use Rattle.std.proofs.lemmas.Option.{cond_some}
use Rattle.toml.specs.Data.{Data, as_str, as_integer, get}
use Rattle.trec_formats.specs.Names.{is_between, is_name}
use Rattle.rulebook.specs.declared.rules.Rules.{Rules}
use Rattle.rulebook.specs.declared.rules.TopicLevel.{TopicLevel}
use Rattle.rulebook.specs.Requests.Limits.{max_depth, max_hold, max_term, max_top_grade, max_topics}
use Rattle.rulebook.specs.Spelling.{are_levels, are_rules, are_settings, is_ascending, is_topic_level}
use Rattle.campaign_settings.specs.declared.faults.SettingsEnd.{SettingsEnd}
use Rattle.campaign_settings.specs.declared.faults.SettingsEnd.TheVariants as end
use Rattle.campaign_settings.specs.declared.settings.Settings.{Settings}
use Rattle.campaign_settings.specs.Settings.{GivesSetting, ascending_levels, callers_at, doubles_of, doubles_setting, level_setting, levels_setting, name_of, name_setting, rules_setting, setting_names, settings_in, text_if}
use Rattle.campaign_settings.specs.TomlTables.{array_at, each_of, has_keys, has_known_keys, natural, number_within, text_at, whole_number_at}

-- what was read of what was read
module _ {A B : Type 0} where
  between : (o : Option A) (read : A → Option B) (y : B) → option_and_then read o ≡ Some y → (x : A) × (o ≡ Some x) × (read x ≡ Some y)
  between None read y e = let bad : None ≡ Some y = e in absurd (cc bad)
  between (Some x) read y e = (x, refl, e)

number_bounds : (key : List ℕ) (low high : ℕ) (d : Data) (n : ℕ) → whole_number_at key low high d ≡ Some n → is_between low high n ≡ true
number_bounds key low high d n e =
    let found = between (option_and_then natural (option_and_then as_integer (get key d))) (number_within low high) n e in
    let w = cond_some (is_between low high found.0) found.0 n found.2 in
    subst (λ m. is_between low high m ≡ true) w.1 w.0

named_in : (o : Option (List ℕ)) (name : List ℕ) → option_and_then (text_if is_name) o ≡ Some name → is_name name ≡ true
named_in o name e =
    let found = between o (text_if is_name) name e in
    let w = cond_some (is_name found.0) found.0 name found.2 in
    subst (λ text. is_name text ≡ true) w.1 w.0

-- what is read of each passes a test, if what is read of one does
module _ {X : Type 0} (read : Data → Option X) (test : X → Bool) (passes : (d : Data) (x : X) → read d ≡ Some x → test x ≡ true) where
  all_pass : (ds : List Data) (xs : List X) → each_of read ds ≡ Some xs → list_all test xs ≡ true
  all_pass [] xs e =
      let same : Some [] ≡ Some xs = e in
      let none : [] ≡ xs = cc same in
      subst (λ ys. list_all test ys ≡ true) none refl
  all_pass (d ∷ ds) xs e =
      let first = between (read d) (λ x. option_map (λ ys. x ∷ ys) (each_of read ds)) xs e in
      by (each_of read ds) refl first.0 (passes d first.0 first.1) first.2 (λ ys rest. all_pass ds ys rest)
    where
      by : (o : Option (List X)) → each_of read ds ≡ o → (x : X) → test x ≡ true → option_map (λ ys. x ∷ ys) o ≡ Some xs
          → ((ys : List X) → each_of read ds ≡ Some ys → list_all test ys ≡ true) → list_all test xs ≡ true
      by None rest x is all again = let bad : None ≡ Some xs = all in absurd (cc bad)
      by (Some ys) rest x is all again =
          let same : Some (x ∷ ys) ≡ Some xs = all in
          let xs_are : x ∷ ys ≡ xs = cc same in
          subst (λ zs. list_all test zs ≡ true) xs_are (and_from (test x) (list_all test ys) is (again ys rest))

doubles_sound : (d : Data) (names : List (List ℕ)) → doubles_setting d ≡ Some names
    → (list_all is_name names ≡ true) × ((nat_le (length names) max_topics && is_ascending names) ≡ true)
doubles_sound d names e =
    let read = between (option_and_then (each_of name_of) (array_at (codes "doubles") d)) doubles_of names e in
    let items = between (array_at (codes "doubles") d) (each_of name_of) read.0 read.1 in
    let w = cond_some (nat_le (length read.0) max_topics && is_ascending read.0) read.0 names read.2 in (
      subst (λ ns. list_all is_name ns ≡ true) w.1 (all_pass name_of is_name (λ d name. named_in (as_str d) name) items.0 read.0 items.2),
      subst (λ ns. (nat_le (length ns) max_topics && is_ascending ns) ≡ true) w.1 w.0,
    )

level_sound : (top : ℕ) (d : Data) (own : TopicLevel) → level_setting top d ≡ Some own → is_topic_level top own ≡ true
unfolding level_setting
level_sound top d own e =
    let topic = between (name_setting (codes "topic") d) _ own e in
    let level = between (whole_number_at (codes "level") 1 top d) _ own topic.2 in
    let made : TopicLevel = record { topic = topic.0; level = level.0 } in
    let w = cond_some (has_keys 2 d) made own level.2 in
    subst (λ (o : TopicLevel). is_topic_level top o ≡ true) w.1
    (and_from (is_name topic.0) (is_between 1 top level.0) (named_in (text_at (codes "topic") d) topic.0 topic.1)
    (number_bounds (codes "level") 1 top d level.0 level.1))

abbrev few_ascending : List TopicLevel → Bool
few_ascending levels = nat_le (length levels) max_topics && is_ascending (map (λ own. own.topic) levels)

levels_sound : (top : ℕ) (d : Data) (levels : List TopicLevel) → levels_setting top d ≡ Some levels
    → (list_all (is_topic_level top) levels ≡ true) × (few_ascending levels ≡ true)
levels_sound top d levels e =
    let read = between (option_and_then (each_of (level_setting top)) (array_at (codes "levels") d)) ascending_levels levels e in
    let items = between (array_at (codes "levels") d) (each_of (level_setting top)) read.0 read.1 in
    let w = cond_some (few_ascending read.0) read.0 levels read.2 in (
      subst (λ ls. list_all (is_topic_level top) ls ≡ true) w.1 (all_pass (level_setting top) (is_topic_level top) (level_sound top) items.0 read.0 items.2),
      subst (λ ls. few_ascending ls ≡ true) w.1 w.0,
    )

abbrev rules_of : (depth term hold top_grade level : ℕ) (doubles : List (List ℕ)) (levels : List TopicLevel) → Rules
rules_of depth term hold top_grade level doubles levels =
    record { depth = depth; term = term; hold = hold; level = level; top_grade = top_grade; doubles = doubles; levels = levels }

all_within : (depth term hold top_grade level : ℕ) (doubles : List (List ℕ)) (levels : List TopicLevel)
    → is_between 1 max_depth depth ≡ true → is_between 1 max_term term ≡ true → is_between 1 max_hold hold ≡ true
    → is_between 1 max_top_grade top_grade ≡ true → is_between 1 top_grade level ≡ true → list_all is_name doubles ≡ true
    → (nat_le (length doubles) max_topics && is_ascending doubles) ≡ true
    → are_settings (rules_of depth term hold top_grade level doubles levels) ≡ true
all_within depth term hold top_grade level doubles levels a b c d e f g =
    let both = and_parts (nat_le (length doubles) max_topics) (is_ascending doubles) g in
    let first = is_between 1 max_depth depth in
    let second = is_between 1 max_term term in
    let third = is_between 1 max_hold hold in
    let fourth = is_between 1 max_top_grade top_grade in
    let fifth = is_between 1 top_grade level in
    let few = nat_le (length doubles) max_topics in
    let names = list_all is_name doubles in
    and_from (first && second && third && fourth && fifth && few && names) (is_ascending doubles)
    (and_from (first && second && third && fourth && fifth && few) names
    (and_from (first && second && third && fourth && fifth) few
    (and_from (first && second && third && fourth) fifth
    (and_from (first && second && third) fourth
    (and_from (first && second) third
    (and_from first second a b) c) d) e) both.0) f) both.1

all_leveled : (r : Rules) → list_all (is_topic_level r.top_grade) r.levels ≡ true → few_ascending r.levels ≡ true → are_levels r ≡ true
all_leveled r all few =
    let both = and_parts (nat_le (length r.levels) max_topics) (is_ascending (map (λ (own : TopicLevel). own.topic) r.levels)) few in
    and_from (nat_le (length r.levels) max_topics && list_all (is_topic_level r.top_grade) r.levels)
    (is_ascending (map (λ (own : TopicLevel). own.topic) r.levels))
    (and_from (nat_le (length r.levels) max_topics) (list_all (is_topic_level r.top_grade) r.levels) both.0 all) both.1

pub rules_sound : (d : Data) (rules : Rules) → rules_setting d ≡ Some rules → are_rules rules ≡ true
unfolding rules_setting
rules_sound d rules e =
    let depth = between (whole_number_at (codes "depth") 1 max_depth d) _ rules e in
    let term = between (whole_number_at (codes "term") 1 max_term d) _ rules depth.2 in
    let hold = between (whole_number_at (codes "hold") 1 max_hold d) _ rules term.2 in
    let top_grade = between (whole_number_at (codes "top_grade") 1 max_top_grade d) _ rules hold.2 in
    let level = between (whole_number_at (codes "level") 1 top_grade.0 d) _ rules top_grade.2 in
    let doubles = between (doubles_setting d) _ rules level.2 in
    let levels = between (levels_setting top_grade.0 d) _ rules doubles.2 in
    let made : Rules = rules_of depth.0 term.0 hold.0 top_grade.0 level.0 doubles.0 levels.0 in
    let same : Some made ≡ Some rules = levels.2 in
    let rules_are : made ≡ rules = cc same in
    let sound = doubles_sound d doubles.0 doubles.1 in
    let leveled = levels_sound top_grade.0 d levels.0 levels.1 in
    subst (λ r. are_rules r ≡ true) rules_are (and_from (are_settings made) (are_levels made)
    (all_within depth.0 term.0 hold.0 top_grade.0 level.0 doubles.0 levels.0
    (number_bounds (codes "depth") 1 max_depth d depth.0 depth.1) (number_bounds (codes "term") 1 max_term d term.0 term.1)
    (number_bounds (codes "hold") 1 max_hold d hold.0 hold.1)
    (number_bounds (codes "top_grade") 1 max_top_grade d top_grade.0 top_grade.1)
    (number_bounds (codes "level") 1 top_grade.0 d level.0 level.1) sound.0 sound.1)
    (all_leveled made leveled.0 leveled.1))

settings_sound : (d : Data) (settings : Settings) → settings_in d ≡ Some settings → are_rules settings.rules ≡ true
unfolding settings_in
settings_sound d settings e =
    let rules = between (rules_setting d) _ settings e in
    let callers = between (callers_at d) _ settings rules.2 in
    let made : Settings = record { rules = rules.0; callers = callers.0 } in
    let w = cond_some (has_known_keys setting_names d) made settings callers.2 in
    subst (λ (s : Settings). are_rules s.rules ≡ true) w.1 (rules_sound d rules.0 rules.1)

pub sound : (d : Data) (result : Result Settings SettingsEnd) → GivesSetting (λ settings. settings) result (settings_in d)
    → IfOk result (λ settings. IsTrue (are_rules settings.rules))
sound d (Ok settings) w = settings_sound d settings w
sound d (Err end.Refused) w = tt
sound d (Err end.Memory) w = tt
