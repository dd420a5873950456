-- What `clap` makes of one value of a name, and what its rows then have.
use Rattle.std.proofs.Common.{◌≡◌, ◌∙◌, ◌&&◌, ◌||◌, ℕ, Bool, true, false, not, cond, List, [], ◌∷◌, ◌++◌, Option, Some, None, map, refl, sym, ap, option_map, append-nil, true≢false}
use Rattle.std.specs.Prelude.{bytes_eq, find, is_some, option_and_then, slice_get}
use Rattle.std.specs.List.{list_any}
use Rattle.std.specs.Option.{option_map_or}
use Rattle.clap.specs.Words.{Row, Rule, first_of, new_rule}
use Rattle.clap.specs.Facts.{explicit_source}
use Rattle.clap.specs.Faults.{use_fault}
use Rattle.clap.specs.Kinds.{or_else}
use Rattle.clap.specs.Takes.{is_given}
use Rattle.clap.specs.Walk.{at_row, has_row, more_values, used}
use Rattle.clap.specs.declared.builder.action.ArgAction.TheVariants as action
use Rattle.clap.specs.declared.builder.value_parser.Reading.TheVariants as how
use Rattle.clap.specs.declared.builder.value_parser.ValueParser.TheVariants as parser
use Rattle.clap.specs.declared.error.kind.ErrorKind.TheVariants as kind
use Rattle.clap.specs.declared.parser.matches.ValueSource.TheVariants as source
use Rattle.clap.proofs.WalkLemmas.{list_any-map}
use Rattle.command_words.specs.CommandLines.{is_clear}
use Rattle.command_words.specs.Words.{Text, each_by, has, value_named}

-- the rule of a name once the command line is built
abbrev pub built_rule : Text → Option Text → Option ℕ → Rule
built_rule name long index = record (new_rule name) {
  long = long;
  index = index;
  action = Some action.Set;
  range = Some (record { start_inclusive = 1; end_inclusive = 1 });
  parser = Some parser.String;
  required = true;
}

-- the row of a name with its one value
abbrev pub row : Text × Text → Row
row v = record { id = v.0; values = v.1 ∷ []; count = None; source = Some source.CommandLine; reading = how.AsWritten }

new_row : (id : Text) (change : Row → List Row) (missing rows : List Row) → has_row id rows ≡ false → at_row id change missing rows ≡ rows ++ missing
new_row id change missing [] none = refl
new_row id change missing (r ∷ rows) none = by (bytes_eq r.id id) (new_row id change missing rows) none
  where
    by : (t : Bool) → (has_row id rows ≡ false → at_row id change missing rows ≡ rows ++ missing) → (t || has_row id rows) ≡ false
        → cond t (change r ++ rows) (r ∷ at_row id change missing rows) ≡ r ∷ (rows ++ missing)
    by true later bad = absurd (true≢false bad)
    by false later fresh = ap (λ rest. r ∷ rest) (later fresh)

module _ (name : Text) (long : Option Text) (index : Option ℕ) (value : Text) (rows : List Row) where
  pub used_new : has_row name rows ≡ false → used (built_rule name long index) (value ∷ []) rows ≡ rows ++ row (name, value) ∷ []
  used_new none =
      ap (λ rs. at_row name (more_values source.CommandLine (value ∷ [])) (row (name, value) ∷ []) rs) (new_row name (λ _. []) [] rows none ∙ append-nil rows)
      ∙ new_row name (more_values source.CommandLine (value ∷ [])) (row (name, value) ∷ []) rows none

  pub new_use : has_row name rows ≡ false → use_fault false (built_rule name long index) (value ∷ []) rows ≡ []
  new_use none = ap (λ t. or_else (cond (t && true) (kind.ArgumentConflict ∷ []) []) []) none

  pub second_use : has_row name rows ≡ true → is_clear (use_fault false (built_rule name long index) (value ∷ []) rows) ≡ false
  unfolding is_clear
  second_use some = ap (λ t. is_clear (or_else (cond (t && true) (kind.ArgumentConflict ∷ []) []) [])) some

pub no_value : (name : Text) (long : Option Text) (index : Option ℕ) (rows : List Row) → is_clear (use_fault false (built_rule name long index) [] rows) ≡ false
unfolding is_clear
no_value name long index rows = refl

-- the rows of values

pub row_has : (name : Text) (values : List (Text × Text)) → has_row name (map row values) ≡ has name values
row_has name values = sym (list_any-map (λ (r : Row). bytes_eq r.id name) row values)

pub first_is : (name : Text) (values : List (Text × Text)) → first_of name (map row values) ≡ value_named values name
first_is name [] = refl
first_is name (v ∷ values) = by (bytes_eq v.0 name) (first_is name values)
  where
    by : (t : Bool) → first_of name (map row values) ≡ value_named values name
        → option_and_then (λ (r : Row). slice_get r.values 0) (cond t (Some (row v)) (find (λ (r : Row). bytes_eq r.id name) (map row values)))
        ≡ option_map (λ (w : Text × Text). w.1) (cond t (Some v) (find (λ (w : Text × Text). bytes_eq w.0 name) values))
    by true later = refl
    by false later = later

given_is : (name : Text) (values : List (Text × Text)) → is_given name (map row values) ≡ is_some (value_named values name)
given_is name [] = refl
given_is name (v ∷ values) = by (bytes_eq v.0 name) (given_is name values)
  where
    by : (t : Bool) → is_given name (map row values) ≡ is_some (value_named values name)
        → option_map_or (λ (r : Row). explicit_source r.source) (cond t (Some (row v)) (find (λ (r : Row). bytes_eq r.id name) (map row values))) false
        ≡ is_some (option_map (λ (w : Text × Text). w.1) (cond t (Some v) (find (λ (w : Text × Text). bytes_eq w.0 name) values)))
    by true later = refl
    by false later = later

-- a name has no value exactly where not each has one
pub each_missing : (values : List (Text × Text)) (names : List Text)
    → list_any (λ name. not (is_given name (map row values))) names ≡ not (is_some (each_by (value_named values) names))
each_missing values [] = refl
each_missing values (name ∷ names) = ap (λ t. not t || list_any (λ name. not (is_given name (map row values))) names) (given_is name values)
    ∙ by (value_named values name) (each_missing values names)
  where
    kept : (x : Text) (o : Option (List Text)) → not (is_some o) ≡ not (is_some (option_map (λ rest. x ∷ rest) o))
    kept x None = refl
    kept x (Some rest) = refl

    by : (o : Option Text) → list_any (λ name. not (is_given name (map row values))) names ≡ not (is_some (each_by (value_named values) names))
        → (not (is_some o) || list_any (λ name. not (is_given name (map row values))) names)
        ≡ not (is_some (option_and_then (λ first. option_map (λ rest. first ∷ rest) (each_by (value_named values) names)) o))
    by None later = refl
    by (Some x) later = later ∙ kept x (each_by (value_named values) names)
