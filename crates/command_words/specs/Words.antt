-- What words give, by the forms of commands.
use Rattle.std.specs.Prelude.{◌==◌, ℕ, Bool, false, List, [], ◌∷◌, ◌++◌, Option, Some, None, bytes_eq, find, is_some, length, map, nat_lt, option_and_then, option_map, if◌then◌else◌}
use Rattle.std.specs.List.{after_first, before_first, list_any}
use Rattle.std.specs.Borrow.{Bor}
use Rattle.std.specs.Option.{option_map_or}
use Rattle.command_words.specs.declared.forms.CommandWords.{CommandWords}

abbrev pub Text : Type 0
Text = List ℕ

-- a command's name, the names of its positional words in their order, and the names of its options
pub record Form : Type 0 where
  pub name : Text
  pub positionals : List Text
  pub options : List Text

-- the form that a row of a table has
abbrev pub form_of : Bor Text × Bor (List (Bor Text)) × Bor (List (Bor Text)) → Form
form_of row = record {
  name = row.0.now;
  positionals = map (λ name. name.now) row.1.now;
  options = map (λ name. name.now) row.2.now;
}

-- what was read: the command's name, and the values of its positional words and then of its options
abbrev pub view_of : CommandWords → Text × List Text
view_of command = (command.name.now, map (λ value. value.now) command.values.items)

-- what is behind a first minus (45)
abbrev pub behind_minus : Text → Option Text
behind_minus [] = None
behind_minus (b ∷ word) = if b == 45 then Some word else None

abbrev pub begins_with_minus : Text → Bool
begins_with_minus word = is_some (behind_minus word)

abbrev pub is_equals : ℕ → Bool
is_equals b = b == 61

-- the value behind the first `=` (61), where there is one
abbrev pub value_behind : Text → Option Text
value_behind text = if list_any is_equals text then Some (after_first is_equals text) else None

-- an option's name, and the value that its word has
abbrev pub option_named : Text → Option (Text × Option Text)
option_named [] = None
option_named (b ∷ text) = Some (before_first is_equals (b ∷ text), value_behind (b ∷ text))

-- `--name` or `--name=V`; none, where the word is no option
abbrev pub option_of : Text → Option (Text × Option Text)
option_of word = option_and_then option_named (option_and_then behind_minus (behind_minus word))

-- a word that no command has: it begins with a minus and is no option, or the value in it begins with a minus
abbrev pub is_stray : Text → Bool
is_stray word = option_map_or (λ option. option_map_or begins_with_minus option.1 false) (option_of word) (begins_with_minus word)

-- the names of the positional words that are still to come, the option whose value comes next, and the values so far by their names
pub record WordsReading : Type 0 where
  pub left : List Text
  pub waits : Option Text
  pub values : List (Text × Text)

abbrev pub has_option_name : Text → Text → Bool
has_option_name name other = bytes_eq other name

abbrev pub has : Text → List (Text × Text) → Bool
has name values = list_any (λ value. bytes_eq value.0 name) values

-- the name gets its one value
abbrev pub with_value : Text → Text → List Text → List (Text × Text) → Option WordsReading
with_value name value left values =
    if has name values then None else Some (record { left = left; waits = None; values = values ++ (name, value) ∷ [] })

-- the option has its value in its word, or waits for the next word
abbrev pub value_at : Text → Option Text → List Text → List (Text × Text) → Option WordsReading
value_at name (Some value) left values = with_value name value left values
value_at name None left values = Some (record { left = left; waits = Some name; values = values })

-- an option is one of the command's
abbrev pub at_option : Form → Text × Option Text → List Text → List (Text × Text) → Option WordsReading
at_option form option left values =
    if list_any (has_option_name option.0) form.options then value_at option.0 option.1 left values else None

-- another word is the next positional word
abbrev pub at_positional : Text → List Text → List (Text × Text) → Option WordsReading
at_positional word [] values = None
at_positional word (name ∷ left) values = with_value name word left values

abbrev pub at_word : Form → Option (Text × Option Text) → Text → List Text → List (Text × Text) → Option WordsReading
at_word form (Some option) word left values = at_option form option left values
at_word form None word left values = at_positional word left values

-- the value of an option doesn't begin with a minus
abbrev pub next_by : Form → Option Text → Text → List Text → List (Text × Text) → Option WordsReading
next_by form (Some name) word left values = if begins_with_minus word then None else with_value name word left values
next_by form None word left values = at_word form (option_of word) word left values

-- what is read with one more word
abbrev pub next : Form → WordsReading → Text → Option WordsReading
next form reading word = next_by form reading.waits word reading.left reading.values

-- what is read with all these words
unfoldable pub read_on : Form → WordsReading → List Text → Option WordsReading
read_on form reading [] = Some reading
read_on form reading (word ∷ words) = option_and_then (λ more. read_on form more words) (next form reading word)

abbrev pub start : Form → WordsReading
start form = record { left = form.positionals; waits = None; values = [] }

-- what each name has, where each has something
abbrev pub each_by : (Text → Option Text) → List Text → Option (List Text)
each_by value [] = Some []
each_by value (name ∷ names) = option_and_then (λ first. option_map (λ rest. first ∷ rest) (each_by value names)) (value name)

abbrev pub value_named : List (Text × Text) → Text → Option Text
value_named values name = option_map (λ value. value.1) (find (λ value. bytes_eq value.0 name) values)

abbrev pub form_names : Form → List Text
form_names form = form.positionals ++ form.options

-- no option waits, and each name has its value
abbrev pub form_values : Form → WordsReading → Option (List Text)
form_values form reading = if is_some reading.waits then None else each_by (value_named reading.values) (form_names form)

-- the values that the words behind a command's name give: each positional word in its place, each option once
abbrev pub values_given : Form → List Text → Option (List Text)
values_given form words = option_and_then (form_values form) (read_on form (start form) words)

-- the form of the command of this name
abbrev pub form_named : Text → List Form → Option Form
form_named name forms = find (λ form. bytes_eq form.name name) forms

abbrev pub values_with_name : Form → Option (List Text) → Option (Text × List Text)
values_with_name form values = option_map (λ values. (form.name, values)) values

-- the first word is a command's name, and the words behind it give its values
abbrev pub command_in : List Form → List Text → Option (Text × List Text)
command_in forms [] = None
command_in forms (name ∷ words) = option_and_then (λ form. values_with_name form (values_given form words)) (form_named name forms)

-- the command that words give by these forms
unfoldable pub given_by : List Form → List Text → Option (Text × List Text)
given_by forms words = if list_any is_stray words then None else command_in forms words

-- a form has so few positional words that their places have numbers
abbrev pub is_form : Form → Bool
is_form form = nat_lt (length form.positionals) 1000
