-- The command line of some forms as `clap` has it, and what its matches give.
use Rattle.std.specs.Prelude.{◌≡◌, Bool, true, false, List, [], ◌∷◌, ◌++◌, Option, Some, codes, fold, map, option_and_then}
use Rattle.clap.specs.Words.{App, Kinds, Row, Rule, first_of, new_app, new_rule, with_rule, with_subcommand}
use Rattle.clap.specs.Simple.{on_top}
use Rattle.command_words.specs.Words.{Form, Text, each_by, form_named, form_names, values_with_name}

-- a positional word, which has to be there
abbrev pub place_rule : Text → Rule
place_rule name = record (new_rule name) { required = true }

-- an option, which has to be there
abbrev pub option_rule : Text → Rule
option_rule name = record (new_rule name) { long = Some name; required = true }

-- the arguments of one command: its positional words, and its options behind them
abbrev pub form_rules : Form → List Rule
form_rules form = map place_rule form.positionals ++ map option_rule form.options

-- the command line of one command
abbrev pub form_line : Form → App
form_line form = fold with_rule (new_app form.name) (form_rules form)

-- the words begin behind the program's name, and `clap` adds no help of its own
abbrev pub bare : App → App
bare line = on_top (λ top. record top { no_binary_name = true; disable_help_flag = true; disable_help_subcommand = true }) line

abbrev pub with_form : App → Form → App
with_form line form = with_subcommand line (form_line form).top

abbrev pub program : List Form → App
program forms = fold with_form (bare (new_app (codes "program"))) forms

-- what the rows of a command's matches have of each name
abbrev pub values_at : List Row → List Text → Option (List Text)
values_at rows names = each_by (λ name. first_of name rows) names

-- what the matches of a command give
abbrev pub found_at : List Form → Text × List Row → Option (Text × List Text)
found_at forms found = option_and_then (λ form. values_with_name form (values_at found.1 (form_names form))) (form_named found.0 forms)

abbrev pub found_by : List Form → Option (Text × List Row) → Option (Text × List Text)
found_by forms found = option_and_then (found_at forms) found

-- `clap` refuses for no other cause than memory
unfoldable pub is_clear : Kinds → Bool
is_clear [] = true
is_clear (_ ∷ _) = false
