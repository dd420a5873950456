-- The command line of a program's forms, once it is built.
use Rattle.std.proofs.Common.{◌≡◌, ◌∙◌, ◌&&◌, Bool, true, false, not, List, [], ◌∷◌, ◌++◌, codes, map, refl, sym, ap, ap₂, fold, append-nil, append_assoc, is_some, subst}
use Rattle.std.specs.List.{list_all, fold}
use Rattle.clap.specs.Words.{App, Rule, Shape, built, is_simple, with_rule, app_of, new_app, rule_of, with_subcommand}
use Rattle.clap.specs.Faults.{has_free_rules, is_free_app, is_simple_and_free}
use Rattle.clap.specs.Simple.{built_leaf, has_simple_rules, inherited, is_ready, is_ready_leaf, is_simple_leaf, new_shape}
use Rattle.command_words.specs.CommandLines.{form_line, form_rules, option_rule, place_rule, program, with_form, bare}
use Rattle.command_words.specs.Words.{Form, Text}
use Rattle.command_words.proofs.NameRules.{all_free, all_simple, filled_is, none_early, slots}
use Rattle.command_words.proofs.SingleWords.{rules, shape}
use Rattle.std.proofs.lemmas.Bool.{and_parts}
use Rattle.clap.specs.Walk.{is_empty as has_none}
use Rattle.clap.specs.Built.{AddsArg, AddsInTurn, AddsSubcommand}
use Rattle.clap.specs.declared.builder.arg.Arg.{Arg}
use Rattle.clap.specs.declared.builder.command.Command.{Command}
use Rattle.clap.specs.declared.builder.command.Command.TheViews.{out-Command}
use Rattle.decimal_rank.proofs.TruthValues.{second_of_both}

-- a command line with these rules and subcommands
abbrev line_of : Shape → List Rule → App
line_of top rules = record { top = record top { rules = rules }; subs = [] }

rules_line : (top : Shape) (done more : List Rule) → fold with_rule (line_of top done) more ≡ line_of top (done ++ more)
rules_line top done [] = ap (line_of top) (sym (append-nil done))
rules_line top done (rule ∷ more) = rules_line top (done ++ rule ∷ []) more ∙ ap (line_of top) (append_assoc done (rule ∷ []) more)

-- a form's command line before it is built
abbrev pub form_shape : Form → Shape
form_shape form = record (new_shape form.name) { rules = form_rules form }

pub line_is : (form : Form) → (form_line form).top ≡ form_shape form
line_is form = ap (λ (a : App). a.top) (rules_line (new_shape form.name) [] (form_rules form))

abbrev pub top_of : Bool → Shape
top_of leaf = record (new_shape (codes "program")) { no_binary_name = true; disable_help_flag = true; disable_help_subcommand = true; is_leaf = leaf }

abbrev pub is_empty : List Form → Bool
is_empty [] = true
is_empty (form ∷ forms) = false

forms_line : (done : List Shape) (forms : List Form)
    → fold with_form (record { top = top_of false; subs = done }) forms ≡ record { top = top_of false; subs = done ++ map form_shape forms }
forms_line done [] = ap (λ (ss : List Shape). let a : App = record { top = top_of false; subs = ss } in a) (sym (append-nil done))
forms_line done (form ∷ forms) = ap (λ (s : Shape). fold with_form (record { top = top_of false; subs = done ++ s ∷ [] }) forms) (line_is form)
    ∙ forms_line (done ++ form_shape form ∷ []) forms
    ∙ ap (λ (ss : List Shape). let a : App = record { top = top_of false; subs = ss } in a) (append_assoc done (form_shape form ∷ []) (map form_shape forms))

pub program_is : (forms : List Form) → program forms ≡ record { top = top_of (is_empty forms); subs = map form_shape forms }
program_is [] = refl
program_is (form ∷ forms) =
    ap (λ (s : Shape). fold with_form (record { top = top_of false; subs = s ∷ [] }) forms) (line_is form) ∙ forms_line (form_shape form ∷ []) forms

-- the top of the built command line
abbrev pub built_top : Bool → Shape
built_top leaf = record (top_of leaf) { is_built = true }

abbrev pub whole_line : List Form → App
whole_line forms = record { top = built_top (is_empty forms); subs = map shape forms }

leaf_is : (form : Form) → built_leaf (inherited (built_top false) (form_shape form)) ≡ shape form
leaf_is form = ap (λ (rs : List Rule). let s : Shape = record (shape form) { rules = rs } in s) (filled_is 1 form.positionals form.options)

leaves_are : (forms : List Form) → map built_leaf (map (inherited (built_top false)) (map form_shape forms)) ≡ map shape forms
leaves_are [] = refl
leaves_are (form ∷ forms) = ap₂ (λ (s : Shape) (ss : List Shape). s ∷ ss) (leaf_is form) (leaves_are forms)

pub built_is : (forms : List Form) → built (program forms) ≡ whole_line forms
built_is [] = refl
built_is (form ∷ forms) = ap built (program_is (form ∷ forms))
    ∙ ap (λ (ss : List Shape). let a : App = record { top = built_top false; subs = ss } in a) (leaves_are (form ∷ forms))

-- it is simple, and no argument has a rule on another

plain_options : (names : List Text) → list_all (λ (a : Rule). a.is_simple) (map option_rule names) ≡ true
plain_options [] = refl
plain_options (name ∷ names) = plain_options names

pub plain_rules : (places options : List Text) → list_all (λ (a : Rule). a.is_simple) (map place_rule places ++ map option_rule options) ≡ true
plain_rules [] options = plain_options options
plain_rules (name ∷ places) options = plain_rules places options

leaves_simple : (forms : List Form) → list_all is_simple_leaf (map form_shape forms) ≡ true
leaves_simple [] = refl
leaves_simple (form ∷ forms) = ap₂ ◌&&◌ (plain_rules form.positionals form.options) (leaves_simple forms)

ready_is : (form : Form) → is_ready_leaf (shape form) ≡ true
ready_is form = ap₂ (λ a b. a && not b) (all_simple (slots 1 form.positionals form.options)) (none_early _ (slots 1 form.positionals form.options))

leaves_ready : (forms : List Form) → list_all is_ready_leaf (map shape forms) ≡ true
leaves_ready [] = refl
leaves_ready (form ∷ forms) = ap₂ ◌&&◌ (ready_is form) (leaves_ready forms)

leaves_free : (forms : List Form) → list_all has_free_rules (map shape forms) ≡ true
leaves_free [] = refl
leaves_free (form ∷ forms) = ap₂ ◌&&◌ (all_free (slots 1 form.positionals form.options)) (leaves_free forms)

pub simple : (forms : List Form) → is_simple (program forms) ≡ true
simple forms = ap₂ (λ (a b : App). has_simple_rules a.top && list_all is_simple_leaf a.subs && (is_ready b.top && list_all is_ready_leaf b.subs))
    (program_is forms) (built_is forms)
    ∙ ap₂ ◌&&◌ (leaves_simple forms) (leaves_ready forms)

pub simple_and_free : (forms : List Form) → is_simple_and_free (program forms) ≡ true
simple_and_free forms = ap₂ ◌&&◌ (simple forms) (ap is_free_app (built_is forms) ∙ leaves_free forms)

-- a command line once arguments or subcommands were added to it in turn

off : (p : Bool) → not p ≡ true → p ≡ false
off true e = sym e
off false e = refl

-- the last of the tests of `is_simple_arg`
last_of_ten : (a b c d e f g h i j : Bool) → (a && (b && (c && (d && (e && (f && (g && (h && (i && j))))))))) ≡ true → j ≡ true
last_of_ten a b c d e f g h i j all =
    second_of_both i j (second_of_both h _ (second_of_both g _ (second_of_both f _ (second_of_both e _
    (second_of_both d _ (second_of_both c _ (second_of_both b _ (second_of_both a _ all))))))))

is_here : (arg : Arg) → (rule_of arg).is_simple ≡ true → arg.global ≡ false
is_here arg simple = off arg.global (last_of_ten (has_none arg.overrides.items) (has_none arg.default_vals_ifs.items) (has_none arg.groups.items)
    (not (is_some arg.val_delim)) (not (is_some arg.terminator)) (not arg.allow_hyphen_values) (not arg.allow_negative_numbers)
    (not arg.require_equals) (not arg.last) (not arg.global) simple)

with_arguments : (old new : Command) (arguments : List Arg) (rules : List Rule) → AddsInTurn AddsArg old arguments new
    → map rule_of arguments ≡ rules → list_all (λ (rule : Rule). rule.is_simple) rules ≡ true → app_of new ≡ fold with_rule (app_of old) rules
with_arguments old new [] rules same are simple = ap app_of (sym same) ∙ ap (fold with_rule (app_of old)) are
with_arguments old new (arg ∷ arguments) rules added are simple =
    let each = and_parts _ _ (ap (list_all (λ (rule : Rule). rule.is_simple)) are ∙ simple) in
    with_arguments added.0 new arguments (map rule_of arguments) added.2 refl each.1
    ∙ ap (λ line. fold with_rule line (map rule_of arguments)) (added.1.shape (is_here arg each.0))
    ∙ ap (fold with_rule (app_of old)) are

has_no_globals : (line : Command) → (app_of line).top.is_plain ≡ true → (out-Command line).has_globals ≡ false
has_no_globals line plain = off _ (and_parts _ _ (and_parts _ _ (and_parts _ _ plain).1).1).0

with_commands : (old new : Command) (lines : List Command) (forms : List Form) → AddsInTurn AddsSubcommand old lines new
    → map app_of lines ≡ map form_line forms → app_of new ≡ fold with_form (app_of old) forms
with_commands old new [] [] same are = ap app_of (sym same)
with_commands old new [] (form ∷ forms) same are = cc are
with_commands old new (line ∷ lines) [] added are = cc are
with_commands old new (line ∷ lines) (form ∷ forms) added are =
    let first : app_of line ≡ form_line form = cc are in
    let plain : (app_of line).top.is_plain ≡ true = ap (λ (a : App). a.top.is_plain) first ∙ ap (λ shape. shape.is_plain) (line_is form) in
    with_commands added.0 new lines forms added.2 (cc are)
    ∙ ap (λ start. fold with_form start forms)
    (added.1.shape (has_no_globals line plain) ∙ ap (λ (a : App). with_subcommand (app_of old) a.top) first)

pub form_line_is : (form : Form) (new line : Command) (arguments : List Arg) → app_of new ≡ new_app form.name → map rule_of arguments ≡ form_rules form
    → AddsInTurn AddsArg new arguments line → app_of line ≡ form_line form
form_line_is form new line arguments first are added =
    with_arguments new line arguments (form_rules form) added are (plain_rules form.positionals form.options)
    ∙ ap (λ start. fold with_rule start (form_rules form)) first

pub program_line_is : (forms : List Form) (new line : Command) (lines : List Command) → app_of new ≡ bare (new_app (codes "program"))
    → map app_of lines ≡ map form_line forms → AddsInTurn AddsSubcommand new lines line → app_of line ≡ program forms
program_line_is forms new line lines first are added = with_commands new line lines forms added are ∙ ap (λ start. fold with_form start forms) first
