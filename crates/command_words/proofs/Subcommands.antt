-- All words of a call: what `clap` makes of them is what they give by the forms.
use Rattle.std.proofs.Common.{◌≡◌, ◌∙◌, ◌||◌, ◌<◌, Bool, true, false, cond, List, [], ◌∷◌, Option, Some, None, codes, drop, length, map, refl, sym, ap, ap₂, arith, fold, option_map, true≢false, ltb-true}
use Rattle.std.specs.Prelude.{IsTrue, bytes_eq, find, is_some, option_and_then}
use Rattle.std.specs.List.{list_all, list_any}
use Rattle.std.proofs.lemmas.Slice.Eq.{bytes_eq-Decides}
use Rattle.clap.specs.Words.{App, Kinds, Shape, fault_of, subcommand_of}
use Rattle.clap.specs.Faults.{built_fault, check_fault, defaults_fault, entered_fault, flag_word_fault, level_fault, other_fault, settle_fault, step_fault, stray_fault, turn_fault, walk_fault}
use Rattle.clap.specs.Kinds.{or_else}
use Rattle.clap.specs.Lexer.{long_of}
use Rattle.clap.specs.Simple.{entered, label_of, names_of as labels_of, rows_at}
use Rattle.clap.specs.Walk.{Names, Walk, after_step, answers_to, finished, idle, long_or_other, nothing_held, settled, short_or_plain, stop_after, subcommand_met, subcommand_or_other, trailing, value as value_step, walk, walk_from, walked}
use Rattle.clap.proofs.FaultLemmas.{stopped_fault}
use Rattle.clap.proofs.WalkLemmas.{both, walk_stopped}
use Rattle.clap.specs.declared.error.kind.ErrorKind.TheVariants.{DisplayHelp, InvalidSubcommand}
use Rattle.std.specs.Option.{option_map_or}
use Rattle.std.proofs.lemmas.Bool.{or_parts}
use Rattle.std.proofs.Math.Bool.{and-false}
use Rattle.command_words.specs.CommandLines.{found_by, is_clear, program, values_at}
use Rattle.command_words.specs.Words.{Form, Text, begins_with_minus, command_in, form_named, form_names, given_by, is_form, is_stray, option_of, values_given, values_with_name}
use Rattle.command_words.proofs.Agreements.{Outcome, fault_from, given_is, rows_from}
use Rattle.command_words.proofs.Flags.{no_option, no_short, option_dashes, other_plain, plain_dashes}
use Rattle.command_words.proofs.Programs.{built_is, built_top, is_empty, program_is, whole_line}
use Rattle.command_words.proofs.Refusals.{clear_none, first_bad, second_bad}
use Rattle.command_words.proofs.SingleWords.{shape}

-- what clap makes of words is what they give, where it takes them; and where it refuses them they give nothing
abbrev Meets : Option (Text × List Text) → Kinds → Option (Text × List Text) → Type 0
Meets asked fault found = (is_clear fault ≡ true → found ≡ asked) × (is_clear fault ≡ false → None ≡ asked)

or_none : (a : Kinds) → or_else a [] ≡ a
or_none [] = refl
or_none (x ∷ a) = refl

-- the command of a name

name_is : (forms : List Form) (word : Text) (form : Form) → form_named word forms ≡ Some form → form.name ≡ word
name_is [] word form none = absurd (true≢false (sym (ap (λ (o : Option Form). is_some o) none)))
name_is (f ∷ forms) word form found = by (bytes_eq f.name word) refl found (λ later. name_is forms word form later)
  where
    by : (t : Bool) → bytes_eq f.name word ≡ t → cond t (Some f) (form_named word forms) ≡ Some form
        → (form_named word forms ≡ Some form → form.name ≡ word) → form.name ≡ word
    by true is here later =
        let same : f ≡ form = cc here in
        sym (ap (λ (g : Form). g.name) same) ∙ (bytes_eq-Decides f.name word).0 is
    by false is here later = later here

label_found : (forms : List Form) (word : Text)
    → option_map (λ (s : Text × List Text). s.0) (find (answers_to word) (map label_of (map shape forms)))
    ≡ option_map (λ (f : Form). f.name) (form_named word forms)
label_found [] word = refl
label_found (f ∷ forms) word = by (bytes_eq f.name word) (label_found forms word)
  where
    by : (t : Bool) → option_map (λ (s : Text × List Text). s.0) (find (answers_to word) (map label_of (map shape forms)))
        ≡ option_map (λ (f : Form). f.name) (form_named word forms)
        → option_map (λ (s : Text × List Text). s.0) (cond (t || false) (Some (label_of (shape f))) (find (answers_to word) (map label_of (map shape forms))))
        ≡ option_map (λ (f : Form). f.name) (cond t (Some f) (form_named word forms))
    by true later = refl
    by false later = later

shape_found : (forms : List Form) (word : Text) → find (λ s. answers_to word (label_of s)) (map shape forms) ≡ option_map shape (form_named word forms)
shape_found [] word = refl
shape_found (f ∷ forms) word = by (bytes_eq f.name word) (shape_found forms word)
  where
    by : (t : Bool) → find (λ s. answers_to word (label_of s)) (map shape forms) ≡ option_map shape (form_named word forms)
        → cond (t || false) (Some (shape f)) (find (λ s. answers_to word (label_of s)) (map shape forms))
        ≡ option_map shape (cond t (Some f) (form_named word forms))
    by true later = refl
    by false later = later

-- the top of the command line

abbrev top : List Form → Shape
top forms = built_top (is_empty forms)

abbrev labels : List Form → Names
labels forms = map label_of (map shape forms)

module _ (forms : List Form) (word : Text) where
  -- the first word is a command's name
  module _ (rest : List Text) (form : Form) (is : form_named word forms ≡ Some form) where
    met : subcommand_met (labels forms) idle word ≡ Some form.name
    met = label_found forms word ∙ ap (option_map (λ (f : Form). f.name)) is

    first_walk : walked [] (labels forms) (walk_from nothing_held) word ≡ record (walk_from nothing_held) { stopped = Some (form.name, []) }
    unfolding walked
    first_walk = ap (λ (m : Option Text). after_step [] word (walk_from nothing_held) (subcommand_or_other [] m idle 1 word nothing_held).0
        (subcommand_or_other [] m idle 1 word nothing_held).1) met

    all_walk : walk [] (labels forms) nothing_held (word ∷ rest) ≡ record (walk_from nothing_held) { stopped = Some (form.name, rest) }
    all_walk = ap (λ (w : Walk). fold (walked [] (labels forms)) w rest) first_walk
        ∙ sym (walk_stopped [] (labels forms) (walk_from nothing_held) form.name [] rest)

    first_turn : turn_fault (top forms) (labels forms) (walk_from nothing_held) word ≡ []
    first_turn = ap (λ (m : Option Text). or_else (other_fault (top forms) m word nothing_held)
        (step_fault (top forms) 1 (subcommand_or_other [] m idle 1 word nothing_held).0 (subcommand_or_other [] m idle 1 word nothing_held).1)) met
        ∙ ap (λ t. or_else (cond t (DisplayHelp ∷ InvalidSubcommand ∷ []) []) []) (and-false (bytes_eq form.name (codes "help")))

    walk_passes : walk_fault (top forms) (labels forms) (walk_from nothing_held) (word ∷ rest) ≡ []
    unfolding walk_fault
    walk_passes = ap₂ or_else first_turn
        (ap (λ (w : Walk). walk_fault (top forms) (labels forms) w rest) first_walk
        ∙ stopped_fault (top forms) (labels forms) (walk_from nothing_held) (form.name, []) rest)

    entering : find (λ s. answers_to form.name (label_of s)) (map shape forms) ≡ Some (shape form)
    entering = ap (λ (n : Text). find (λ s. answers_to n (label_of s)) (map shape forms)) (name_is forms word form is)
        ∙ shape_found forms word ∙ ap (option_map shape) is

    fault_is : fault_of (program forms) (word ∷ rest) ≡ fault_from form (walk_from nothing_held) rest
    unfolding defaults_fault
    fault_is = ap₂ (λ (b a : App). built_fault b nothing_held (cond a.top.no_binary_name (word ∷ rest) (drop 1 (word ∷ rest))))
        (built_is forms) (program_is forms)
        ∙ ap₂ (λ (kinds : Kinds) (w : Walk). or_else kinds (or_else (entered_fault (whole_line forms) w.stopped) (or_else (settle_fault [] false w.held)
        (or_else (defaults_fault (settled [] w.held).rows [])
        (check_fault (top forms) (finished [] w.held) (is_some (entered (whole_line forms) w.stopped))))))) walk_passes all_walk
        ∙ ap (λ (found : Option Shape). or_else (option_map_or (λ (s : Shape). level_fault s [] nothing_held rest false []) found [])
        (or_else [] (or_else (defaults_fault [] []) (check_fault (top forms) [] (is_some (option_map (λ (s : Shape). rows_at s rest) found)))))) entering
        ∙ or_none (fault_from form (walk_from nothing_held) rest)

    rows_are : subcommand_of (program forms) (word ∷ rest) ≡ Some (form.name, rows_from form (walk_from nothing_held) rest)
    rows_are = ap₂ (λ (b a : App). entered b (stop_after b.top.rules (labels_of b) (cond a.top.no_binary_name (word ∷ rest) (drop 1 (word ∷ rest)))))
        (built_is forms) (program_is forms)
        ∙ ap (λ (w : Walk). entered (whole_line forms) w.stopped) all_walk
        ∙ ap (option_map (λ (s : Shape). rows_at s rest)) entering

    found_is : found_by forms (subcommand_of (program forms) (word ∷ rest))
        ≡ values_with_name form (values_at (rows_from form (walk_from nothing_held) rest) (form_names form))
    found_is = ap (found_by forms) rows_are
        ∙ ap (λ (o : Option Form). option_and_then (λ f. values_with_name f (values_at (rows_from form (walk_from nothing_held) rest) (form_names f))) o)
        (ap (λ (n : Text). form_named n forms) (name_is forms word form is) ∙ is)

    named_meets : Outcome form (values_given form rest) (fault_from form (walk_from nothing_held) rest) (rows_from form (walk_from nothing_held) rest)
        → Meets (values_with_name form (values_given form rest)) (fault_of (program forms) (word ∷ rest))
        (found_by forms (subcommand_of (program forms) (word ∷ rest)))
    named_meets outcome = by (values_given form rest) outcome
      where
        by : (o : Option (List Text)) → Outcome form o (fault_from form (walk_from nothing_held) rest) (rows_from form (walk_from nothing_held) rest)
            → Meets (values_with_name form o) (fault_of (program forms) (word ∷ rest)) (found_by forms (subcommand_of (program forms) (word ∷ rest)))
        by None bad = (λ clear. absurd (true≢false (sym clear ∙ ap is_clear fault_is ∙ bad)), λ _. refl)
        by (Some values) (none, values_are) =
            (λ _. found_is ∙ ap (values_with_name form) values_are, λ bad. absurd (true≢false (sym (clear_none _ (fault_is ∙ none)) ∙ bad)))

  -- the first word is no command's name
  module _ (rest : List Text) (none : form_named word forms ≡ None) (clean : is_stray word ≡ false) where
    not_met : subcommand_met (labels forms) idle word ≡ None
    not_met = label_found forms word ∙ ap (option_map (λ (f : Form). f.name)) none

    turn_as : turn_fault (top forms) (labels forms) (walk_from nothing_held) word
        ≡ or_else (other_fault (top forms) None word nothing_held)
        (step_fault (top forms) 1 (subcommand_or_other [] None idle 1 word nothing_held).0 (subcommand_or_other [] None idle 1 word nothing_held).1)
    turn_as = ap (λ (m : Option Text). or_else (other_fault (top forms) m word nothing_held)
        (step_fault (top forms) 1 (subcommand_or_other [] m idle 1 word nothing_held).0 (subcommand_or_other [] m idle 1 word nothing_held).1)) not_met

    option_refused : (o : Text × Option Text) → option_of word ≡ Some o → is_clear (other_fault (top forms) None word nothing_held) ≡ false
    unfolding is_clear
    option_refused o is = ap (λ t. is_clear (cond t [] (flag_word_fault [] false (long_of word) word nothing_held))) (option_dashes word o is)
        ∙ ap (λ (l : Option (Text × Option Text)). is_clear (flag_word_fault [] false l word nothing_held)) is

    stray_refused : (leaf : Bool) → is_clear (stray_fault (built_top leaf)) ≡ false
    unfolding is_clear
    stray_refused true = refl
    stray_refused false = refl

    plain_as : begins_with_minus word ≡ false → subcommand_or_other [] None idle 1 word nothing_held ≡ (nothing_held, value_step)
    plain_as plain = ap (λ t. cond t (nothing_held, trailing 1) (long_or_other [] idle word (long_of word) nothing_held)) (plain_dashes word plain)
        ∙ ap (λ l. long_or_other [] idle word l nothing_held) (no_option word plain)
        ∙ ap (λ s. short_or_plain [] idle word s nothing_held) (no_short word plain)

    word_refused : is_clear (turn_fault (top forms) (labels forms) (walk_from nothing_held) word) ≡ false
    word_refused = by (option_of word) refl
      where
        by : (o : Option (Text × Option Text)) → option_of word ≡ o → is_clear (turn_fault (top forms) (labels forms) (walk_from nothing_held) word) ≡ false
        by (Some o) is = ap is_clear turn_as ∙ first_bad (other_fault (top forms) None word nothing_held) _ (option_refused o is)
        by None is = ap is_clear turn_as
            ∙ second_bad (other_fault (top forms) None word nothing_held) _
            (ap (λ m. is_clear (step_fault (top forms) 1 m.0 m.1)) (plain_as (other_plain word clean is)) ∙ stray_refused (is_empty forms))

    unnamed_refused : is_clear (fault_of (program forms) (word ∷ rest)) ≡ false
    unfolding walk_fault
    unnamed_refused =
        ap₂ (λ (b a : App). is_clear (built_fault b nothing_held (cond a.top.no_binary_name (word ∷ rest) (drop 1 (word ∷ rest)))))
        (built_is forms) (program_is forms)
        ∙ first_bad (walk_fault (top forms) (labels forms) (walk_from nothing_held) (word ∷ rest)) _
        (first_bad (turn_fault (top forms) (labels forms) (walk_from nothing_held) word) _ word_refused)

few_places : (forms : List Form) (word : Text) (form : Form) → list_all is_form forms ≡ true → form_named word forms ≡ Some form → is_form form ≡ true
few_places [] word form few none = absurd (true≢false (sym (ap (λ (o : Option Form). is_some o) none)))
few_places (f ∷ forms) word form few found =
    by (bytes_eq f.name word) found (both (is_form f) (list_all is_form forms) few) (λ fits later. few_places forms word form fits later)
  where
    by : (t : Bool) → cond t (Some f) (form_named word forms) ≡ Some form → (is_form f ≡ true) × (list_all is_form forms ≡ true)
        → (list_all is_form forms ≡ true → form_named word forms ≡ Some form → is_form form ≡ true) → is_form form ≡ true
    by true here parts later =
        let same : f ≡ form = cc here in
        sym (ap (λ (g : Form). is_form g) same) ∙ parts.0
    by false here parts later = later parts.1 here

no_words : (forms : List Form) → Meets None (fault_of (program forms) []) (found_by forms (subcommand_of (program forms) []))
unfolding walk_fault defaults_fault is_clear
no_words forms = (λ _. ap (found_by forms) rows, λ bad. refl)
  where
    rows : subcommand_of (program forms) [] ≡ None
    rows = ap₂ (λ (b a : App). entered b (stop_after b.top.rules (labels_of b) (cond a.top.no_binary_name [] (drop 1 [])))) (built_is forms) (program_is forms)

meets : (forms : List Form) (words : List Text) → list_all is_form forms ≡ true → list_any is_stray words ≡ false
    → Meets (command_in forms words) (fault_of (program forms) words) (found_by forms (subcommand_of (program forms) words))
meets forms [] few clean = no_words forms
meets forms (word ∷ rest) few clean = by (form_named word forms) refl
  where
    by : (o : Option Form) → form_named word forms ≡ o
        → Meets (option_and_then (λ form. values_with_name form (values_given form rest)) o) (fault_of (program forms) (word ∷ rest))
        (found_by forms (subcommand_of (program forms) (word ∷ rest)))
    by None none =
        let bad = unnamed_refused forms word rest none (or_parts (is_stray word) (list_any is_stray rest) clean).0 in
        (λ clear. absurd (true≢false (sym clear ∙ bad)), λ _. refl)
    by (Some form) is =
        let fits : length form.positionals < 1000 = ltb-true _ _ (few_places forms word form few is) in
        named_meets forms word rest form is (given_is form rest (or_parts (is_stray word) (list_any is_stray rest) clean).1 (omega arith))

-- the words that `clap` takes give what it finds
pub taken : (forms : List Form) (words : List Text) → IsTrue (list_all is_form forms)
    → list_any is_stray words ≡ false → is_clear (fault_of (program forms) words) ≡ true
    → found_by forms (subcommand_of (program forms) words) ≡ given_by forms words
unfolding given_by
taken forms words few clean clear = (meets forms words few clean).0 clear ∙ sym (ap (λ t. cond t None (command_in forms words)) clean)

-- the words that it refuses give nothing
pub not_taken : (forms : List Form) (words : List Text) → IsTrue (list_all is_form forms)
    → list_any is_stray words ≡ false → is_clear (fault_of (program forms) words) ≡ false
    → None ≡ given_by forms words
unfolding given_by
not_taken forms words few clean bad = (meets forms words few clean).1 bad ∙ sym (ap (λ t. cond t None (command_in forms words)) clean)

-- words of which one is stray give nothing
pub with_stray : (forms : List Form) (words : List Text) → list_any is_stray words ≡ true → None ≡ given_by forms words
unfolding given_by
with_stray forms words stray = sym (ap (λ t. cond t None (command_in forms words)) stray)
