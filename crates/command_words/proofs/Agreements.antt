-- All words behind a command's name: `clap` refuses them exactly where they don't give each name its value, and else has these values.
use Rattle.std.proofs.Common.{◌≡◌, ◌∙◌, ◌&&◌, ◌≤◌, ◌+◌, inl, inr, ℕ, false, not, cond, List, [], ◌∷◌, Option, Some, None, length, map, refl, sym, ap, ap₂, fold, subst}
use Rattle.std.specs.Prelude.{is_some, option_and_then}
use Rattle.std.specs.List.{list_any}
use Rattle.std.specs.Option.{option_map_or}
use Rattle.std.proofs.lemmas.Bool.{or_parts}
use Rattle.std.proofs.Math.Bool.{and-false}
use Rattle.clap.specs.Words.{Kinds, Row, Rule}
use Rattle.clap.specs.Faults.{check_fault, defaults_fault, long_fault, positional_fault, settle_fault, stray_fault, turn_fault, walk_fault}
use Rattle.clap.specs.Kinds.{or_else}
use Rattle.clap.specs.Lexer.{usize_max}
use Rattle.clap.specs.Takes.{is_given}
use Rattle.clap.specs.Walk.{Held, Walk, arg_by_index, arg_by_long, finished, idle, is_pending, nothing_held, settled, walk_from, walked}
use Rattle.clap.specs.declared.error.kind.ErrorKind.TheVariants.{MissingRequiredArgument}
use Rattle.command_words.specs.CommandLines.{is_clear, values_at}
use Rattle.command_words.specs.Words.{Form, Text, WordsReading, each_by, form_names, form_values, is_stray, next, option_of, read_on, value_named, values_given}
use Rattle.command_words.proofs.Flags.{other_plain}
use Rattle.command_words.proofs.Refusals.{first_bad, middle_bad}
use Rattle.command_words.proofs.NameRules.{Places, finished_is, missing_is, no_defaults, place_id, places, slot_names, slots}
use Rattle.command_words.proofs.WalkStates.{After, Doomed, Stand, asked, reading_at, ready, unsettled, waiting, walk_at, word_after}
use Rattle.command_words.proofs.SingleWords.{at, option_bad, option_turn, plain_turn, rules, shape, stray_bad}
use Rattle.command_words.proofs.SingleValues.{built_rule, each_missing, first_is, row}

-- what is refused behind the last word
abbrev pub end_fault : Form → Held → Kinds
end_fault form h = or_else (settle_fault (rules form) false h)
    (or_else (defaults_fault (settled (rules form) h).rows (rules form)) (check_fault (shape form) (finished (rules form) h) false))

-- what is refused of these words and behind them, from where a walk stands
abbrev pub fault_from : Form → Walk → List Text → Kinds
fault_from form w words = or_else (walk_fault (shape form) [] w words) (end_fault form (fold (walked (rules form) []) w words).held)

abbrev pub rows_from : Form → Walk → List Text → List Row
rows_from form w words = finished (rules form) (fold (walked (rules form) []) w words).held

-- where there are no values something is refused; else nothing is, and the rows have the values
abbrev pub Outcome : Form → Option (List Text) → Kinds → List Row → Type 0
Outcome form None fault rows = is_clear fault ≡ false
Outcome form (Some values) fault rows = (fault ≡ []) × (values_at rows (form_names form) ≡ Some values)

module _ (form : Form) where
  -- behind the last word, where what is pending can be settled
  module _ (values : List (Text × Text)) (h : Held) (settles : settle_fault (rules form) false h ≡ [])
      (same : (settled (rules form) h).rows ≡ map row values) where
    rows_are : finished (rules form) h ≡ map row values
    rows_are = finished_is (slots 1 form.positionals form.options) (settled (rules form) h).rows ∙ same

    lacks : list_any (λ (a : Rule). a.required && not (is_given a.id (finished (rules form) h))) (rules form)
        ≡ not (is_some (each_by (value_named values) (form_names form)))
    lacks = ap (λ (rs : List Row). list_any (λ (a : Rule). a.required && not (is_given a.id rs)) (rules form)) rows_are
        ∙ missing_is (slots 1 form.positionals form.options) (map row values)
        ∙ ap (list_any (λ name. not (is_given name (map row values)))) (slot_names 1 form.positionals form.options)
        ∙ each_missing values (form_names form)

    end_is : end_fault form h ≡ cond (not (is_some (each_by (value_named values) (form_names form)))) (MissingRequiredArgument ∷ []) []
    end_is = ap₂ or_else settles (ap₂ or_else (no_defaults (slots 1 form.positionals form.options) (settled (rules form) h).rows)
        (ap (λ t. cond t (MissingRequiredArgument ∷ []) []) lacks))

    values_are : values_at (finished (rules form) h) (form_names form) ≡ each_by (value_named values) (form_names form)
    values_are = ap (λ (rs : List Row). values_at rs (form_names form)) rows_are ∙ (λ i. each_by (λ name. first_is name values i) (form_names form))

    ended : Outcome form (each_by (value_named values) (form_names form)) (end_fault form h) (finished (rules form) h)
    unfolding is_clear
    ended = by (each_by (value_named values) (form_names form)) end_is values_are
      where
        by : (o : Option (List Text)) → end_fault form h ≡ cond (not (is_some o)) (MissingRequiredArgument ∷ []) []
            → values_at (finished (rules form) h) (form_names form) ≡ o
            → Outcome form o (end_fault form h) (finished (rules form) h)
        by None is found = ap is_clear is
        by (Some vs) is found = (is, found)

  -- a walk that is doomed is refused, whatever comes
  doomed_turn : (left : List Text) (h : Held) (k : ℕ) (word : Text) → Places (rules form) k left
      → is_clear (settle_fault (rules form) false h) ≡ false → is_stray word ≡ false
      → is_clear (turn_fault (shape form) [] (at h idle k) word) ≡ false
  doomed_turn left h k word place bad clean = by (option_of word) refl
    where
      next_word : (left : List Text) → Places (rules form) k left
          → is_clear (option_map_or (λ a. positional_fault (rules form) false a h) (arg_by_index (rules form) k) (stray_fault (shape form))) ≡ false
      next_word [] none =
          ap (λ (o : Option Rule). is_clear (option_map_or (λ a. positional_fault (rules form) false a h) o (stray_fault (shape form)))) none ∙ stray_bad form
      next_word (name ∷ left) (found, rule, more) =
          ap (λ (o : Option Rule). is_clear (option_map_or (λ a. positional_fault (rules form) false a h) o (stray_fault (shape form)))) found
          ∙ ap (λ t. is_clear (cond t [] (settle_fault (rules form) false h))) (and-false (is_pending (built_rule name None (Some k)) h.pending)) ∙ bad

      by : (o : Option (Text × Option Text)) → option_of word ≡ o → is_clear (turn_fault (shape form) [] (at h idle k) word) ≡ false
      by None is = ap is_clear (plain_turn form h idle k word (other_plain word clean is)) ∙ next_word left place
      by (Some o) is = ap is_clear (option_turn form h idle k word o is)
          ∙ first_bad (long_fault (rules form) false (arg_by_long (rules form) o.0) o.1 h) _ (option_bad form h o bad)

  doomed : (w : Walk) (words : List Text) → Doomed form w → list_any is_stray words ≡ false → is_clear (fault_from form w words) ≡ false
  unfolding walk_fault
  doomed w [] (left, h, k, is, place, bad) clean =
      ap (λ (v : Walk). is_clear (end_fault form v.held)) is ∙ first_bad (settle_fault (rules form) false h) _ bad
  doomed w (word ∷ words) (left, h, k, is, place, bad) clean =
      first_bad (or_else (turn_fault (shape form) [] w word) (walk_fault (shape form) [] (walked (rules form) [] w word) words)) _
      (first_bad (turn_fault (shape form) [] w word) _
      (ap (λ (v : Walk). is_clear (turn_fault (shape form) [] v word)) is
      ∙ doomed_turn left h k word place bad (or_parts (is_stray word) (list_any is_stray words) clean).0))

  -- one more word in front
  module _ (w : Walk) (word : Text) (words : List Text) (clean : list_any is_stray words ≡ false)
      (later : (stand : Stand form)
      → Outcome form (option_and_then (form_values form) (read_on form (reading_at form stand) words))
      (fault_from form (walk_at form stand) words) (rows_from form (walk_at form stand) words)) where
    first_word : (o : Option WordsReading) → After form (turn_fault (shape form) [] w word) (walked (rules form) [] w word) o
        → Outcome form (option_and_then (form_values form) (option_and_then (λ more. read_on form more words) o))
        (fault_from form w (word ∷ words)) (rows_from form w (word ∷ words))
    unfolding walk_fault
    first_word None (inl bad) = first_bad (or_else (turn_fault (shape form) [] w word) (walk_fault (shape form) [] (walked (rules form) [] w word) words)) _
        (first_bad (turn_fault (shape form) [] w word) _ bad)
    first_word None (inr lost) = middle_bad (turn_fault (shape form) [] w word) (walk_fault (shape form) [] (walked (rules form) [] w word) words)
        (end_fault form (fold (walked (rules form) []) (walked (rules form) [] w word) words).held) (doomed (walked (rules form) [] w word) words lost clean)
    first_word (Some reading) (none, (stand, same, is)) =
        subst (λ (t : Kinds). Outcome form (option_and_then (form_values form) (read_on form reading words))
        (or_else (or_else t (walk_fault (shape form) [] (walked (rules form) [] w word) words))
        (end_fault form (fold (walked (rules form) []) (walked (rules form) [] w word) words).held))
        (rows_from form (walked (rules form) [] w word) words)) (sym none)
        (subst (λ (v : Walk). Outcome form (option_and_then (form_values form) (read_on form reading words)) (fault_from form v words) (rows_from form v words))
        (sym is)
        (subst (λ (r : WordsReading). Outcome form (option_and_then (form_values form) (read_on form r words))
        (fault_from form (walk_at form stand) words) (rows_from form (walk_at form stand) words)) same (later stand)))

  agrees : (words : List Text) → list_any is_stray words ≡ false → (stand : Stand form)
      → Outcome form (option_and_then (form_values form) (read_on form (reading_at form stand) words))
      (fault_from form (walk_at form stand) words) (rows_from form (walk_at form stand) words)
  unfolding walk_fault read_on
  agrees [] clean (ready left values h k place settles same) = ended values h settles same
  agrees [] clean (asked left values name rows skip k place rule same) =
      first_bad (settle_fault (rules form) false (waiting name rows skip)) _ (unsettled form left values name rows skip k place rule same)
  agrees (word ∷ words) clean stand =
      let parts = or_parts (is_stray word) (list_any is_stray words) clean in
      first_word (walk_at form stand) word words parts.1 (λ s. agrees words parts.1 s)
      (next form (reading_at form stand) word) (word_after form stand word parts.0)

  -- the words behind the command's name
  pub given_is : (words : List Text) → list_any is_stray words ≡ false → 1 + length form.positionals ≤ usize_max
      → Outcome form (values_given form words) (fault_from form (walk_from nothing_held) words) (rows_from form (walk_from nothing_held) words)
  given_is words clean fits = agrees words clean (ready form.positionals [] nothing_held 1
      (places (rules form) 1 form.positionals form.options fits (λ k _. refl) (λ name among. place_id 1 form.positionals form.options name among)) refl refl)
