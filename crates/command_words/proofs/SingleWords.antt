-- What `clap` makes of one word behind a command's name.
use Rattle.std.proofs.Common.{◌≡◌, ◌∙◌, ℕ, Bool, true, false, cond, List, [], ◌∷◌, Option, Some, None, map, refl, ap, ap₂}
use Rattle.std.specs.List.{list_any}
use Rattle.std.specs.Option.{option_map_or}
use Rattle.clap.specs.Words.{Rule, Shape}
use Rattle.clap.specs.Simple.{new_shape}
use Rattle.clap.specs.Faults.{bundle_fault, flag_word_fault, long_fault, other_fault, settle_fault, step_fault, stray_fault, turn_fault, use_fault, word_fault}
use Rattle.clap.specs.Kinds.{or_else}
use Rattle.clap.specs.Lexer.{long_of}
use Rattle.clap.specs.Walk.{Held, Waiting, Walk, after_step, arg_by_long, idle, long_or_other, long_word, option, plain_word, positional, settled, short_or_plain, subcommand_met, subcommand_or_other, trailing, walked, word_met}
use Rattle.command_words.specs.CommandLines.{is_clear}
use Rattle.command_words.specs.Words.{Form, Text, begins_with_minus, has_option_name, option_of}
use Rattle.command_words.proofs.Flags.{no_option, no_short, option_dashes, plain_dashes}
use Rattle.command_words.proofs.Refusals.{first_bad}
use Rattle.command_words.proofs.NameRules.{by_long, slot_rule, slots}
use Rattle.command_words.proofs.SingleValues.{built_rule}

abbrev pub rules : Form → List Rule
rules form = map slot_rule (slots 1 form.positionals form.options)

-- a form's command line once it is built
abbrev pub shape : Form → Shape
shape form = record (new_shape form.name) {
  rules = rules form;
  no_binary_name = true;
  disable_help_flag = true;
  disable_help_subcommand = true;
  is_built = true;
}

-- where a walk stands between two words
abbrev pub at : Held → Waiting → ℕ → Walk
at h x k = record { held = h; waiting = x; position = k; is_trailing = false; stopped = None }

no_subcommand : (x : Waiting) (word : Text) → subcommand_met [] x word ≡ None
no_subcommand idle word = refl
no_subcommand (option id) word = refl
no_subcommand positional word = refl

module _ (form : Form) (h : Held) (x : Waiting) (k : ℕ) (word : Text) where
  option_met : (o : Text × Option Text) → option_of word ≡ Some o → word_met (rules form) [] false x k word h ≡ long_word (rules form) x word o.0 o.1 h
  option_met o is = ap (λ m. subcommand_or_other (rules form) m x k word h) (no_subcommand x word)
      ∙ ap (λ t. cond t (h, trailing k) (long_or_other (rules form) x word (long_of word) h)) (option_dashes word o is)
      ∙ ap (λ l. long_or_other (rules form) x word l h) is

  option_fault : (o : Text × Option Text) → option_of word ≡ Some o
      → word_fault (shape form) [] false x word h ≡ long_fault (rules form) false (arg_by_long (rules form) o.0) o.1 h
  option_fault o is = ap (λ m. other_fault (shape form) m word h) (no_subcommand x word)
      ∙ ap (λ t. cond t [] (flag_word_fault (rules form) false (long_of word) word h)) (option_dashes word o is)
      ∙ ap (λ l. flag_word_fault (rules form) false l word h) is

  plain_met : begins_with_minus word ≡ false → word_met (rules form) [] false x k word h ≡ plain_word (rules form) x word h
  plain_met plain = ap (λ m. subcommand_or_other (rules form) m x k word h) (no_subcommand x word)
      ∙ ap (λ t. cond t (h, trailing k) (long_or_other (rules form) x word (long_of word) h)) (plain_dashes word plain)
      ∙ ap (λ l. long_or_other (rules form) x word l h) (no_option word plain)
      ∙ ap (λ s. short_or_plain (rules form) x word s h) (no_short word plain)

  plain_fault : begins_with_minus word ≡ false → word_fault (shape form) [] false x word h ≡ []
  plain_fault plain = ap (λ m. other_fault (shape form) m word h) (no_subcommand x word)
      ∙ ap (λ t. cond t [] (flag_word_fault (rules form) false (long_of word) word h)) (plain_dashes word plain)
      ∙ ap (λ l. flag_word_fault (rules form) false l word h) (no_option word plain)
      ∙ ap (λ s. option_map_or (λ flags. bundle_fault (rules form) false flags h) s []) (no_short word plain)

  -- an option's turn
  pub option_turn : (o : Text × Option Text) → option_of word ≡ Some o
      → turn_fault (shape form) [] (at h x k) word
      ≡ or_else (long_fault (rules form) false (arg_by_long (rules form) o.0) o.1 h)
      (step_fault (shape form) k (long_word (rules form) x word o.0 o.1 h).0 (long_word (rules form) x word o.0 o.1 h).1)
  option_turn o is = ap₂ or_else (option_fault o is) (ap (λ m. step_fault (shape form) k m.0 m.1) (option_met o is))

  pub option_walked : (o : Text × Option Text) → option_of word ≡ Some o
      → walked (rules form) [] (at h x k) word
      ≡ after_step (rules form) word (at h x k) (long_word (rules form) x word o.0 o.1 h).0 (long_word (rules form) x word o.0 o.1 h).1
  unfolding walked
  option_walked o is = ap (λ m. after_step (rules form) word (at h x k) m.0 m.1) (option_met o is)

  -- the turn of a word that doesn't begin with a minus
  pub plain_turn : begins_with_minus word ≡ false
      → turn_fault (shape form) [] (at h x k) word ≡ step_fault (shape form) k (plain_word (rules form) x word h).0 (plain_word (rules form) x word h).1
  plain_turn plain = ap₂ or_else (plain_fault plain) (ap (λ m. step_fault (shape form) k m.0 m.1) (plain_met plain))

  pub plain_walked : begins_with_minus word ≡ false
      → walked (rules form) [] (at h x k) word
      ≡ after_step (rules form) word (at h x k) (plain_word (rules form) x word h).0 (plain_word (rules form) x word h).1
  unfolding walked
  plain_walked plain = ap (λ m. after_step (rules form) word (at h x k) m.0 m.1) (plain_met plain)

-- an option's rule, by whether it is one of the form's
pub option_rule_is : (form : Form) (name : Text) (t : Bool) → list_any (has_option_name name) form.options ≡ t
    → arg_by_long (rules form) name ≡ cond t (Some (built_rule name (Some name) None)) None
option_rule_is form name t is =
    by_long 1 form.positionals form.options name ∙ ap (λ b. cond b (Some (built_rule name (Some name) None)) None) is

-- an option that the form hasn't, and a positional word too many, are refused

pub unknown_bad : (form : Form) (v : Option Text) (h : Held) → is_clear (long_fault (rules form) false None v h) ≡ false
unfolding is_clear
unknown_bad form v h = refl

pub stray_bad : (form : Form) → is_clear (stray_fault (shape form)) ≡ false
unfolding is_clear
stray_bad form = refl

-- behind what can't be settled each option is refused
pub option_bad : (form : Form) (h : Held) (o : Text × Option Text) → is_clear (settle_fault (rules form) false h) ≡ false
    → is_clear (long_fault (rules form) false (arg_by_long (rules form) o.0) o.1 h) ≡ false
option_bad form h o bad = by (list_any (has_option_name o.0) form.options) o.1 refl
  where
    known : (v : Option Text) → is_clear (long_fault (rules form) false (Some (built_rule o.0 (Some o.0) None)) v h) ≡ false
    known (Some value) =
        first_bad (settle_fault (rules form) false h) (use_fault false (built_rule o.0 (Some o.0) None) (value ∷ []) (settled (rules form) h).rows) bad
    known None = bad

    by : (t : Bool) (v : Option Text) → list_any (has_option_name o.0) form.options ≡ t
        → is_clear (long_fault (rules form) false (arg_by_long (rules form) o.0) v h) ≡ false
    by true v is = ap (λ (found : Option Rule). is_clear (long_fault (rules form) false found v h)) (option_rule_is form o.0 true is) ∙ known v
    by false v is = ap (λ (found : Option Rule). is_clear (long_fault (rules form) false found v h)) (option_rule_is form o.0 false is) ∙ unknown_bad form v h
