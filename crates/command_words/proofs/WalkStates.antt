-- Word by word, a walk of `clap` stands where the reading of the words does.
use Rattle.std.proofs.Common.{◌≡◌, ◌∙◌, ◌+◌, ◌⊎◌, inl, inr, ℕ, Bool, true, false, cond, List, [], ◌∷◌, ◌++◌, Option, Some, None, map, min, refl, sym, ap, ap₂}
use Rattle.std.proofs.lemmas.List.{map-append}
use Rattle.std.specs.Prelude.{nat_lt}
use Rattle.std.specs.List.{list_any}
use Rattle.std.specs.Option.{option_map_or}
use Rattle.clap.specs.Words.{Kinds, Row, Rule}
use Rattle.clap.specs.Faults.{long_fault, positional_fault, settle_fault, step_fault, stray_fault, turn_fault, use_fault}
use Rattle.clap.specs.Kinds.{or_else}
use Rattle.clap.specs.Lexer.{usize_max}
use Rattle.clap.specs.Walk.{Held, Walk, after_flag, after_step, arg_by_id, arg_by_long, has_row, idle, is_pending, long_met, next as passed_on, option as waits_for, option_word, plain_word, pushed, reacted, settled, to_positional, used, used_by_id, walked}
use Rattle.command_words.specs.CommandLines.{is_clear}
use Rattle.command_words.specs.Words.{Form, Text, WordsReading, at_positional, at_word, begins_with_minus, has, has_option_name, is_stray, next, next_by, option_of, value_at, with_value}
use Rattle.command_words.proofs.Flags.{minus_option, other_plain}
use Rattle.command_words.proofs.Refusals.{first_bad, second_bad}
use Rattle.command_words.proofs.NameRules.{IsRule, Places, option_id}
use Rattle.command_words.proofs.SingleWords.{at, option_bad, option_rule_is, option_turn, option_walked, plain_turn, plain_walked, rules, shape, stray_bad, unknown_bad}
use Rattle.command_words.proofs.SingleValues.{built_rule, new_use, no_value, row, row_has, second_use, used_new}
use Rattle.std.proofs.lemmas.Slice.Eq.{bytes_eq-Decides}
use Rattle.std.proofs.Math.Bool.{and-false}

-- where both stand
pub data Stand (form : Form) : Type 0 where
  -- no option waits; what is pending can be settled, and gives the values
  ready : (left : List Text) (values : List (Text × Text)) (h : Held) (k : ℕ) → Places (rules form) k left
      → settle_fault (rules form) false h ≡ [] → (settled (rules form) h).rows ≡ map row values → Stand form
  -- the option waits for its value
  asked : (left : List Text) (values : List (Text × Text)) (name : Text) (rows : List Row) (skip k : ℕ) → Places (rules form) k left
      → IsRule (arg_by_id (rules form) name) name → rows ≡ map row values → Stand form

abbrev pub waiting : Text → List Row → ℕ → Held
waiting name rows skip = record { rows = rows; pending = Some (name, []); skip = skip }

abbrev pub holding : Text → Text → List Row → ℕ → Held
holding name value rows skip = record { rows = rows; pending = Some (name, value ∷ []); skip = skip }

abbrev pub reading_at : (form : Form) → Stand form → WordsReading
reading_at form (ready left values h k places settles rows) = record { left = left; waits = None; values = values }
reading_at form (asked left values name rows skip k places rule same) = record { left = left; waits = Some name; values = values }

abbrev pub walk_at : (form : Form) → Stand form → Walk
walk_at form (ready left values h k places settles rows) = at h idle k
walk_at form (asked left values name rows skip k places rule same) = at (waiting name rows skip) (waits_for name) k

-- what is pending can't be settled
abbrev pub Doomed : Form → Walk → Type 0
Doomed form w = (left : List Text) × (h : Held) × (k : ℕ) × (w ≡ at h idle k) × Places (rules form) k left
    × (is_clear (settle_fault (rules form) false h) ≡ false)

-- the word was refused, or dooms the walk, where the reading ends; or the walk stands where the reading does
abbrev pub After : Form → Kinds → Walk → Option WordsReading → Type 0
After form turn w None = (is_clear turn ≡ false) ⊎ Doomed form w
After form turn w (Some reading) = (turn ≡ []) × ((stand : Stand form) × (reading_at form stand ≡ reading) × (w ≡ walk_at form stand))

module _ (form : Form) (left : List Text) (values : List (Text × Text)) (name value : Text) (k : ℕ) (places : Places (rules form) k left) where
  -- the name gets its value, which is pending
  module _ (rows : List Row) (skip : ℕ) (rule : IsRule (arg_by_id (rules form) name) name) (same : rows ≡ map row values) where
    settles_as : settle_fault (rules form) false (holding name value rows skip) ≡ use_fault false (built_rule name rule.0 rule.1) (value ∷ []) rows
    settles_as = ap (λ (o : Option Rule). option_map_or (λ a. use_fault false a (value ∷ []) rows) o []) rule.2

    rows_as : (settled (rules form) (holding name value rows skip)).rows ≡ used (built_rule name rule.0 rule.1) (value ∷ []) rows
    rows_as = ap (λ (o : Option Rule). used_by_id o (value ∷ []) rows) rule.2

    has_is : has_row name rows ≡ has name values
    has_is = ap (has_row name) same ∙ row_has name values

    pub valued : (turn : Kinds) (w : Walk) → turn ≡ [] → w ≡ at (holding name value rows skip) idle k → After form turn w (with_value name value left values)
    valued turn w none is = by (has name values) refl
      where
        by : (t : Bool) → has name values ≡ t
            → After form turn w (cond t None (Some (record { left = left; waits = None; values = values ++ (name, value) ∷ [] })))
        by true again = inr
            (left, holding name value rows skip, k, is, places, ap is_clear settles_as ∙ second_use name rule.0 rule.1 value rows (has_is ∙ again))
        by false fresh = (
          none,
          (
            ready left (values ++ (name, value) ∷ []) (holding name value rows skip) k places
                (settles_as ∙ new_use name rule.0 rule.1 value rows (has_is ∙ fresh))
                (rows_as ∙ used_new name rule.0 rule.1 value rows (has_is ∙ fresh) ∙ ap (λ (rs : List Row). rs ++ row (name, value) ∷ []) same
                ∙ sym (map-append row values ((name, value) ∷ []))),
            refl,
            is,
          ),
        )

  -- the option has its value in its word
  module _ (h : Held) (settles : settle_fault (rules form) false h ≡ []) (same : (settled (rules form) h).rows ≡ map row values) where
    here : has_row name (settled (rules form) h).rows ≡ has name values
    here = ap (has_row name) same ∙ row_has name values

    pub attached : (turn : Kinds) (w : Walk)
        → turn ≡ or_else
        (or_else (settle_fault (rules form) false h) (use_fault false (built_rule name (Some name) None) (value ∷ []) (settled (rules form) h).rows)) []
        → w ≡ at (reacted (rules form) (built_rule name (Some name) None) (value ∷ []) h) idle k → After form turn w (with_value name value left values)
    attached turn w turn_is is = by (has name values) refl
      where
        by : (t : Bool) → has name values ≡ t
            → After form turn w (cond t None (Some (record { left = left; waits = None; values = values ++ (name, value) ∷ [] })))
        by true again = inl (ap is_clear turn_is
            ∙ first_bad (or_else (settle_fault (rules form) false h)
            (use_fault false (built_rule name (Some name) None) (value ∷ []) (settled (rules form) h).rows)) []
            (second_bad (settle_fault (rules form) false h) (use_fault false (built_rule name (Some name) None) (value ∷ []) (settled (rules form) h).rows)
            (second_use name (Some name) None value (settled (rules form) h).rows (here ∙ again))))
        by false fresh = (
          turn_is ∙ ap₂ (λ a b. or_else (or_else a b) []) settles (new_use name (Some name) None value (settled (rules form) h).rows (here ∙ fresh)),
          (
            ready left (values ++ (name, value) ∷ []) (reacted (rules form) (built_rule name (Some name) None) (value ∷ []) h) k places refl
                (used_new name (Some name) None value (settled (rules form) h).rows (here ∙ fresh) ∙ ap (λ (rs : List Row). rs ++ row (name, value) ∷ []) same
                ∙ sym (map-append row values ((name, value) ∷ []))),
            refl,
            is,
          ),
        )

-- one word, where no option waits
module _ (form : Form) (values : List (Text × Text)) (h : Held) (k : ℕ) (word : Text) (settles : settle_fault (rules form) false h ≡ [])
    (same : (settled (rules form) h).rows ≡ map row values) where
  positional_word : (left : List Text) → Places (rules form) k left → begins_with_minus word ≡ false
      → After form (turn_fault (shape form) [] (at h idle k) word) (walked (rules form) [] (at h idle k) word) (at_positional word left values)
  positional_word [] none plain = inl (ap is_clear (plain_turn form h idle k word plain)
      ∙ ap (λ (o : Option Rule). is_clear (option_map_or (λ a. positional_fault (rules form) false a h) o (stray_fault (shape form)))) none ∙ stray_bad form)
  positional_word (name ∷ left) (found, rule, more) plain =
      valued form left values name word (min (k + 1) usize_max) more (settled (rules form) h).rows h.skip rule same
      (turn_fault (shape form) [] (at h idle k) word) (walked (rules form) [] (at h idle k) word)
      (plain_turn form h idle k word plain
      ∙ ap (λ (o : Option Rule). option_map_or (λ a. positional_fault (rules form) false a h) o (stray_fault (shape form))) found
      ∙ ap (λ t. cond t [] (settle_fault (rules form) false h)) (and-false (is_pending (built_rule name None (Some k)) h.pending)) ∙ settles)
      (plain_walked form h idle k word plain
      ∙ ap (λ (o : Option Rule). to_positional (rules form) o word (at h idle k) h) found
      ∙ ap (λ t. at (pushed name word (cond t h (settled (rules form) h))) idle (min (k + 1) usize_max))
      (and-false (is_pending (built_rule name None (Some k)) h.pending)))

  known_option : (left : List Text) → Places (rules form) k left → (o : Text × Option Text)
      → option_of word ≡ Some o → list_any (has_option_name o.0) form.options ≡ true
      → After form (turn_fault (shape form) [] (at h idle k) word) (walked (rules form) [] (at h idle k) word) (value_at o.0 o.1 left values)
  known_option left places o is among = by o.1
      (option_turn form h idle k word o is
      ∙ ap (λ (f : Option Rule). or_else (long_fault (rules form) false f o.1 h)
      (step_fault (shape form) k (after_flag (rules form) idle word (long_met (rules form) f o.1 h).0 (long_met (rules form) f o.1 h).1).0
      (after_flag (rules form) idle word (long_met (rules form) f o.1 h).0 (long_met (rules form) f o.1 h).1).1)) (option_rule_is form o.0 true among))
      (option_walked form h idle k word o is
      ∙ ap (λ (f : Option Rule). after_step (rules form) word (at h idle k)
      (after_flag (rules form) idle word (long_met (rules form) f o.1 h).0 (long_met (rules form) f o.1 h).1).0
      (after_flag (rules form) idle word (long_met (rules form) f o.1 h).0 (long_met (rules form) f o.1 h).1).1) (option_rule_is form o.0 true among))
    where
      by : (v : Option Text)
          → turn_fault (shape form) [] (at h idle k) word ≡ or_else (long_fault (rules form) false (Some (built_rule o.0 (Some o.0) None)) v h)
          (step_fault (shape form) k
          (after_flag (rules form) idle word (long_met (rules form) (Some (built_rule o.0 (Some o.0) None)) v h).0
          (long_met (rules form) (Some (built_rule o.0 (Some o.0) None)) v h).1).0
          (after_flag (rules form) idle word (long_met (rules form) (Some (built_rule o.0 (Some o.0) None)) v h).0
          (long_met (rules form) (Some (built_rule o.0 (Some o.0) None)) v h).1).1)
          → walked (rules form) [] (at h idle k) word ≡ after_step (rules form) word (at h idle k)
          (after_flag (rules form) idle word (long_met (rules form) (Some (built_rule o.0 (Some o.0) None)) v h).0
          (long_met (rules form) (Some (built_rule o.0 (Some o.0) None)) v h).1).0
          (after_flag (rules form) idle word (long_met (rules form) (Some (built_rule o.0 (Some o.0) None)) v h).0
          (long_met (rules form) (Some (built_rule o.0 (Some o.0) None)) v h).1).1
          → After form (turn_fault (shape form) [] (at h idle k) word) (walked (rules form) [] (at h idle k) word) (value_at o.0 v left values)
      by (Some value) turn_is walk_is = attached form left values o.0 value k places h settles same
          (turn_fault (shape form) [] (at h idle k) word) (walked (rules form) [] (at h idle k) word) turn_is walk_is
      by None turn_is walk_is = (
        turn_is ∙ ap (λ a. or_else a []) settles,
        (asked left values o.0 (settled (rules form) h).rows h.skip k places (option_id 1 form.positionals form.options o.0 among) same, refl, walk_is),
      )

  unknown_option : (o : Text × Option Text) → option_of word ≡ Some o → list_any (has_option_name o.0) form.options ≡ false
      → is_clear (turn_fault (shape form) [] (at h idle k) word) ≡ false
  unknown_option o is other = ap is_clear (option_turn form h idle k word o is)
      ∙ first_bad (long_fault (rules form) false (arg_by_long (rules form) o.0) o.1 h) _
      (ap (λ (f : Option Rule). is_clear (long_fault (rules form) false f o.1 h)) (option_rule_is form o.0 false other) ∙ unknown_bad form o.1 h)

  pub ready_word : (left : List Text) → Places (rules form) k left → is_stray word ≡ false
      → After form (turn_fault (shape form) [] (at h idle k) word) (walked (rules form) [] (at h idle k) word) (at_word form (option_of word) word left values)
  ready_word left places clean = by (option_of word) refl
    where
      known : (o : Text × Option Text) → option_of word ≡ Some o → (t : Bool) → list_any (has_option_name o.0) form.options ≡ t
          → After form (turn_fault (shape form) [] (at h idle k) word) (walked (rules form) [] (at h idle k) word) (cond t (value_at o.0 o.1 left values) None)
      known o is true among = known_option left places o is among
      known o is false other = inl (unknown_option o is other)

      by : (o : Option (Text × Option Text)) → option_of word ≡ o
          → After form (turn_fault (shape form) [] (at h idle k) word) (walked (rules form) [] (at h idle k) word) (at_word form o word left values)
      by None is = positional_word left places (other_plain word clean is)
      by (Some o) is = known o is (list_any (has_option_name o.0) form.options) refl

-- one word, where an option waits for its value
module _ (form : Form) (left : List Text) (values : List (Text × Text)) (name : Text) (rows : List Row) (skip k : ℕ) (places : Places (rules form) k left)
    (rule : IsRule (arg_by_id (rules form) name) name) (same : rows ≡ map row values) where
  pub unsettled : is_clear (settle_fault (rules form) false (waiting name rows skip)) ≡ false
  unsettled = ap (λ (o : Option Rule). is_clear (option_map_or (λ a. use_fault false a [] rows) o [])) rule.2 ∙ no_value name rule.0 rule.1 rows

  value_word : (word : Text) → begins_with_minus word ≡ false
      → plain_word (rules form) (waits_for name) word (waiting name rows skip) ≡ (holding name word rows skip, passed_on idle)
  value_word word plain =
      ap (λ (o : Option Rule). ((option_word o name word (waiting name rows skip)).0, passed_on (option_word o name word (waiting name rows skip)).1)) rule.2
      ∙ ap (λ t. (holding name word rows skip, passed_on (cond (nat_lt (cond t 1 0) 1) (waits_for name) idle))) ((bytes_eq-Decides name name).1 refl)

  pub asked_word : (word : Text) → is_stray word ≡ false
      → After form (turn_fault (shape form) [] (at (waiting name rows skip) (waits_for name) k) word)
      (walked (rules form) [] (at (waiting name rows skip) (waits_for name) k) word)
      (next_by form (Some name) word left values)
  asked_word word clean = by (begins_with_minus word) refl
    where
      by : (t : Bool) → begins_with_minus word ≡ t
          → After form (turn_fault (shape form) [] (at (waiting name rows skip) (waits_for name) k) word)
          (walked (rules form) [] (at (waiting name rows skip) (waits_for name) k) word)
          (cond t None (with_value name word left values))
      by true minus =
          let o = minus_option word clean minus in
          inl (ap is_clear (option_turn form (waiting name rows skip) (waits_for name) k word o.0 o.1)
          ∙ first_bad (long_fault (rules form) false (arg_by_long (rules form) o.0.0) o.0.1 (waiting name rows skip)) _
          (option_bad form (waiting name rows skip) o.0 unsettled))
      by false plain = valued form left values name word k places rows skip rule same
          (turn_fault (shape form) [] (at (waiting name rows skip) (waits_for name) k) word)
          (walked (rules form) [] (at (waiting name rows skip) (waits_for name) k) word)
          (plain_turn form (waiting name rows skip) (waits_for name) k word plain ∙ ap (λ m. step_fault (shape form) k m.0 m.1) (value_word word plain))
          (plain_walked form (waiting name rows skip) (waits_for name) k word plain
          ∙ ap (λ m. after_step (rules form) word (at (waiting name rows skip) (waits_for name) k) m.0 m.1) (value_word word plain))

-- one word more
pub word_after : (form : Form) (stand : Stand form) (word : Text) → is_stray word ≡ false
    → After form (turn_fault (shape form) [] (walk_at form stand) word) (walked (rules form) [] (walk_at form stand) word)
    (next form (reading_at form stand) word)
word_after form (ready left values h k places settles rows) word clean = ready_word form values h k word settles rows left places clean
word_after form (asked left values name rows skip k places rule same) word clean = asked_word form left values name rows skip k places rule same word clean
