-- The rules of a form's names, once its command line is built, and how `clap` finds them.
use Rattle.std.proofs.Common.{◌≡◌, ◌∙◌, ◌+◌, ◌≤◌, ◌&&◌, ◌||◌, ℕ, Bool, true, false, not, cond, List, [], ◌∷◌, ◌++◌, Option, Some, None, map, length, min, refl, sym, ap, ap₂, arith, fold, true≢false, eq-eqb, ne_eqb}
use Rattle.std.specs.Prelude.{bytes_eq}
use Rattle.std.specs.List.{list_all, list_any}
use Rattle.std.proofs.lemmas.Slice.Eq.{bytes_eq-Decides}
use Rattle.std.proofs.Math.Nat.{le_refl}
use Rattle.std.proofs.lemmas.Bool.{or_right}
use Rattle.decimal_rank.proofs.Lists.{any_front}
use Rattle.decimal_rank.proofs.TruthValues.{cond_same}
use Rattle.clap.specs.Words.{Row, Rule}
use Rattle.clap.specs.Faults.{defaults_fault, given_default_fault}
use Rattle.clap.specs.Kinds.{or_else}
use Rattle.clap.specs.Lexer.{usize_max}
use Rattle.clap.specs.Simple.{filled_from}
use Rattle.clap.specs.Takes.{is_given}
use Rattle.clap.specs.Walk.{arg_by_id, arg_by_index, arg_by_long, has_row, is_early_multiple, with_default}
use Rattle.command_words.specs.CommandLines.{option_rule, place_rule}
use Rattle.command_words.specs.Words.{Text, has_option_name}
use Rattle.command_words.proofs.SingleValues.{built_rule}

-- a name, its long name and its place
abbrev pub Slot : Type 0
Slot = Text × Option Text × Option ℕ

abbrev pub slot_rule : Slot → Rule
slot_rule s = built_rule s.0 s.1 s.2

abbrev pub option_slot : Text → Slot
option_slot name = (name, Some name, None)

abbrev pub slots : ℕ → List Text → List Text → List Slot
slots i [] os = map option_slot os
slots i (p ∷ ps) os = (p, None, Some i) ∷ slots (min (i + 1) usize_max) ps os

options_filled : (i : ℕ) (os : List Text) → filled_from i (map option_rule os) ≡ map slot_rule (map option_slot os)
options_filled i [] = refl
options_filled i (o ∷ os) = ap (λ rest. slot_rule (option_slot o) ∷ rest) (options_filled i os)

-- building fills in the rules
pub filled_is : (i : ℕ) (ps os : List Text) → filled_from i (map place_rule ps ++ map option_rule os) ≡ map slot_rule (slots i ps os)
filled_is i [] os = options_filled i os
filled_is i (p ∷ ps) os = ap (λ rest. built_rule p None (Some i) ∷ rest) (filled_is (min (i + 1) usize_max) ps os)

options_names : (os : List Text) → map (λ (s : Slot). s.0) (map option_slot os) ≡ os
options_names [] = refl
options_names (o ∷ os) = ap (λ rest. o ∷ rest) (options_names os)

pub slot_names : (i : ℕ) (ps os : List Text) → map (λ (s : Slot). s.0) (slots i ps os) ≡ ps ++ os
slot_names i [] os = options_names os
slot_names i (p ∷ ps) os = ap (λ rest. p ∷ rest) (slot_names (min (i + 1) usize_max) ps os)

-- the rule of a name, wherever it stands
abbrev pub IsRule : Option Rule → Text → Type 0
IsRule found name = (long : Option Text) × (index : Option ℕ) × (found ≡ Some (built_rule name long index))

pub by_id : (ss : List Slot) (name : Text) → list_any (has_option_name name) (map (λ (s : Slot). s.0) ss) ≡ true
    → IsRule (arg_by_id (map slot_rule ss) name) name
by_id [] name bad = absurd (true≢false (sym bad))
by_id (s ∷ ss) name among = by (bytes_eq s.0 name) refl among (by_id ss name)
  where
    by : (t : Bool) → bytes_eq s.0 name ≡ t → (t || list_any (has_option_name name) (map (λ (s : Slot). s.0) ss)) ≡ true
        → (list_any (has_option_name name) (map (λ (s : Slot). s.0) ss) ≡ true → IsRule (arg_by_id (map slot_rule ss) name) name)
        → IsRule (cond t (Some (slot_rule s)) (arg_by_id (map slot_rule ss) name)) name
    by true is here later = (s.1, s.2, ap (λ id. Some (built_rule id s.1 s.2)) ((bytes_eq-Decides s.0 name).0 is))
    by false is here later = later here

long_option : (os : List Text) (name : Text)
    → arg_by_long (map slot_rule (map option_slot os)) name ≡ cond (list_any (has_option_name name) os) (Some (built_rule name (Some name) None)) None
long_option [] name = refl
long_option (o ∷ os) name = by (bytes_eq o name) refl (long_option os name)
  where
    by : (t : Bool) → bytes_eq o name ≡ t
        → arg_by_long (map slot_rule (map option_slot os)) name ≡ cond (list_any (has_option_name name) os) (Some (built_rule name (Some name) None)) None
        → cond (t || false) (Some (slot_rule (option_slot o))) (arg_by_long (map slot_rule (map option_slot os)) name)
        ≡ cond (t || list_any (has_option_name name) os) (Some (built_rule name (Some name) None)) None
    by true is later = ap (λ (id : Text). Some (built_rule id (Some id) None)) ((bytes_eq-Decides o name).0 is)
    by false is later = later

-- an option by its long name
pub by_long : (i : ℕ) (ps os : List Text) (name : Text)
    → arg_by_long (map slot_rule (slots i ps os)) name ≡ cond (list_any (has_option_name name) os) (Some (built_rule name (Some name) None)) None
by_long i [] os name = long_option os name
by_long i (p ∷ ps) os name = by_long (min (i + 1) usize_max) ps os name

-- the positional words still to come stand at these places, and none behind them
abbrev pub Places : List Rule → ℕ → List Text → Type 0
Places c k [] = arg_by_index c k ≡ None
Places c k (name ∷ left) = (arg_by_index c k ≡ Some (built_rule name None (Some k))) × IsRule (arg_by_id c name) name × Places c (min (k + 1) usize_max) left

no_place : (os : List Text) (k : ℕ) → arg_by_index (map slot_rule (map option_slot os)) k ≡ None
no_place [] k = refl
no_place (o ∷ os) k = no_place os k

is_name : (name : Text) (rest : Bool) → (bytes_eq name name || rest) ≡ true
is_name name rest = ap (λ t. t || rest) ((bytes_eq-Decides name name).1 refl)

pub places : (c : List Rule) (j : ℕ) (ps os : List Text) → j + length ps ≤ usize_max
    → ((k : ℕ) → j ≤ k → arg_by_index c k ≡ arg_by_index (map slot_rule (slots j ps os)) k)
    → ((name : Text) → list_any (has_option_name name) ps ≡ true → IsRule (arg_by_id c name) name) → Places c j ps
places c j [] os fits same ids = same j (le_refl j) ∙ no_place os j
places c j (p ∷ ps) os fits same ids = (
  same j (le_refl j)
      ∙ ap (λ t. cond t (Some (built_rule p None (Some j))) (arg_by_index (map slot_rule (slots (min (j + 1) usize_max) ps os)) j)) (eq-eqb j j refl),
  ids p (is_name p (list_any (has_option_name p) ps)),
  places c (min (j + 1) usize_max) ps os (omega arith) (λ k at. same k (omega arith) ∙ past k at)
      (λ name among. ids name (or_right (bytes_eq p name) (list_any (has_option_name name) ps) among)),
)
  where
    past : (k : ℕ) → min (j + 1) usize_max ≤ k
        → arg_by_index (map slot_rule (slots j (p ∷ ps) os)) k ≡ arg_by_index (map slot_rule (slots (min (j + 1) usize_max) ps os)) k
    past k at = ap (λ t. cond t (Some (built_rule p None (Some j))) (arg_by_index (map slot_rule (slots (min (j + 1) usize_max) ps os)) k))
        (ne_eqb j k (λ e. omega arith))

any_right : {X : Type 0} (p : X → Bool) (xs ys : List X) → list_any p ys ≡ true → list_any p (xs ++ ys) ≡ true
any_right p [] ys is = is
any_right p (x ∷ xs) ys is = or_right (p x) (list_any p (xs ++ ys)) (any_right p xs ys is)

-- each of a form's names has its rule
pub place_id : (i : ℕ) (ps os : List Text) (name : Text) → list_any (has_option_name name) ps ≡ true
    → IsRule (arg_by_id (map slot_rule (slots i ps os)) name) name
place_id i ps os name among =
    by_id (slots i ps os) name (ap (list_any (has_option_name name)) (slot_names i ps os) ∙ any_front (has_option_name name) ps os among)

pub option_id : (i : ℕ) (ps os : List Text) (name : Text) → list_any (has_option_name name) os ≡ true
    → IsRule (arg_by_id (map slot_rule (slots i ps os)) name) name
option_id i ps os name among =
    by_id (slots i ps os) name (ap (list_any (has_option_name name)) (slot_names i ps os) ∙ any_right (has_option_name name) ps os among)

-- what comes behind the words: no defaults, and each name is required

pub finished_is : (ss : List Slot) (rows : List Row) → fold with_default rows (map slot_rule ss) ≡ rows
finished_is [] rows = refl
finished_is (s ∷ ss) rows = ap (λ r. fold with_default r (map slot_rule ss)) (cond_same (has_row s.0 rows) rows) ∙ finished_is ss rows

pub no_defaults : (ss : List Slot) (rows : List Row) → defaults_fault rows (map slot_rule ss) ≡ []
unfolding defaults_fault
no_defaults [] rows = refl
no_defaults (s ∷ ss) rows =
    ap₂ or_else (by (has_row s.0 rows)) (ap (λ r. defaults_fault r (map slot_rule ss)) (cond_same (has_row s.0 rows) rows) ∙ no_defaults ss rows)
  where
    by : (t : Bool) → cond (t || true) [] (given_default_fault (slot_rule s) []) ≡ []
    by true = refl
    by false = refl

pub missing_is : (ss : List Slot) (rows : List Row)
    → list_any (λ a. a.required && not (is_given a.id rows)) (map slot_rule ss) ≡ list_any (λ name. not (is_given name rows)) (map (λ (s : Slot). s.0) ss)
missing_is [] rows = refl
missing_is (s ∷ ss) rows = ap (λ t. not (is_given s.0 rows) || t) (missing_is ss rows)

-- the rules are simple

pub all_simple : (ss : List Slot) → list_all (λ (a : Rule). a.is_simple) (map slot_rule ss) ≡ true
all_simple [] = refl
all_simple (s ∷ ss) = all_simple ss

pub all_free : (ss : List Slot) → list_all (λ (a : Rule). a.is_free) (map slot_rule ss) ≡ true
all_free [] = refl
all_free (s ∷ ss) = all_free ss

pub none_early : (n : ℕ) (ss : List Slot) → list_any (is_early_multiple n) (map slot_rule ss) ≡ false
none_early n [] = refl
none_early n (s ∷ ss) = by s.2 ∙ none_early n ss
  where
    by : (index : Option ℕ) → (is_early_multiple n (built_rule s.0 s.1 index) || list_any (is_early_multiple n) (map slot_rule ss))
        ≡ list_any (is_early_multiple n) (map slot_rule ss)
    by None = refl
    by (Some i) = refl
