-- What a word is by its first bytes.
use Rattle.std.proofs.Common.{◌≡◌, ◌∙◌, Bool, true, false, ◌∷◌, [], Option, Some, None, refl, sym, ap, true≢false}
use Rattle.std.specs.Prelude.{bytes_eq, is_some, option_and_then}
use Rattle.std.specs.Option.{option_map_or}
use Rattle.std.proofs.lemmas.Slice.Eq.{bytes_eq-Decides}
use Rattle.decimal_rank.proofs.Lists.{none_is}
use Rattle.clap.specs.Lexer.{short_of, short_of_rest}
use Rattle.command_words.specs.Words.{Text, begins_with_minus, behind_minus, is_stray, option_named, option_of}

plain_behind : (word : Text) → begins_with_minus word ≡ false → behind_minus word ≡ None
plain_behind word plain = none_is (behind_minus word) plain

pub no_option : (word : Text) → begins_with_minus word ≡ false → option_of word ≡ None
no_option word plain = ap (λ o. option_and_then option_named (option_and_then behind_minus o)) (plain_behind word plain)

pub no_short : (word : Text) → begins_with_minus word ≡ false → short_of word ≡ None
no_short word plain = ap (λ o. option_and_then short_of_rest o) (plain_behind word plain)

not_dashes : (word : Text) → (word ≡ 45 ∷ 45 ∷ [] → ⊥) → bytes_eq word (45 ∷ 45 ∷ []) ≡ false
not_dashes word other = by (bytes_eq word (45 ∷ 45 ∷ [])) refl
  where
    by : (t : Bool) → bytes_eq word (45 ∷ 45 ∷ []) ≡ t → bytes_eq word (45 ∷ 45 ∷ []) ≡ false
    by true is = absurd (other ((bytes_eq-Decides word (45 ∷ 45 ∷ [])).0 is))
    by false is = is

pub plain_dashes : (word : Text) → begins_with_minus word ≡ false → bytes_eq word (45 ∷ 45 ∷ []) ≡ false
plain_dashes word plain = not_dashes word (λ is. true≢false (sym (ap begins_with_minus is) ∙ plain))

pub option_dashes : (word : Text) (o : Text × Option Text) → option_of word ≡ Some o → bytes_eq word (45 ∷ 45 ∷ []) ≡ false
option_dashes word o is =
    not_dashes word (λ dashes. true≢false (sym (ap (λ (f : Option (Text × Option Text)). is_some f) is) ∙ ap (λ (w : Text). is_some (option_of w)) dashes))

-- a word that isn't stray and is no option doesn't begin with a minus
pub other_plain : (word : Text) → is_stray word ≡ false → option_of word ≡ None → begins_with_minus word ≡ false
other_plain word clean none =
    sym (ap (λ (o : Option (Text × Option Text)). option_map_or (λ option. option_map_or begins_with_minus option.1 false) o (begins_with_minus word)) none)
    ∙ clean

-- a word that isn't stray and begins with a minus is an option
pub minus_option : (word : Text) → is_stray word ≡ false → begins_with_minus word ≡ true → (found : Text × Option Text) × (option_of word ≡ Some found)
minus_option word clean minus = by (option_of word) refl
  where
    by : (o : Option (Text × Option Text)) → option_of word ≡ o → (found : Text × Option Text) × (option_of word ≡ Some found)
    by None is = absurd (true≢false (sym minus ∙ other_plain word clean is))
    by (Some found) is = (found, is)
