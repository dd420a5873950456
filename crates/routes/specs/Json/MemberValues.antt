-- The members that the code writes, as members of an object.
use Rattle.std.specs.Prelude.{ℕ, Bool, not, ◌==◌, ◌&&◌, List, ◌∷◌, codes, decimal}
use Rattle.std.specs.List.{flat_map}
use denote.Ref.{Bor}
use Rattle.routes.specs.declared.answers.values.Value.{Value}
use Rattle.routes.specs.declared.answers.values.Value.TheVariants.{Word, Quoted, Number, Listed, True}
use Rattle.routes.specs.Bytes.{backslash, comma, quote}
use Rattle.routes.specs.Json.Objects.{Member, in_quotes, listed, member_text, quoted}

-- a byte that is written as it is
abbrev pub is_unescaped_byte : ℕ → Bool
is_unescaped_byte b = not (b == quote) && not (b == backslash)

abbrev pub value_text : Value → List ℕ
value_text (Word text) = in_quotes text.now
value_text (Quoted text) = quoted text.now
value_text (Number number) = decimal number
value_text (Listed texts) = listed texts.now
value_text True = codes "true"

-- a member of the code's
abbrev pub shown : Bor (List ℕ) × Value → Member
shown member = (member.0.now, value_text member.1)

-- its text
abbrev pub shown_text : Bor (List ℕ) × Value → List ℕ
shown_text member = member_text (shown member)

-- what stands behind the first of some members, and of some texts
abbrev pub further_members : List (Bor (List ℕ) × Value) → List ℕ
further_members members = flat_map (λ member. comma ∷ shown_text member) members

abbrev pub further_texts : List (List ℕ) → List ℕ
further_texts texts = flat_map (λ text. comma ∷ quoted text) texts
