-- JSON objects (RFC 8259) without spaces, with a line feed behind.
use Rattle.std.specs.Prelude.{ℕ, ◌||◌, ◌==◌, List, [], ◌∷◌, ◌++◌, map, codes, if◌then◌else◌}
use Rattle.std.specs.List.{flat_map, join_with_byte}
use Rattle.routes.specs.Bytes.{backslash, colon, comma, quote}

-- a text with '\' before each '"' and '\'
abbrev pub escaped_byte : ℕ → List ℕ
escaped_byte b = if b == quote || b == backslash then backslash ∷ b ∷ [] else b ∷ []

abbrev pub escaped : List ℕ → List ℕ
escaped text = flat_map escaped_byte text

-- Values

-- a word, which has no '"' and no '\', between quotes
abbrev pub in_quotes : List ℕ → List ℕ
in_quotes text = quote ∷ (text ++ quote ∷ [])

-- any text between quotes
abbrev pub quoted : List ℕ → List ℕ
quoted text = in_quotes (escaped text)

-- an array of texts
abbrev pub listed : List (List ℕ) → List ℕ
listed texts = codes "[" ++ (join_with_byte comma (map quoted texts) ++ codes "]")

-- Objects

-- a name, and the text of its value
abbrev pub Member : Type 0
Member = List ℕ × List ℕ

abbrev pub member_text : Member → List ℕ
member_text member = in_quotes member.0 ++ (colon ∷ member.1)

abbrev pub object : List Member → List ℕ
object members = codes "{" ++ (join_with_byte comma (map member_text members) ++ codes "}\n")
