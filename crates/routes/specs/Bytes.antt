-- The bytes that paths are cut at and JSON texts (RFC 8259) are made of.
use Rattle.std.specs.Prelude.{ℕ}

abbrev pub quote : ℕ
quote = 34

abbrev pub backslash : ℕ
backslash = 92

abbrev pub comma : ℕ
comma = 44

abbrev pub colon : ℕ
colon = 58

abbrev pub slash : ℕ
slash = 47
