-- Numbered requests of a campaign whose list of accepted entries is H: a caller's number is used once.
use Rattle.std.specs.Prelude.{ℕ, Bool, false, ◌&&◌, ◌==◌, Option, None, Some}
use Rattle.std.specs.List.{enumerate_from, find}
use Rattle.std.specs.Option.{option_map_or}
use Rattle.std.specs.Str.{bytes_eq}
use Rattle.rulebook.specs.declared.entry.Entry.{Entry}
use Rattle.rulebook.specs.Words.{Text}
use Rattle.rulebook.specs.Campaign.{History}

-- whether a caller of this name gave an entry under this number
abbrev pub is_numbered : Text → ℕ → Entry → Bool
is_numbered name number e = bytes_eq e.core.caller.name name && option_map_or (λ given. given == number) e.core.number false

-- the entry for which a caller of this name used a number, with its place from 1
abbrev pub entry_of_number : History → Text → Option ℕ → Option (ℕ × Entry)
entry_of_number H name None = None
entry_of_number H name (Some number) = find (λ placed. is_numbered name number placed.1) (enumerate_from 1 H)
