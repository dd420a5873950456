-- The callers and their keys.
use Rattle.std.specs.Prelude.{ℕ, Bool, ◌&&◌, List, Option, map, find, bytes_eq}
use Rattle.std.specs.List.{list_all}
use Rattle.trec_formats.specs.Names.{is_name}
use Rattle.rulebook.specs.declared.rules.Caller.{Caller}
use Rattle.rulebook.specs.Spelling.{differ}
use Rattle.routes.specs.declared.keys.KeyRow.{KeyRow}
use Rattle.routes.specs.declared.keys.CallerText.{CallerText}
use Rattle.routes.specs.declared.keys.CallerText.TheVariants.{Name, Key}

abbrev pub caller_text : CallerText → KeyRow → List ℕ
caller_text Name caller = caller.name
caller_text Key caller = caller.key

-- each name is a name, and no two callers have one name or one key
abbrev pub are_rows : List KeyRow → Bool
are_rows callers =
    list_all (λ caller. is_name caller.name) callers && differ (map (λ caller. caller.name) callers) && differ (map (λ caller. caller.key) callers)

-- the caller with a key
abbrev pub caller_with : List KeyRow → List ℕ → Option KeyRow
caller_with callers key = find (λ caller. bytes_eq caller.key key) callers

-- a caller without its key
abbrev pub without_key : KeyRow → Caller
without_key caller = record { name = caller.name; role = caller.role }
