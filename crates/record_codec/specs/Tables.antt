-- Tables of what entries use, each thing once, in the order of first use; the callers of entries.
use Rattle.std.specs.Prelude.{◌==◌, ◌&&◌, ℕ, zero, suc, Bool, List, [], ◌∷◌, ◌++◌, map, bytes_eq, if◌then◌else◌}
use Rattle.std.specs.List.{fold, list_any}
use Rattle.rulebook.specs.declared.rules.Caller.{Caller}
use Rattle.rulebook.specs.declared.entry.EntryCore.{EntryCore}
use Rattle.rulebook.specs.Spelling.{role_byte}

module _ {X : Type 0} (same : X → X → Bool) where
  -- x goes last, where it isn't there
  abbrev pub with_use : List X → X → List X
  with_use table x = if list_any (same x) table then table else table ++ x ∷ []

  -- what is used, each thing once, in the order of first use
  abbrev pub table_of : List X → List X
  table_of uses = fold with_use [] uses

  -- the index of a thing in a table
  abbrev pub index_of : List X → X → ℕ
  index_of [] x = zero
  index_of (y ∷ table) x = if same x y then zero else suc (index_of table x)

-- the same name and role
abbrev pub same_caller : Caller → Caller → Bool
same_caller a b = bytes_eq a.name b.name && role_byte a.role == role_byte b.role

-- the callers of entries
abbrev pub callers_of : List EntryCore → List Caller
callers_of cores = table_of same_caller (map (λ c. c.caller) cores)
