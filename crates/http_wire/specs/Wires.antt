-- What a wire keeps true of its fields.
use Rattle.std.specs.Prelude.{◌+◌, ◌≤◌, length, drop}
use Rattle.http_wire.specs.declared.wires.Wire.TheInside.{Inside}
use Rattle.http_wire.specs.Heads.{behind_line_ends}
use Rattle.http_wire.specs.Fronts.{IsSearched}

-- At most half of the bytes that are kept were given or passed over, and no head of the others ends before where it is looked for.
pub record IsKept (wire : Inside) : Type 0 where
  pub half : wire.done + wire.done ≤ length wire.bytes.items
  pub searched : IsSearched (behind_line_ends (drop wire.done wire.bytes.items)) wire.searched
