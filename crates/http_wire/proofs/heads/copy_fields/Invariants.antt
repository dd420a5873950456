-- The fields so far are those that the spans so far have in the text.
use Rattle.std.proofs.Common.{◌≡◌, take, map}
use Rattle.http_wire.specs.Fronts.{field_at}
use Rattle.http_wire.proofs.heads.copy_fields.Given as goal

abbrev pub invariant-loop-span : goal.invariant-loop-span
invariant-loop-span l = l.fields.items ≡ map (field_at l.text) (take l.span-index l.spans)
