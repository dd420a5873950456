-- The bytes are what the calls made of the start.
use Rattle.std.proofs.Common.{◌≡◌, rules}
use Rattle.disk_model.specs.MemoryDisks.{begun_with}
use Rattle.disk_model.proofs.HeldCalls.{bytes_are}
use Rattle.disk_model.proofs.held_bytes.HeldBytes.content.Goals as goal

pub returns : goal.returns
returns c =
    let bytes = c.self.inside.content.items in
    let same : c.deref.result.now ≡ bytes = search rules in
    rw same (bytes_are (begun_with c.self.inside.start bytes) bytes c.self.inside.calls.items c.args.self.now c.self.invariant c.self.view_is)
