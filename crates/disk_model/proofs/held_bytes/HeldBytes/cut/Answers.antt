-- A cut joins the calls.
use Rattle.std.proofs.Common.{◌≡◌, [], ◌∷◌, ◌++◌, rules, take}
use Rattle.disk_model.specs.declared.disk_calls.DiskCall.TheVariants.{Cut}
use Rattle.disk_model.specs.MemoryDisks.{begun_with}
use Rattle.disk_model.proofs.HeldCalls.{held_with, replayed_with}
use Rattle.disk_model.proofs.held_bytes.HeldBytes.cut.Goals.{After-push_reserved}
use Rattle.disk_model.proofs.held_bytes.HeldBytes.cut.Goals as goal

calls_are : (c : After-push_reserved) → c.push_reserved.new.self.items ≡ c.self.inside.calls.items ++ Cut c.args.to ∷ []
calls_are c = search rules

content_is : (c : After-push_reserved) → c.truncate.new.self.items ≡ take c.args.to c.self.inside.content.items
content_is c = search rules

pub invariant_of-self-2 : goal.invariant_of-self-2
invariant_of-self-2 c =
    let now = (goal.at.invariant_of-self-2 c).After-push_reserved in
    let bytes = c.self.inside.content.items in
    let later = c.truncate.new.self.items in
    replayed_with (begun_with c.self.inside.start bytes) bytes c.self.inside.calls.items c.args.self.now c.self.invariant c.self.view_is
    (begun_with c.keep_start.new.start later) later c.push_reserved.new.self.items (c.in_ok-keep_start.ensures.begun later)
    (Cut c.args.to) (calls_are now) (content_is now)

pub returns-clause-ok : goal.returns-clause-ok
returns-clause-ok c =
    let bytes = c.self.inside.content.items in
    let later = c.truncate.new.self.items in
    held_with (begun_with c.self.inside.start bytes) bytes c.self.inside.calls.items c.args.self.now c.self.invariant c.self.view_is
    (begun_with c.keep_start.new.start later) later c.push_reserved.new.self.items (c.in_ok-keep_start.ensures.begun later)
    (Cut c.args.to) (calls_are (goal.at.returns-clause-ok c).After-push_reserved)
