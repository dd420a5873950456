-- A call that leaves the content joins the calls.
use Rattle.std.proofs.Common.{◌≡◌, ◌∙◌, [], ◌∷◌, ◌++◌, ap, refl, rules}
use Rattle.disk_model.specs.MemoryDisks.{HeldContent, begun_with, content_of, with_call}
use Rattle.disk_model.proofs.HeldCalls.{held_as, held_with, quiet_content, replayed_with}
use Rattle.disk_model.proofs.Images.{content_left}
use Rattle.disk_model.proofs.held_bytes.HeldBytes.note.Goals.{After-push_reserved}
use Rattle.disk_model.proofs.held_bytes.HeldBytes.note.Goals as goal

calls_are : (c : After-push_reserved) → c.push_reserved.new.self.items ≡ c.self.inside.calls.items ++ c.args.call ∷ []
calls_are c = search rules

joined : (c : After-push_reserved)
    → held_as (begun_with c.self.inside.start c.self.inside.content.items) c.push_reserved.new.self.items ≡ with_call c.args.self.now c.args.call
joined c =
    let bytes = c.self.inside.content.items in
    let start = begun_with c.self.inside.start bytes in
    held_with start bytes c.self.inside.calls.items c.args.self.now c.self.invariant c.self.view_is start bytes c.push_reserved.new.self.items refl c.args.call
    (calls_are c)

pub invariant_of-self-2 : goal.invariant_of-self-2
invariant_of-self-2 c =
    let bytes = c.self.inside.content.items in
    let start = begun_with c.self.inside.start bytes in
    replayed_with start bytes c.self.inside.calls.items c.args.self.now c.self.invariant c.self.view_is start bytes c.push_reserved.new.self.items refl
    c.args.call (calls_are (goal.at.invariant_of-self-2 c).After-push_reserved) (content_left c.args.call c.requires bytes)

pub returns-clause-ok : goal.returns-clause-ok
returns-clause-ok c = joined (goal.at.returns-clause-ok c).After-push_reserved

pub returns-clause-content : goal.returns-clause-content
returns-clause-content c =
    ap (λ (held : HeldContent). content_of held) (joined (goal.at.returns-clause-content c).After-push_reserved)
    ∙ quiet_content c.args.self.now c.args.call c.requires
