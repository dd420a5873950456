use Rattle.std.proofs.Common.{subst, sym}
use Rattle.std.proofs.lemmas.Result.{on_ok_weaker}
use Rattle.routes.specs.AskReading.AskStates.{AskFed, IsAsking}
use Rattle.routes.specs.Openings.{opening_of}
use Rattle.routes.proofs.ask_reader.AskReader.feed.Goals as goal

pub invariant_of-self : goal.invariant_of-self
invariant_of-self c = record { few = rw (← c.self.view_is) at c.requires; held = c.read_on.ensures.held c.self.inside.fed c.self.invariant.held }

pub returns-clause-ok : goal.returns-clause-ok
returns-clause-ok c =
    on_ok_weaker c.read_on.result (λ fed head keys body asking.
    fed (opening_of head.method head.path head.fields keys) head.path body
    (subst (λ (reader : AskFed). IsAsking head keys body reader) (sym c.self.view_is) asking)) c.read_on.ensures.ok
