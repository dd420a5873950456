use Rattle.std.proofs.Common.{[], subst, sym}
use Rattle.trec_formats.specs.RunFormat.RunStates.{IsAfter}
use Rattle.routes.specs.PathTable.RouteTable.{Asks}
use Rattle.routes.specs.Faults.{IsRead}
use Rattle.routes.proofs.Requests.AskFeeds.{query_asked}
use Rattle.routes.proofs.ask_reader.ask_of.Goals as goal

pub returns-in-Passed-clause-ask : goal.returns-in-Passed-clause-ask
returns-in-Passed-clause-ask c = λ told kept.
    query_asked c.args.place c.args.text.now [] told c.ask_at.result c.requires.known (rw c.in-Passed.is at c.requires.suits) c.ask_at.ensures.ask

pub returns-in-Run-clause-ask : goal.returns-in-Run-clause-ask
returns-in-Run-clause-ask c = λ told kept.
    subst (λ asked. IsRead (Asks asked c.args.text.now told) c.ask_run.result) (sym (rw c.in-Run.is at c.requires.suits))
    (c.ask_run.ensures told (subst (IsAfter told) (sym c.into_inner.ensures) (rw c.in-Run.is at kept)))
