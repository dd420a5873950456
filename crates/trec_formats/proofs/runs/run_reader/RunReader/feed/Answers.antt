use Rattle.std.proofs.Common.{subst, ◌+◌, sym, length}
use Rattle.trec_formats.specs.RunFormat.RunStates.{IsRunAt, RunFed}
use Rattle.trec_formats.proofs.RunTexts.RunFeeds.{held_few}
use Rattle.std.proofs.lemmas.Result.{on_ok_weaker}
use Rattle.trec_formats.proofs.runs.run_reader.RunReader.feed.Goals as goal

pub invariant_of-self : goal.invariant_of-self
invariant_of-self c = record { few = rw (← c.self.view_is) at c.requires; held = c.read_on.ensures.held c.self.inside.fed c.self.invariant.held }

pub returns-clause-ok : goal.returns-clause-ok
returns-clause-ok c =
    on_ok_weaker c.read_on.result (λ fed text after. fed text (subst (λ (r : RunFed). IsRunAt text r.progress) (sym c.self.view_is) after)) c.read_on.ensures.ok

pub returns-clause-held : goal.returns-clause-held
returns-clause-held c =
    held_few (c.self.inside.fed + length c.args.piece.now) c.read_on.new.progress (c.read_on.ensures.held c.self.inside.fed c.self.invariant.held)
