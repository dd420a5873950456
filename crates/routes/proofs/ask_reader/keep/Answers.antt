use Rattle.std.proofs.Common.{◌++◌, ap, arith, length-append, subst, sym}
use Rattle.std.proofs.lemmas.Result.{on_ok_weaker}
use Rattle.trec_formats.specs.RunFormat.RunStates.{IsAfter, RunFed}
use Rattle.routes.proofs.ask_reader.keep.Goals as goal

pub returns-in-Run-clause-kept : goal.returns-in-Run-clause-kept
returns-in-Run-clause-kept c =
    on_ok_weaker c.feed.result (λ fed told kept. fed told (subst (IsAfter told) (sym c.deref_mut.ensures.value) (rw c.in-Run.is at kept))) c.feed.ensures.ok

pub returns-in-Run-clause-few : goal.returns-in-Run-clause-few
returns-in-Run-clause-few c =
    on_ok_weaker c.feed.result (λ after fed few.
    let (fewer, (text, short, read)) = rw c.in-Run.is at few in (
      omega (arith, fewer, c.feed.ensures.fed, ap (λ (reader : RunFed). reader.fed) c.deref_mut.ensures.value),
      (
        text ++ c.args.piece.now,
        omega (arith, short, length-append text c.args.piece.now),
        after text (subst (IsAfter text) (sym c.deref_mut.ensures.value) read),
      ),
    )) c.feed.ensures.ok
