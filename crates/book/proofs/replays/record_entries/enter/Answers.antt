-- Whether an entry of the core was added.
use Rattle.std.proofs.Common.{sym, ◌∙◌}
use Rattle.book.proofs.CoreEntries.{addressed_core, enters_result, enters_ungiven}
use Rattle.book.proofs.replays.record_entries.enter.Goals as goal

pub returns-then-not-is_givable : goal.returns-then-not-is_givable
returns-then-not-is_givable c =
    enters_ungiven c.args.replay.now c.args.core c.entries-legal.ensures.legal (sym c.is_givable.ensures ∙ c.if-not-is_givable.true)

pub enter-requires : goal.enter-requires
enter-requires c = addressed_core c.args.core (sym c.is_givable.ensures ∙ c.if-not-is_givable.false) c.requires.spelled c.requires.short

pub returns : goal.returns
returns c =
    enters_result c.args.replay.now c.args.core c.entries-legal.ensures.legal c.requires.laws
    (addressed_core c.args.core (sym c.is_givable.ensures ∙ c.if-not-is_givable.false) c.requires.spelled c.requires.short)
    c.enter.result c.enter.new.self c.enter.ensures
