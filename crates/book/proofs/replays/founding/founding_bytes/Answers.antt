-- The founding entry has a spelling.
use Rattle.std.proofs.Common.{◌≡◌, true, subst, sym}
use Rattle.rulebook.specs.declared.entry.EntryCore.{EntryCore}
use Rattle.rulebook.specs.Spelling.{has_spelling}
use Rattle.book.proofs.Founders.{rules_spelled}
use Rattle.book.proofs.replays.founding.founding_bytes.Goals as goal

pub write_entry-requires : goal.write_entry-requires
write_entry-requires c = subst (λ (core : EntryCore). has_spelling core ≡ true) (sym c.in_ok-core.ensures) (rules_spelled c.args.rules c.requires)
