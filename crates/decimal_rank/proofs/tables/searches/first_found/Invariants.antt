-- What is found is the first that passes the test, of the items from where the walk is on.
use Rattle.std.proofs.Common.{suc}
use Rattle.std.specs.Option.{option_map, option_map_or}
use Rattle.decimal_rank.proofs.BucketTables.Walks.{IsWalked}
use Rattle.decimal_rank.proofs.tables.searches.first_found.Given as goal

abbrev pub invariant-loop-next : goal.invariant-loop-next
invariant-loop-next g l = IsWalked (g.S.Sought.finds l.sought) l.chains l.items l.key l.next (option_map (λ item. item.now) l.found)

abbrev pub decreases-loop-next : goal.decreases-loop-next
decreases-loop-next g l = option_map_or suc l.next 0
