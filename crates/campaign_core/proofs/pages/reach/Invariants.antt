-- There are as many orders as were counted.
use Rattle.std.proofs.Common.{◌≡◌, length}
use Rattle.campaign_core.proofs.pages.reach.Given as goal

abbrev pub invariant-loop : goal.invariant-loop
invariant-loop l = length l.orders.items ≡ l.counter
